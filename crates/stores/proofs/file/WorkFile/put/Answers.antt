use Rattle.std.proofs.Common.{◌*◌, ◌∙◌, ap, arith}
use Rattle.std.proofs.lemmas.List.{with_items_is}
use Rattle.stores.specs.Files.{file_of}
use Rattle.stores.specs.Parts.{laid}
use Rattle.stores.proofs.Filed.{file_written}
use Rattle.stores.proofs.file.WorkFile.put.Goals as goal

pub returns : goal.returns
returns c =
    let w = c.args.self.now in
    let p = w.page_size in
    let n = c.args.key.now.0 in
    let page = c.args.page.now in
    ap (file_of p) (with_items_is w.bytes c.lay.new.bytes (omega arith) ∙ c.lay.ensures ∙ ap (laid (n * p) page) c.as_mut_slice.ensures.value)
    ∙ file_written p n page w.bytes.items (omega arith) c.requires.whole
