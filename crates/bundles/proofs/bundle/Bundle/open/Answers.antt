use Rattle.std.proofs.Common.{ap₂}
use Rattle.bundles.specs.Contents.{sections_of}
use Rattle.bundles.proofs.Chunks.{pages_rest}
use Rattle.bundles.proofs.bundle.Bundle.open.Goals as goal

pub returns : goal.returns
returns c =
    let bytes = c.args.bytes.now in
    let s = rw c.unwrap.ensures at c.split_rows.ensures in
    let two = pages_rest bytes c.unwrap.result.1.now s.4 in
    record { meaning = ap₂ (sections_of c.args.page_size) s.1 two; rows = s.1; one = s.2; two = two }
