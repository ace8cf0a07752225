use Rattle.std.proofs.Common.{◌≡◌, ◌++◌, codes, string_bytes, sym, ap, ◌∙◌, subst, ap₂}
use Rattle.std.proofs.lemmas.Result.{IfOk-weaker}
use Rattle.stores.specs.Meaning.{Meaning}
use Rattle.bundles.specs.Bundles.{listed_by}
use Rattle.console.specs.Lines.{Described, lists, refuses, listing, refusal_line}
use Rattle.console.proofs.listings.describe.Goals as goal

pub returns-in-Ok : goal.returns-in-Ok
returns-in-Ok c =
    let p = c.args.page_size in
    let bytes = c.args.bytes.now in
    let b = c.in-Ok.bundle in
    let o = c.in-Ok.ensures.opened in
    let same = ap₂ listing (ap (λ (m : Meaning). m.size) o.meaning) o.rows in
    IfOk-weaker c.list.result (λ s. string_bytes s ≡ listing b.page_size (listed_by b)) (λ s. Described p bytes (string_bytes s))
    (λ s e. subst (Described p bytes) (sym (e ∙ same)) (lists (sym c.in-Ok.ensures.answer))) c.list.ensures

pub returns-in-Err : goal.returns-in-Err
returns-in-Err c =
    let p = c.args.page_size in
    let bytes = c.args.bytes.now in
    let f = c.in-Err.fault in
    IfOk-weaker c.format.result (λ s. string_bytes s ≡ refusal_line f ++ codes "\n") (λ s. Described p bytes (string_bytes s))
    (λ s e. subst (Described p bytes) (sym e) (refuses f (sym c.in-Err.ensures.answer))) c.format.ensures.ok
