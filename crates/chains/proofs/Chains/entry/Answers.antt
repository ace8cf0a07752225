use Rattle.std.proofs.Common.{◌≤◌, length, sym, ap, ◌∙◌, arith}
use Rattle.std.proofs.lemmas.List.{get_or_past}
use Rattle.chains.specs.Cells.{entry_of, vacant}
use Rattle.chains.specs.Shape.{shape_of}
use Rattle.chains.proofs.Chains.entry.Goals as goal

pub returns-in_err-get : goal.returns-in_err-get
unfolding shape_of entry_of
returns-in_err-get g c =
    let h = c.in_err-get.ensures.lookup in
    let l : length c.args.cells.now ≤ c.args.i.0 = omega arith in
    c.from_residual.ensures ∙ sym (ap (λ k. k.entry) (get_or_past c.args.cells.now c.args.i.0 vacant l))

pub returns : goal.returns
unfolding shape_of entry_of
returns g c = ap (λ k. k.entry) (c.in_ok-get.ensures.lookup.3.1 vacant)
