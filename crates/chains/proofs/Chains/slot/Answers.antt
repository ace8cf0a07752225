use Rattle.std.proofs.Common.{◌≡◌, ap, ◌∙◌, arith, rules}
use Rattle.std.specs.Option.{unwrap_or, option_map}
use Rattle.chains.specs.Cells.{slot_of, vacant}
use Rattle.chains.specs.Shape.{shape_of}
use Rattle.chains.proofs.Chains.slot.Goals as goal

pub returns : goal.returns
unfolding shape_of slot_of
returns g c =
    let q : c.map_or.result ≡ (unwrap_or (option_map (λ x. x.now) c.get.result) vacant).slot = search rules in
    ap (λ x. x.0) q ∙ ap (λ k. k.slot.0) (c.get.ensures.lookup.4 (omega arith) vacant)
