use Rattle.std.proofs.Common.{[], ◌∷◌, Some, vec_items, ap}
use Rattle.machine.specs.Entry.{free}
use Rattle.machine.specs.Hands.{retested}
use Rattle.records.specs.Reading.{entry_of}
use Rattle.plain.proofs.Placing.{found_head}
use Rattle.plain.proofs.hands.State.retest.Goals as goal

pub returns-clause-step : goal.returns-clause-step
returns-clause-step g c =
    let m = g.K.Key.meaning in let s = c.args.self.now in
    let a = found_head m free (vec_items s.ring) c.args.at c.args.e c.requires.found (retested (entry_of m c.args.e) ∷ []) (Some c.retest.result) (vec_items c.to_head.new.ring)
    (ap (λ x. x ∷ []) c.retest.ensures) c.to_head.ensures.items in
    λ i. record { ring = a i; cold = s.cold; used = s.used }
