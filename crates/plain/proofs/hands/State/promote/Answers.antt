use Rattle.std.proofs.Common.{[], ◌∷◌, Some, vec_items, ap}
use Rattle.machine.specs.Entry.{free}
use Rattle.machine.specs.Hands.{promoted}
use Rattle.records.specs.Reading.{entry_of}
use Rattle.plain.proofs.Placing.{found_head}
use Rattle.plain.proofs.hands.State.promote.Goals as goal

pub returns-clause-step : goal.returns-clause-step
returns-clause-step g c =
    let m = g.K.Key.meaning in let s = c.args.self.now in
    let a = found_head m free (vec_items s.ring) c.args.at c.args.e c.requires.found (promoted (entry_of m c.args.e) ∷ []) (Some c.promote.result) (vec_items c.to_head.new.ring)
    (ap (λ x. x ∷ []) c.promote.ensures) c.to_head.ensures.items in
    λ i. record { ring = a i; cold = c.raise-self.ensures i; used = s.used }
