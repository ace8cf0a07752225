use Rattle.std.proofs.Common.{set, vec_items, refl}
use Rattle.machine.specs.Entry.{named}
use Rattle.machine.specs.Borrow.{lent}
use Rattle.plain.proofs.Placing.{found_set}
use Rattle.plain.proofs.hands.State.hit.Goals as goal

pub returns-clause-step : goal.returns-clause-step
returns-clause-step g c =
    let m = g.K.Key.meaning in let s = c.args.self.now in let es = vec_items s.ring in
    let a = found_set m (named (m c.args.key)) es c.args.at c.args.e c.requires.found lent c.lend.result (set es c.args.at c.lend.result) c.lend.ensures refl in
    λ i. record { ring = a i; cold = s.cold; used = s.used }
