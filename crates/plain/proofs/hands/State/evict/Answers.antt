use Rattle.std.proofs.Common.{vec_items}
use Rattle.machine.specs.Entry.{free}
use Rattle.machine.specs.Hands.{left}
use Rattle.plain.proofs.Placing.{found_put}
use Rattle.plain.proofs.hands.State.evict.Goals as goal

pub returns-clause-step : goal.returns-clause-step
returns-clause-step g c =
    let m = g.K.Key.meaning in let s = c.args.self.now in
    let a = found_put m free (vec_items s.ring) c.args.at c.args.e c.requires.found left c.after_eviction.result (vec_items c.put.new.ring) c.after_eviction.ensures c.put.ensures.items in
    λ i. record { ring = a i; cold = s.cold; used = s.used }
