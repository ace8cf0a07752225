use Rattle.std.proofs.Common.{[], is_some, None, vec_items, sym, refl, ap}
use Rattle.machine.specs.Entry.{named}
use Rattle.plain.proofs.Placing.{first_found, found, found_put, none_found}
use Rattle.plain.proofs.hands.State.recall.Goals as goal

pub returns-in_default-clause-there : goal.returns-in_default-clause-there
returns-in_default-clause-there g c =
    let w = g.K.Key.meaning in sym (ap is_some (none_found w (named (w c.args.key)) (vec_items c.args.self.now.ring) c.place_of.ensures c.in_default.is))

pub returns-clause-there : goal.returns-clause-there
returns-clause-there g c =
    let w = g.K.Key.meaning in let es = vec_items c.args.self.now.ring in
    sym (ap is_some (first_found w (named (w c.args.key)) es c.place_of.ensures c.in-Some.is c.remove.ensures.value))

pub returns-clause-step : goal.returns-clause-step
returns-clause-step g c =
    let w = g.K.Key.meaning in let s = c.args.self.now in let es = vec_items s.ring in
    let f = found w (named (w c.args.key)) es c.place_of.ensures c.in-Some.is c.remove.ensures.value in
    let a = found_put w (named (w c.args.key)) es c.in-Some.at c.remove.result f (λ _. []) None (vec_items c.remove.new.self) refl c.remove.ensures.items in
    λ i. record { ring = a i; cold = c.raise-self.ensures i; used = s.used }
