use Rattle.std.proofs.Common.{vec_items, sym}
use Rattle.machine.specs.Hands.{tested}
use Rattle.machine.specs.Entry as model
use Rattle.machine.proofs.Laws.{replaced_none}
use Rattle.records.specs.Reading.{entries_of}
use Rattle.plain.proofs.Placing.{found, found_put, none_found}
use Rattle.plain.proofs.hands.State.test_step.Goals as goal

pub returns-in_default-clause-step : goal.returns-in_default-clause-step
returns-in_default-clause-step g c =
    let w = g.K.Key.meaning in let s = c.args.self.now in let es = vec_items s.ring in
    let a = sym (replaced_none model.marked tested (entries_of w es) (none_found w model.marked es c.first_marked.ensures c.in_default.is)) in
    λ i. record { ring = a i; cold = c.lower-self.ensures i; used = s.used }

pub returns-clause-step : goal.returns-clause-step
returns-clause-step g c =
    let w = g.K.Key.meaning in let s = c.args.self.now in let es = vec_items s.ring in let e = c.index.result.now in
    let f = found w model.marked es c.first_marked.ensures c.in-Some.is c.index.ensures in
    let a = found_put w model.marked es c.in-Some.at e f tested c.after_test_step-left.result (vec_items c.put.new.ring) c.after_test_step-left.ensures c.put.ensures.items in
    λ i. record { ring = a i; cold = c.lower-self.ensures i; used = s.used }
