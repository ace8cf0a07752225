use Rattle.std.proofs.Common.{◌≡◌, cond, None, [], ◌∷◌, sym, refl, ap}
use Rattle.machine.specs.Entry.{marked}
use Rattle.machine.specs.Hands.{tested, unmarked, test_step}
use Rattle.machine.proofs.Laws.{replaced_none}
use Rattle.records.specs.Reading.{entry_of}
use Rattle.ring.specs.Model.{machine_of}
use Rattle.ring.specs.declared.Ring.{Ring}
use Rattle.ring.proofs.States.{here, gone, none_found, found_has, found_cut, found_put, state_is}
use Rattle.ring.proofs.Ring.test_step.Goals as goal

pub returns-in_default-clause-step : goal.returns-in_default-clause-step
unfolding machine_of
returns-in_default-clause-step g c =
    let w = g.K.Key.meaning in let x = c.args.cells.now in let n = c.args.self.now in
    let b : Ring = record { table = n.table; cold = c.lower-self.result; used = n.used } in
    let z = none_found w x n marked (λ e. e.test) (λ e. refl) (sym c.in_default.ensures) in
    state_is w x b (test_step (machine_of w x n)) (sym (replaced_none marked tested (machine_of w x n).ring z)) c.lower-self.ensures refl

pub take_out-requires-clause-there : goal.take_out-requires-clause-there
take_out-requires-clause-there g c = found_has g.K.Key.meaning c.args.cells.now c.args.self.now c.requires marked (λ e. e.test) (λ e. refl) c.in-Some.row (sym c.in-Some.ensures)

pub rewrite-requires-clause-there : goal.rewrite-requires-clause-there
rewrite-requires-clause-there g c = found_has g.K.Key.meaning c.args.cells.now c.args.self.now c.requires marked (λ e. e.test) (λ e. refl) c.in-Some.row (sym c.in-Some.ensures)

pub returns-in-None-clause-step : goal.returns-in-None-clause-step
unfolding machine_of
returns-in-None-clause-step g c =
    let w = g.K.Key.meaning in let x = c.args.cells.now in let n = c.args.self.now in let t = c.take_out in
    let e = entry_of w c.in-Some.row.entry in
    let b : Ring = record { table = t.new.self; cold = c.lower-self.result; used = n.used } in
    let k = c.in-None.is in let l : c.in-Some.row.entry.frame ≡ None = cc in
    let h = ap (λ y. cond y (unmarked e ∷ []) []) (gone c.in-Some.row.entry.frame l) in
    state_is w t.new.cells b (test_step (machine_of w x n)) (found_cut w x n c.requires marked (λ e. e.test) (λ e. refl) c.in-Some.row (sym c.in-Some.ensures) t.new.cells b tested h t.ensures.rows) c.lower-self.ensures refl

pub returns-in-Some-frame-clause-step : goal.returns-in-Some-frame-clause-step
unfolding machine_of
returns-in-Some-frame-clause-step g c =
    let w = g.K.Key.meaning in let x = c.args.cells.now in let n = c.args.self.now in let t = c.rewrite in
    let e = entry_of w c.in-Some.row.entry in
    let b : Ring = record { table = t.new.self; cold = c.lower-self.result; used = n.used } in
    let h = ap (λ y. cond y (unmarked e ∷ []) []) (here c.in-Some.row.entry.frame _ c.in-Some-frame.is) in
    state_is w t.new.cells b (test_step (machine_of w x n)) (found_put w x n c.requires marked (λ e. e.test) (λ e. refl) c.in-Some.row (sym c.in-Some.ensures) t.new.cells b tested _ h t.ensures.rows) c.lower-self.ensures refl
