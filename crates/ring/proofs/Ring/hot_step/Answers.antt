use Rattle.std.proofs.Common.{◌≡◌, [], ◌∷◌, sym, refl, ap, ◌∙◌}
use Rattle.machine.specs.Hands.{turned_cold}
use Rattle.records.specs.Reading.{entry_of}
use Rattle.ring.specs.declared.Ring.{Ring}
use Rattle.ring.proofs.States.{turned_set, turned_clear, turned_here, turned-gone, cold_hot, cold_marked, cold_unmarked, cold_past, unmarked-same, here, gone, tail_none, tail_turned, tail_cut}
use Rattle.ring.proofs.Ring.hot_step.Goals as goal

pub returns-in_default-clause-step : goal.returns-in_default-clause-step
returns-in_default-clause-step g c = tail_none g.K.Key.meaning c.args.cells.now c.args.self.now c.requires (sym c.in_default.ensures)

pub returns-in-true-default-default-true-clause-step : goal.returns-in-true-default-default-true-clause-step
returns-in-true-default-default-true-clause-step g c =
    let w = g.K.Key.meaning in let n = c.args.self.now in let e = entry_of w c.in-Some.row.entry in
    let t = c.turn in let a = c.in-true-default-default-true in
    let b : Ring = record { table = t.new.self; cold = n.cold; used = n.used } in
    tail_turned w c.args.cells.now n c.requires t.new.cells b refl c.in-Some.row (sym c.in-Some.ensures) (sym (cold_hot e n.cold a.is-0)) _ t.ensures.rows (turned_set e a.is-0 a.is-3)

pub returns-in-true-default-default-false-clause-step : goal.returns-in-true-default-default-false-clause-step
returns-in-true-default-default-false-clause-step g c =
    let w = g.K.Key.meaning in let n = c.args.self.now in let e = entry_of w c.in-Some.row.entry in
    let t = c.turn-in-true-default-default-false in let a = c.in-true-default-default-false in
    let b : Ring = record { table = t.new.self; cold = n.cold; used = n.used } in
    tail_turned w c.args.cells.now n c.requires t.new.cells b refl c.in-Some.row (sym c.in-Some.ensures) (sym (cold_hot e n.cold a.is-0)) _ t.ensures.rows (turned_clear e a.is-0 a.is-3)

pub returns-in-false-Some-true-default-clause-step : goal.returns-in-false-Some-true-default-clause-step
returns-in-false-Some-true-default-clause-step g c =
    let w = g.K.Key.meaning in let n = c.args.self.now in let e = entry_of w c.in-Some.row.entry in
    let t = c.turn-in-false-Some-true-default in let a = c.in-false-Some-true-default in
    let h = here c.in-Some.row.entry.frame _ a.is-1 in let l = c.lower-self.ensures in let z = cold_marked e n.cold a.is-0 h a.is-2 in
    let k : c.lower-self.result ≡ turned_cold e n.cold = cc in
    let b : Ring = record { table = t.new.self; cold = c.lower-self.result; used = n.used } in
    tail_turned w c.args.cells.now n c.requires t.new.cells b refl c.in-Some.row (sym c.in-Some.ensures) k _ t.ensures.rows (turned_here e a.is-0 h)

pub returns-in-false-Some-false-default-clause-step : goal.returns-in-false-Some-false-default-clause-step
returns-in-false-Some-false-default-clause-step g c =
    let w = g.K.Key.meaning in let n = c.args.self.now in let e = entry_of w c.in-Some.row.entry in
    let t = c.turn-in-false-Some-false-default in let a = c.in-false-Some-false-default in
    let h = here c.in-Some.row.entry.frame _ a.is-1 in
    let b : Ring = record { table = t.new.self; cold = n.cold; used = n.used } in
    tail_turned w c.args.cells.now n c.requires t.new.cells b refl c.in-Some.row (sym c.in-Some.ensures) (sym (cold_unmarked e n.cold a.is-0 h a.is-2)) c.in-Some.row.entry t.ensures.rows
    (turned_here e a.is-0 h ∙ ap (λ x. x ∷ []) (unmarked-same e a.is-2))

pub returns-in-false-None-default-default-clause-step : goal.returns-in-false-None-default-default-clause-step
returns-in-false-None-default-default-clause-step g c =
    let w = g.K.Key.meaning in let n = c.args.self.now in let e = entry_of w c.in-Some.row.entry in
    let t = c.take_out in let a = c.in-false-None-default-default in let l = c.lower-self-in-false-None-default-default in
    let h = gone c.in-Some.row.entry.frame a.is-1 in
    let b : Ring = record { table = t.new.self; cold = l.result; used = n.used } in
    tail_cut w c.args.cells.now n c.requires t.new.cells b refl c.in-Some.row (sym c.in-Some.ensures) (l.ensures ∙ sym (cold_past e n.cold a.is-0 h)) t.ensures.rows (turned-gone e a.is-0 h)
