use Rattle.std.proofs.Common.{◌<◌, cond, ltb, set, vec_items, sym, refl, ap, ◌∙◌, arith}
use Rattle.std.proofs.lemmas.Bool.{lt-ltb}
use Rattle.machine.specs.Entry.{lies_in}
use Rattle.machine.specs.Borrow.{loans_at, repaid, returned}
use Rattle.plain.specs.Hands.{machine_of}
use Rattle.plain.proofs.Placing.{first_found, found, found_set, none_found}
use Rattle.plain.proofs.hands.State.give_back.Goals as goal

pub returns-in_default-clause-carried : goal.returns-in_default-clause-carried
returns-in_default-clause-carried g c =
    let w = g.K.Key.meaning in sym (ap (λ o. ltb 0 (loans_at o)) (none_found w (lies_in c.args.frame.0) (vec_items c.args.self.now.ring) c.place_in.ensures c.in_default.is))

pub returns-in_default-clause-step : goal.returns-in_default-clause-step
returns-in_default-clause-step g c =
    let w = g.K.Key.meaning in let s = c.args.self.now in let n = c.args.frame.0 in
    ap (λ b. cond b (returned n (machine_of w s)) (machine_of w s)) (returns-in_default-clause-carried g c)

pub returns-then-e-eq0-clause-carried : goal.returns-then-e-eq0-clause-carried
returns-then-e-eq0-clause-carried g c =
    let w = g.K.Key.meaning in let es = vec_items c.args.self.now.ring in let n = c.args.frame.0 in let e = c.index-e.result.now in
    sym (ap (λ o. ltb 0 (loans_at o)) (first_found w (lies_in n) es c.place_in.ensures c.in-Some.is c.index-e.ensures) ∙ ap (ltb 0) c.if-e-eq0.true)

pub returns-then-e-eq0-clause-step : goal.returns-then-e-eq0-clause-step
returns-then-e-eq0-clause-step g c =
    let w = g.K.Key.meaning in let s = c.args.self.now in let n = c.args.frame.0 in
    ap (λ b. cond b (returned n (machine_of w s)) (machine_of w s)) (returns-then-e-eq0-clause-carried g c)

pub returns-clause-carried : goal.returns-clause-carried
returns-clause-carried g c =
    let w = g.K.Key.meaning in let es = vec_items c.args.self.now.ring in let n = c.args.frame.0 in let e = c.index-e.result.now in
    let p = c.if-e-eq0.false in
    let l : 0 < e.loans = omega arith in
    sym (ap (λ o. ltb 0 (loans_at o)) (first_found w (lies_in n) es c.place_in.ensures c.in-Some.is c.index-e.ensures) ∙ lt-ltb 0 e.loans l)

pub returns-clause-step : goal.returns-clause-step
returns-clause-step g c =
    let w = g.K.Key.meaning in let s = c.args.self.now in let es = vec_items s.ring in let n = c.args.frame.0 in let e = c.index-e.result.now in
    let f = found w (lies_in n) es c.place_in.ensures c.in-Some.is c.index-e.ensures in
    let a = found_set w (lies_in n) es c.in-Some.at e f repaid c.repay.result (set es c.in-Some.at c.repay.result) c.repay.ensures refl in
    ap (λ r. record { ring = r; cold = s.cold; used = s.used }) a ∙ ap (λ b. cond b (returned n (machine_of w s)) (machine_of w s)) (returns-clause-carried g c)
