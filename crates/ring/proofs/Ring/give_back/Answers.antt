use Rattle.std.proofs.Common.{◌≡◌, ◌<◌, true, false, cond, ltb, [], ◌∷◌, sym, refl, ap, ◌∙◌, subst, arith}
use Rattle.std.proofs.lemmas.Bool.{lt-ltb}
use Rattle.records.specs.Questions as records
use Rattle.machine.specs.Entry.{lies_in}
use Rattle.machine.specs.Borrow.{carries, loans_at, repaid, returned, give_back}
use Rattle.machine.specs.Facts.{Well}
use Rattle.machine.proofs.Laws.{return_kept}
use Rattle.ring.specs.Model.{machine_of}
use Rattle.ring.specs.declared.Ring.{Ring}
use Rattle.ring.proofs.Lists.{lies_is}
use Rattle.ring.proofs.States.{none_found, found_has, found_first, found_put, state_is}
use Rattle.ring.proofs.Ring.give_back.Goals as goal

pub returns-in_default : goal.returns-in_default
returns-in_default g c =
    let w = g.K.Key.meaning in let f = c.args.frame.0 in let s = machine_of w c.args.cells.now c.args.self.now in
    let z = none_found w c.args.cells.now c.args.self.now (lies_in f) (records.lies_in f) (lies_is w f) (sym c.in_default.ensures) in
    let h : ltb 0 (carries f s) ≡ false = ap (λ o. ltb 0 (loans_at o)) z in
    let e : s ≡ give_back f s = ap (λ b. cond b (returned f s) s) (sym h) in
    record { stands = c.requires; carried = sym h; step = e; facts = λ m k. k }

pub returns-then-e-eq0 : goal.returns-then-e-eq0
returns-then-e-eq0 g c =
    let w = g.K.Key.meaning in let f = c.args.frame.0 in let s = machine_of w c.args.cells.now c.args.self.now in
    let z = found_first w c.args.cells.now c.args.self.now c.requires (lies_in f) (records.lies_in f) (lies_is w f) c.in-Some.row (sym c.in-Some.ensures) in
    let h : ltb 0 (carries f s) ≡ false = ap (λ o. ltb 0 (loans_at o)) z ∙ ap (ltb 0) c.if-e-eq0.true in
    let e : s ≡ give_back f s = ap (λ b. cond b (returned f s) s) (sym h) in
    record { stands = c.requires; carried = sym h; step = e; facts = λ m k. k }

pub rewrite-requires-clause-there : goal.rewrite-requires-clause-there
rewrite-requires-clause-there g c =
    let w = g.K.Key.meaning in let f = c.args.frame.0 in
    found_has w c.args.cells.now c.args.self.now c.requires (lies_in f) (records.lies_in f) (lies_is w f) c.in-Some.row (sym c.in-Some.ensures)

pub returns : goal.returns
unfolding machine_of
returns g c =
    let w = g.K.Key.meaning in let f = c.args.frame.0 in let x = c.args.cells.now in let n = c.args.self.now in let s = machine_of w x n in let t = c.rewrite in
    let b : Ring = record { table = t.new.self; cold = n.cold; used = n.used } in
    let z = found_first w x n c.requires (lies_in f) (records.lies_in f) (lies_is w f) c.in-Some.row (sym c.in-Some.ensures) in
    let p = c.if-e-eq0.false in
    let l : 0 < c.in-Some.row.entry.loans = omega arith in
    let h : ltb 0 (carries f s) ≡ true = ap (λ o. ltb 0 (loans_at o)) z ∙ lt-ltb 0 c.in-Some.row.entry.loans l in
    let a = state_is w t.new.cells b (returned f s) (found_put w x n c.requires (lies_in f) (records.lies_in f) (lies_is w f) c.in-Some.row (sym c.in-Some.ensures) t.new.cells b (λ e. repaid e ∷ []) _ refl t.ensures.rows) refl refl in
    let e : machine_of w t.new.cells b ≡ give_back f s = a ∙ ap (λ b. cond b (returned f s) s) (sym h) in
    record { stands = t.ensures.stands; carried = sym h; step = e; facts = λ m k. subst (Well m) (sym e) (return_kept m f s k).well }
