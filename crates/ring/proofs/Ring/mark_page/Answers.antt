use Rattle.std.proofs.Common.{[], ◌∷◌, sym, refl, subst}
use Rattle.records.specs.Questions as records
use Rattle.machine.specs.Entry.{lies_in}
use Rattle.machine.specs.Borrow.{marking, mark_page}
use Rattle.machine.specs.Facts.{Well}
use Rattle.machine.proofs.Laws.{mark_kept, replaced_none}
use Rattle.ring.specs.Model.{machine_of}
use Rattle.ring.specs.declared.Ring.{Ring}
use Rattle.ring.proofs.Lists.{lies_is}
use Rattle.ring.proofs.States.{none_found, found_has, found_put, state_is}
use Rattle.ring.proofs.Ring.mark_page.Goals as goal

pub returns-in_default : goal.returns-in_default
unfolding machine_of
returns-in_default g c =
    let w = g.K.Key.meaning in let f = c.args.frame.0 in let x = c.args.cells.now in let n = c.args.self.now in let s = machine_of w x n in
    let z = none_found w x n (lies_in f) (records.lies_in f) (lies_is w f) (sym c.in_default.ensures) in
    let e = state_is w x n (mark_page f c.args.altered s) (sym (replaced_none (lies_in f) (λ e. marking c.args.altered e ∷ []) s.ring z)) refl refl in
    record { stands = c.requires; step = e; facts = λ m k. k }

pub rewrite-requires-clause-there : goal.rewrite-requires-clause-there
rewrite-requires-clause-there g c =
    let w = g.K.Key.meaning in let f = c.args.frame.0 in
    found_has w c.args.cells.now c.args.self.now c.requires (lies_in f) (records.lies_in f) (lies_is w f) c.in-Some.row (sym c.in-Some.ensures)

pub returns-in-Some : goal.returns-in-Some
unfolding machine_of
returns-in-Some g c =
    let w = g.K.Key.meaning in let f = c.args.frame.0 in let x = c.args.cells.now in let n = c.args.self.now in let s = machine_of w x n in let t = c.rewrite in
    let b : Ring = record { table = t.new.self; cold = n.cold; used = n.used } in
    let e = state_is w t.new.cells b (mark_page f c.args.altered s)
    (found_put w x n c.requires (lies_in f) (records.lies_in f) (lies_is w f) c.in-Some.row (sym c.in-Some.ensures) t.new.cells b (λ e. marking c.args.altered e ∷ []) _ refl t.ensures.rows) refl refl in
    record { stands = t.ensures.stands; step = e; facts = λ m k. subst (Well m) (sym e) (mark_kept m f c.args.altered s k).well }
