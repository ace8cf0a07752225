use Rattle.std.proofs.Common.{refl, ap, ◌∙◌, arith}
use Rattle.std.proofs.lemmas.List.{map-append, length-map}
use Rattle.records.specs.Questions as records
use Rattle.rows.specs.Rows as rows
use Rattle.machine.specs.Entry.{lies_in}
use Rattle.machine.specs.Borrow as calls
use Rattle.records.specs.Reading.{entry_of}
use Rattle.ring.specs.Model.{machine_of, entries_in}
use Rattle.ring.specs.declared.Ring.{Ring}
use Rattle.ring.proofs.Lists.{lies_is, none_back}
use Rattle.ring.proofs.States.{state_is}
use Rattle.ring.proofs.Ring.enter.Goals as goal

pub enter-requires : goal.enter-requires
unfolding machine_of
enter-requires g c =
    let w = g.K.Key.meaning in let f = c.args.frame.0 in let l = rows.rows_in c.args.cells.now c.args.self.now.table in
    record {
      stands = c.requires.stands;
      room = omega (arith, length-map l (λ r. entry_of w r.entry), c.requires.room);
      frame = (c.requires.slot, none_back w (lies_in f) (records.lies_in f) (lies_is w f) l c.requires.vacant);
    }

pub returns-clause-step : goal.returns-clause-step
unfolding machine_of
returns-clause-step g c =
    let w = g.K.Key.meaning in let x = c.args.cells.now in let n = c.args.self.now in let t = c.enter in
    let l = rows.rows_in x n.table in
    let b : Ring = record { table = t.new.self; cold = n.cold; used = n.used } in
    state_is w t.new.cells b (calls.enter (w c.args.key) c.args.hot c.args.frame.0 (machine_of w x n)) (ap (entries_in w) t.ensures.rows ∙ map-append (λ r. entry_of w r.entry) l _) refl refl
