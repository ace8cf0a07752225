use Rattle.std.proofs.Common.{◌-◌, sym, refl, ap, ◌∙◌, subst}
use Rattle.machine.specs.Facts.{Well}
use Rattle.machine.proofs.Calls.{opened_well}
use Rattle.ring.specs.Model.{entries_in}
use Rattle.ring.specs.declared.Ring.{Ring}
use Rattle.machine.specs.Hands.{opened}
use Rattle.ring.proofs.States.{state_is, ring_is}
use Rattle.ring.proofs.Ring.open.Goals as goal

pub returns : goal.returns
returns g c =
    let w = g.K.Key.meaning in
    let r : Ring = record { table = c.open-table.result; cold = c.args.m - 1; used = 0 } in
    let e = state_is w c.open-table.new.cells r (opened c.args.m) (ring_is w c.open-table.new.cells r ∙ ap (entries_in w) c.open-table.ensures.rows) refl refl in
    record {
      stands = c.open-table.ensures.stands;
      state = e;
      facts = subst (Well c.args.m) (sym e) (opened_well c.args.m c.requires.frames);
    }
