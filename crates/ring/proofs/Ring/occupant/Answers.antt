use Rattle.std.proofs.Common.{sym}
use Rattle.records.specs.Questions as records
use Rattle.machine.specs.Entry.{lies_in}
use Rattle.ring.proofs.Lists.{lies_is}
use Rattle.ring.proofs.States.{none_found, found_first}
use Rattle.ring.proofs.Ring.occupant.Goals as goal

pub returns : goal.returns
returns g c =
    let w = g.K.Key.meaning in let f = c.args.frame.0 in
    sym (found_first w c.args.cells.now c.args.self.now c.requires (lies_in f) (records.lies_in f) (lies_is w f) c.in_ok-row.row (sym c.in_ok-row.ensures))

pub returns-in_err-row : goal.returns-in_err-row
returns-in_err-row g c =
    let w = g.K.Key.meaning in let f = c.args.frame.0 in
    rw c.from_residual.ensures (sym (none_found w c.args.cells.now c.args.self.now (lies_in f) (records.lies_in f) (lies_is w f) (sym c.in_err-row.ensures)))
