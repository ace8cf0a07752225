use Rattle.std.proofs.Common.{sym, ◌∙◌}
use Rattle.rows.proofs.Frames.{frame_empty, frame_is}
use Rattle.rows.proofs.Table.by_frame.Goals as goal

pub returns-in_err-entry : goal.returns-in_err-entry
returns-in_err-entry g c = c.from_residual.ensures ∙ sym (frame_empty c.args.cells.now c.args.self.now c.requires c.args.frame.0 c.slot-cell.result.0 c.slot-cell.ensures (sym c.entry.ensures ∙ c.in_err-entry.was))

pub returns : goal.returns
returns g c =
    c.then_some.ensures
    ∙ sym (frame_is c.args.cells.now c.args.self.now c.requires c.args.frame.0 c.slot-cell.result c.slot-cell.ensures c.in_ok-entry.entry (sym c.entry.ensures ∙ c.in_ok-entry.was) c.lies_in.result (sym c.lies_in.ensures))
