use Rattle.std.proofs.Common.{◌∙◌}
use Rattle.machine.specs.Borrow.{refuses}
use Rattle.plain.proofs.hands.State.miss.Goals as goal

pub returns-then-is_full-clause-borrowed : goal.returns-then-is_full-clause-borrowed
returns-then-is_full-clause-borrowed g c = refuses (c.requires.question ∙ c.if-is_full.ensures)
