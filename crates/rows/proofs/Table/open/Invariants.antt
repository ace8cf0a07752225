use Rattle.chains.specs.Shape.{shape_of, Intact}
use Rattle.rows.proofs.Opening.{Emptied}
use Rattle.rows.proofs.Table.open.Given as goal

abbrev pub invariant-loop-i : goal.invariant-loop-i
invariant-loop-i g l = Intact l.cells l.chains × Emptied (shape_of l.cells l.chains) l.i
