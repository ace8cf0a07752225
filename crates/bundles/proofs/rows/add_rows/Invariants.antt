use Rattle.bundles.proofs.Passed.{Added}
use Rattle.bundles.proofs.rows.add_rows.Given as goal

abbrev pub invariant-loop-i : goal.invariant-loop-i
invariant-loop-i l = Added l.rows l.i l.sum
