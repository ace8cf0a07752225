use Rattle.std.proofs.Common.{drop}
use Rattle.bundles.specs.Format.{rows_from}
use Rattle.bundles.specs.Bundles.{listed_by}
use Rattle.bundles.proofs.Passed.{Sought}
use Rattle.bundles.proofs.bundle.Bundle.find.Given as goal

abbrev pub invariant-loop-row : goal.invariant-loop-row
invariant-loop-row l = Sought l.number.0 (listed_by l.self) (rows_from (drop l.row-index l.self.rows.now)) l.before
