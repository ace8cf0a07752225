use Rattle.std.proofs.Common.{string_bytes}
use Rattle.bundles.specs.Bundles.{listed_by, rows_left}
use Rattle.console.proofs.Printed.{Lists}
use Rattle.console.proofs.listings.list.Given as goal

abbrev pub invariant-loop-delivery : goal.invariant-loop-delivery
invariant-loop-delivery l = (goal.iterator-loop-delivery).can_next l.delivery-iterator × (goal.iterator-loop-delivery).is_finite l.delivery-iterator
    × Lists (listed_by l.bundle) (string_bytes l.text) (rows_left l.delivery-iterator)
