use Rattle.std.proofs.Common.{ℕ, Option}
use Rattle.rows.specs.Rows.{Stands}
use Rattle.machine.proofs.Loops.{TestLoop, weight}
use Rattle.ring.specs.Model.{machine_of}
use Rattle.ring.proofs.Ring.test_run.Given as goal

abbrev pub invariant-loop-self : goal.invariant-loop-self
invariant-loop-self g l = ((gap : Option ℕ) × TestLoop l.m gap (machine_of g.K.Key.meaning l.initial.cells l.initial.self) l.steps (machine_of g.K.Key.meaning l.cells l.self))
    × Stands l.cells l.self.table

abbrev pub decreases-loop-self : goal.decreases-loop-self
decreases-loop-self g l = weight (machine_of g.K.Key.meaning l.cells l.self)
