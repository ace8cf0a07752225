use Rattle.std.proofs.Common.{None}
use Rattle.rows.specs.Rows.{Stands}
use Rattle.machine.proofs.Work.{work}
use Rattle.machine.proofs.Loops.{HotLoop}
use Rattle.ring.specs.Model.{machine_of}
use Rattle.ring.proofs.Ring.hot_run.Given as goal

abbrev pub invariant-loop-self : goal.invariant-loop-self
invariant-loop-self g l = HotLoop l.m None (machine_of g.K.Key.meaning l.initial.cells l.initial.self) l.steps (machine_of g.K.Key.meaning l.cells l.self)
    × Stands l.cells l.self.table

abbrev pub decreases-loop-self : goal.decreases-loop-self
decreases-loop-self g l = work (machine_of g.K.Key.meaning l.cells l.self).ring
