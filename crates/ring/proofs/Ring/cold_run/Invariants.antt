use Rattle.rows.specs.Rows.{Stands}
use Rattle.machine.specs.Hands.{steps}
use Rattle.machine.proofs.Work.{work}
use Rattle.machine.proofs.Loops.{ColdLoop}
use Rattle.ring.specs.Model.{machine_of}
use Rattle.ring.proofs.Ring.cold_run.Given as goal

abbrev pub invariant-loop-self : goal.invariant-loop-self
invariant-loop-self g l = ColdLoop l.m (machine_of g.K.Key.meaning l.initial.cells l.initial.self) (steps l.steps.cold l.steps.hot 0) (machine_of g.K.Key.meaning l.cells l.self)
    × Stands l.cells l.self.table

-- hot entries and bits set, times the entries, and the entries before the first hot one: one number for hot and cold steps alike
abbrev pub decreases-loop-self : goal.decreases-loop-self
decreases-loop-self g l = work (machine_of g.K.Key.meaning l.cells l.self).ring
