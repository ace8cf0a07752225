use Rattle.std.proofs.Common.{None}
use Rattle.machine.proofs.Work.{work}
use Rattle.machine.proofs.Loops.{HotLoop}
use Rattle.plain.specs.Hands.{machine_of, Keeps}
use Rattle.plain.proofs.hands.State.hot_run.Given as goal

abbrev pub invariant-loop-self : goal.invariant-loop-self
invariant-loop-self g l = record {
  run : HotLoop l.initial.self.frames None (machine_of g.K.Key.meaning l.initial.self) l.steps (machine_of g.K.Key.meaning l.self);
  kept : Keeps l.initial.self l.self;
}

abbrev pub decreases-loop-self : goal.decreases-loop-self
decreases-loop-self g l = work (machine_of g.K.Key.meaning l.self).ring
