use Rattle.machine.specs.Hands.{steps}
use Rattle.machine.proofs.Work.{work}
use Rattle.machine.proofs.Loops.{ColdLoop}
use Rattle.plain.specs.Hands.{machine_of, Keeps}
use Rattle.plain.proofs.hands.State.cold_run.Given as goal

abbrev pub invariant-loop-c : goal.invariant-loop-c
invariant-loop-c g l = record {
  run : ColdLoop l.initial.self.frames (machine_of g.K.Key.meaning l.initial.self) (steps l.cold l.hot 0) (machine_of g.K.Key.meaning l.self);
  kept : Keeps l.initial.self l.self;
}

abbrev pub decreases-loop-c : goal.decreases-loop-c
decreases-loop-c g l = work (machine_of g.K.Key.meaning l.self).ring
