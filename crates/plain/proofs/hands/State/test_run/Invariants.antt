use Rattle.std.proofs.Common.{ℕ, Option}
use Rattle.machine.proofs.Loops.{TestLoop, weight}
use Rattle.plain.specs.Hands.{machine_of, Keeps}
use Rattle.plain.proofs.hands.State.test_run.Given as goal

abbrev pub invariant-loop-self : goal.invariant-loop-self
invariant-loop-self g l = record {
  gap : Option ℕ;
  run : TestLoop l.initial.self.frames gap (machine_of g.K.Key.meaning l.initial.self) l.steps (machine_of g.K.Key.meaning l.self);
  kept : Keeps l.initial.self l.self;
}

abbrev pub decreases-loop-self : goal.decreases-loop-self
decreases-loop-self g l = weight (machine_of g.K.Key.meaning l.self)
