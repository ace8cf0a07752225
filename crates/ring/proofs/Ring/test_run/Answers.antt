use Rattle.std.proofs.Common.{suc, ◌+◌, ◌≤◌, sym, subst, arith}
use Rattle.machine.proofs.Loops.{TestLoop, weight, test_turns, test_falls, test_loop_done, test_small}
use Rattle.ring.specs.Model.{machine_of}
use Rattle.ring.proofs.Ring.test_run.Goals as goal

pub overflow_add-steps : goal.overflow_add-steps
overflow_add-steps g c =
    let M = machine_of g.K.Key.meaning in
    let h = test_small c.args.m c.requires.0 c.loop-self.invariant.0.0 (M c.args.cells.now c.args.self.now) c.loop-self.steps (M c.loop-self.cells c.loop-self.self) c.requires.1.frames c.requires.1.facts c.loop-self.invariant.0.1 in
    omega arith

pub loop-self-smaller : goal.loop-self-smaller
loop-self-smaller g c =
    let M = machine_of g.K.Key.meaning in let x = M c.loop-self.cells c.loop-self.self in
    let h = test_falls c.args.m c.loop-self.invariant.0.0 x c.loop-self.invariant.0.1.mid (sym c.loop-self-test.ensures) in
    subst (λ y. suc (weight y) ≤ weight x) (sym c.test_step.ensures.step) h

pub loop-self-preserved : goal.loop-self-preserved
loop-self-preserved g c =
    let M = machine_of g.K.Key.meaning in let s = M c.args.cells.now c.args.self.now in
    let h = test_turns c.args.m c.loop-self.invariant.0.0 s c.loop-self.steps (M c.loop-self.cells c.loop-self.self) c.loop-self.invariant.0.1 (sym c.loop-self-test.ensures) in
    ((c.loop-self.invariant.0.0, subst (λ x. TestLoop c.args.m c.loop-self.invariant.0.0 s (c.loop-self.steps + 1) x) (sym c.test_step.ensures.step) h), c.test_step.ensures.stands)

pub returns-clause-run : goal.returns-clause-run
returns-clause-run g c =
    let M = machine_of g.K.Key.meaning in
    test_loop_done c.args.m c.loop-self.invariant.0.0 (M c.args.cells.now c.args.self.now) c.loop-self.steps (M c.loop-self.cells c.loop-self.self) c.loop-self.invariant.0.1 (sym c.loop-self-test.ensures)
