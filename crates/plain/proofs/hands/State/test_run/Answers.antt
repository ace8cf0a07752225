use Rattle.std.proofs.Common.{◌≡◌, suc, ◌+◌, ◌≤◌, true, false, sym, subst, arith}
use Rattle.machine.specs.Hands.{too_many}
use Rattle.machine.proofs.Loops.{TestLoop, weight, test_turns, test_falls, test_loop_done, test_small}
use Rattle.plain.specs.Hands.{machine_of}
use Rattle.plain.proofs.Keeping.{kept_then}
use Rattle.plain.proofs.hands.State.test_run.Goals as goal

pub overflow_add-steps : goal.overflow_add-steps
overflow_add-steps g c =
    let M = machine_of g.K.Key.meaning in let s = c.args.self.now in let i = c.loop-self.invariant in let r = c.requires.sound in
    let h = test_small s.frames r.0 i.gap (M s) c.loop-self.steps (M c.loop-self.self) r.1.few r.1.facts i.run in
    omega arith

pub loop-self-smaller : goal.loop-self-smaller
loop-self-smaller g c =
    let M = machine_of g.K.Key.meaning in let s = c.args.self.now in let i = c.loop-self.invariant in
    let b = subst (λ n. too_many n (M c.loop-self.self) ≡ true) i.kept.frames (sym c.loop-self-test.ensures) in
    let h = test_falls s.frames i.gap (M c.loop-self.self) i.run.mid b in
    subst (λ x. suc (weight x) ≤ weight (M c.loop-self.self)) (sym c.test_step.ensures.step) h

pub loop-self-preserved : goal.loop-self-preserved
loop-self-preserved g c =
    let M = machine_of g.K.Key.meaning in let s = c.args.self.now in let i = c.loop-self.invariant in
    let b = subst (λ n. too_many n (M c.loop-self.self) ≡ true) i.kept.frames (sym c.loop-self-test.ensures) in
    let h = test_turns s.frames i.gap (M s) c.loop-self.steps (M c.loop-self.self) i.run b in
    record {
      gap = i.gap;
      run = subst (λ x. TestLoop s.frames i.gap (M s) (c.loop-self.steps + 1) x) (sym c.test_step.ensures.step) h;
      kept = kept_then i.kept c.test_step.ensures.kept;
    }

pub returns-clause-run : goal.returns-clause-run
returns-clause-run g c =
    let M = machine_of g.K.Key.meaning in let s = c.args.self.now in let i = c.loop-self.invariant in
    let b = subst (λ n. too_many n (M c.loop-self.self) ≡ false) i.kept.frames (sym c.loop-self-test.ensures) in
    test_loop_done s.frames i.gap (M s) c.loop-self.steps (M c.loop-self.self) i.run b
