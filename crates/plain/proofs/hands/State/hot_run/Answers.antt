use Rattle.std.proofs.Common.{◌≡◌, suc, ◌+◌, ◌≤◌, true, false, None, sym, subst, arith}
use Rattle.machine.specs.Hands.{too_hot}
use Rattle.machine.proofs.Work.{work}
use Rattle.machine.proofs.Loops.{HotLoop, hot_turns, hot_falls, hot_done, hot_small}
use Rattle.plain.specs.Hands.{machine_of}
use Rattle.plain.proofs.Keeping.{kept_then}
use Rattle.plain.proofs.hands.State.hot_run.Goals as goal

pub overflow_add-steps : goal.overflow_add-steps
overflow_add-steps g c =
    let M = machine_of g.K.Key.meaning in let s = c.args.self.now in
    let h = hot_small s.frames None (M s) c.loop-self.steps (M c.loop-self.self) c.requires.sound.few c.requires.sound.facts c.loop-self.invariant.run in
    omega arith

pub loop-self-smaller : goal.loop-self-smaller
loop-self-smaller g c =
    let M = machine_of g.K.Key.meaning in let s = c.args.self.now in
    let b = subst (λ n. too_hot n (M c.loop-self.self) ≡ true) c.loop-self.invariant.kept.frames (sym c.loop-self-test.ensures) in
    let h = hot_falls s.frames None (M c.loop-self.self) c.loop-self.invariant.run.mid b in
    subst (λ x. suc (work x.ring) ≤ work (M c.loop-self.self).ring) (sym c.hot_step.ensures.step) h

pub loop-self-preserved : goal.loop-self-preserved
loop-self-preserved g c =
    let M = machine_of g.K.Key.meaning in let s = c.args.self.now in
    let b = subst (λ n. too_hot n (M c.loop-self.self) ≡ true) c.loop-self.invariant.kept.frames (sym c.loop-self-test.ensures) in
    let h = hot_turns s.frames None (M s) c.loop-self.steps (M c.loop-self.self) c.loop-self.invariant.run b in
    record {
      run = subst (λ x. HotLoop s.frames None (M s) (c.loop-self.steps + 1) x) (sym c.hot_step.ensures.step) h;
      kept = kept_then c.loop-self.invariant.kept c.hot_step.ensures.kept;
    }

pub returns-clause-run : goal.returns-clause-run
returns-clause-run g c =
    let M = machine_of g.K.Key.meaning in let s = c.args.self.now in
    let b = subst (λ n. too_hot n (M c.loop-self.self) ≡ false) c.loop-self.invariant.kept.frames (sym c.loop-self-test.ensures) in
    hot_done s.frames None (M s) c.loop-self.steps (M c.loop-self.self) c.loop-self.invariant.run b
