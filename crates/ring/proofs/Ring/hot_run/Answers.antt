use Rattle.std.proofs.Common.{suc, ◌+◌, ◌≤◌, None, sym, subst, arith}
use Rattle.machine.proofs.Work.{work}
use Rattle.machine.proofs.Loops.{HotLoop, hot_turns, hot_falls, hot_done, hot_small}
use Rattle.ring.specs.Model.{machine_of}
use Rattle.ring.proofs.Ring.hot_run.Goals as goal

pub overflow_add-steps : goal.overflow_add-steps
overflow_add-steps g c =
    let M = machine_of g.K.Key.meaning in
    let h = hot_small c.args.m None (M c.args.cells.now c.args.self.now) c.loop-self.steps (M c.loop-self.cells c.loop-self.self) c.requires.frames c.requires.facts c.loop-self.invariant.0 in
    omega arith

pub loop-self-smaller : goal.loop-self-smaller
loop-self-smaller g c =
    let M = machine_of g.K.Key.meaning in let x = M c.loop-self.cells c.loop-self.self in
    let h = hot_falls c.args.m None x c.loop-self.invariant.0.mid (sym c.loop-self-test.ensures) in
    subst (λ y. suc (work y.ring) ≤ work x.ring) (sym c.hot_step.ensures.step) h

pub loop-self-preserved : goal.loop-self-preserved
loop-self-preserved g c =
    let M = machine_of g.K.Key.meaning in let s = M c.args.cells.now c.args.self.now in
    let h = hot_turns c.args.m None s c.loop-self.steps (M c.loop-self.cells c.loop-self.self) c.loop-self.invariant.0 (sym c.loop-self-test.ensures) in
    (subst (λ x. HotLoop c.args.m None s (c.loop-self.steps + 1) x) (sym c.hot_step.ensures.step) h, c.hot_step.ensures.stands)

pub returns-clause-run : goal.returns-clause-run
returns-clause-run g c =
    let M = machine_of g.K.Key.meaning in
    hot_done c.args.m None (M c.args.cells.now c.args.self.now) c.loop-self.steps (M c.loop-self.cells c.loop-self.self) c.loop-self.invariant.0 (sym c.loop-self-test.ensures)
