use Rattle.std.proofs.Common.{◌+◌, Some, arith}
use Rattle.machine.specs.Hands.{steps}
use Rattle.machine.proofs.Loops.{cold_begins, cold_small}
use Rattle.ring.specs.Model.{machine_of}
use Rattle.ring.proofs.Rounds.{hot_round, hot_less, promoted_mid, promote_round, promote_less, retest_round, retest_less, evicted_mid, run_ends, freed_mid}
use Rattle.ring.proofs.Ring.cold_run.Goals as goal

pub loop-self-init : goal.loop-self-init
loop-self-init g c = (rw c.default-steps.ensures.0 (rw c.default-steps.ensures.1.0 (cold_begins c.args.m (machine_of g.K.Key.meaning c.args.cells.now c.args.self.now) c.requires.sound.facts c.requires.unlent)), c.requires.sound.stands)

pub overflow_add-steps : goal.overflow_add-steps
overflow_add-steps g c =
    let M = machine_of g.K.Key.meaning in
    let h = cold_small c.args.m (M c.args.cells.now c.args.self.now) (steps c.loop-self.steps.cold c.loop-self.steps.hot 0) (M c.loop-self.cells c.loop-self.self) c.requires.sound.frames c.requires.sound.facts c.loop-self.invariant.0 in
    omega arith

pub loop-self-smaller-in-NoCandidate : goal.loop-self-smaller-in-NoCandidate
loop-self-smaller-in-NoCandidate g c =
    let M = machine_of g.K.Key.meaning in
    hot_less c.args.m (M c.args.cells.now c.args.self.now) c.loop-self.steps.cold c.loop-self.steps.hot (M c.loop-self.cells c.loop-self.self) c.loop-self.invariant.0
    (M c.cold_step.new.cells c.cold_step.new.self) (M c.hot_step.new.cells c.hot_step.new.self) c.in-NoCandidate.ensures.step c.hot_step.ensures.step

pub loop-self-preserved-in-NoCandidate : goal.loop-self-preserved-in-NoCandidate
loop-self-preserved-in-NoCandidate g c =
    let M = machine_of g.K.Key.meaning in (
      hot_round c.args.m (M c.args.cells.now c.args.self.now) c.loop-self.steps.cold c.loop-self.steps.hot (M c.loop-self.cells c.loop-self.self) c.loop-self.invariant.0
          (M c.cold_step.new.cells c.cold_step.new.self) (M c.hot_step.new.cells c.hot_step.new.self) c.in-NoCandidate.ensures.step c.hot_step.ensures.step,
      c.hot_step.ensures.stands,
    )

pub hot_run-requires : goal.hot_run-requires
hot_run-requires g c =
    let M = machine_of g.K.Key.meaning in
    record {
      frames = c.requires.sound.frames;
      stands = c.in-Promoted.ensures.stands;
      facts = promoted_mid c.args.m (M c.args.cells.now c.args.self.now) c.loop-self.steps.cold c.loop-self.steps.hot (M c.loop-self.cells c.loop-self.self) c.loop-self.invariant.0
          (M c.cold_step.new.cells c.cold_step.new.self) c.in-Promoted.ensures.step;
    }

pub overflow_add-steps-in-Promoted : goal.overflow_add-steps-in-Promoted
overflow_add-steps-in-Promoted g c =
    let M = machine_of g.K.Key.meaning in
    let h = cold_small c.args.m (M c.args.cells.now c.args.self.now) (steps c.loop-self.steps.cold c.loop-self.steps.hot 0) (M c.loop-self.cells c.loop-self.self) c.requires.sound.frames c.requires.sound.facts c.loop-self.invariant.0 in
    omega arith

pub overflow_add-steps-in-Promoted-2 : goal.overflow_add-steps-in-Promoted-2
overflow_add-steps-in-Promoted-2 g c =
    let M = machine_of g.K.Key.meaning in let s = M c.args.cells.now c.args.self.now in let z = M c.hot_run.new.cells c.hot_run.new.self in
    let k = promote_round c.args.m s c.loop-self.steps.cold c.loop-self.steps.hot (M c.loop-self.cells c.loop-self.self) c.loop-self.invariant.0
    (M c.cold_step.new.cells c.cold_step.new.self) z c.hot_run.result c.in-Promoted.ensures.step c.hot_run.ensures.run in
    let h = cold_small c.args.m s (steps (c.loop-self.steps.cold + 1) (c.loop-self.steps.hot + c.hot_run.result) 0) z c.requires.sound.frames c.requires.sound.facts k in
    omega arith

pub loop-self-smaller-in-Promoted : goal.loop-self-smaller-in-Promoted
loop-self-smaller-in-Promoted g c =
    let M = machine_of g.K.Key.meaning in
    promote_less c.args.m (M c.args.cells.now c.args.self.now) c.loop-self.steps.cold c.loop-self.steps.hot (M c.loop-self.cells c.loop-self.self) c.loop-self.invariant.0
    (M c.cold_step.new.cells c.cold_step.new.self) (M c.hot_run.new.cells c.hot_run.new.self) c.hot_run.result c.in-Promoted.ensures.step c.hot_run.ensures.run

pub loop-self-preserved-in-Promoted : goal.loop-self-preserved-in-Promoted
loop-self-preserved-in-Promoted g c =
    let M = machine_of g.K.Key.meaning in (
      promote_round c.args.m (M c.args.cells.now c.args.self.now) c.loop-self.steps.cold c.loop-self.steps.hot (M c.loop-self.cells c.loop-self.self) c.loop-self.invariant.0
          (M c.cold_step.new.cells c.cold_step.new.self) (M c.hot_run.new.cells c.hot_run.new.self) c.hot_run.result c.in-Promoted.ensures.step c.hot_run.ensures.run,
      c.hot_run.ensures.stands,
    )

pub overflow_add-steps-in-Retested : goal.overflow_add-steps-in-Retested
overflow_add-steps-in-Retested g c =
    let M = machine_of g.K.Key.meaning in
    let h = cold_small c.args.m (M c.args.cells.now c.args.self.now) (steps c.loop-self.steps.cold c.loop-self.steps.hot 0) (M c.loop-self.cells c.loop-self.self) c.requires.sound.frames c.requires.sound.facts c.loop-self.invariant.0 in
    omega arith

pub loop-self-smaller : goal.loop-self-smaller
loop-self-smaller g c =
    let M = machine_of g.K.Key.meaning in
    retest_less c.args.m (M c.args.cells.now c.args.self.now) c.loop-self.steps.cold c.loop-self.steps.hot (M c.loop-self.cells c.loop-self.self) c.loop-self.invariant.0
    (M c.cold_step.new.cells c.cold_step.new.self) c.in-Retested.ensures.step

pub loop-self-preserved : goal.loop-self-preserved
loop-self-preserved g c =
    let M = machine_of g.K.Key.meaning in (
      retest_round c.args.m (M c.args.cells.now c.args.self.now) c.loop-self.steps.cold c.loop-self.steps.hot (M c.loop-self.cells c.loop-self.self) c.loop-self.invariant.0
          (M c.cold_step.new.cells c.cold_step.new.self) c.in-Retested.ensures.step,
      c.in-Retested.ensures.stands,
    )

pub test_run-requires : goal.test_run-requires
test_run-requires g c =
    let M = machine_of g.K.Key.meaning in (
      Some c.in-Evicted.frame.0,
      record {
        frames = c.requires.sound.frames;
        stands = c.in-Evicted.ensures.stands;
        facts = evicted_mid c.args.m (M c.args.cells.now c.args.self.now) c.loop-self.steps.cold c.loop-self.steps.hot (M c.loop-self.cells c.loop-self.self) c.loop-self.invariant.0
            g.K.Key.meaning c.in-Evicted.frame c.in-Evicted.victim (M c.cold_step.new.cells c.cold_step.new.self) c.in-Evicted.ensures.step;
      },
    )

pub overflow_add-steps-in-Evicted : goal.overflow_add-steps-in-Evicted
overflow_add-steps-in-Evicted g c =
    let M = machine_of g.K.Key.meaning in
    let h = cold_small c.args.m (M c.args.cells.now c.args.self.now) (steps c.loop-self.steps.cold c.loop-self.steps.hot 0) (M c.loop-self.cells c.loop-self.self) c.requires.sound.frames c.requires.sound.facts c.loop-self.invariant.0 in
    omega arith

pub returns : goal.returns
returns g c =
    let M = machine_of g.K.Key.meaning in let s = M c.args.cells.now c.args.self.now in let t = M c.test_run.new.cells c.test_run.new.self in
    let e = c.in-Evicted.ensures.step in
    let r = run_ends c.args.m s c.loop-self.steps.cold c.loop-self.steps.hot (M c.loop-self.cells c.loop-self.self) c.loop-self.invariant.0
    g.K.Key.meaning c.in-Evicted.frame c.in-Evicted.victim (M c.cold_step.new.cells c.cold_step.new.self) e c.test_run.result t c.test_run.ensures.run in
    record {
      stands = c.test_run.ensures.stands;
      run = record { victim = e.candidate; run = r; sent = e.sent };
      facts = freed_mid c.args.m s (steps (c.loop-self.steps.cold + 1) c.loop-self.steps.hot c.test_run.result) e.candidate t c.in-Evicted.frame.0 r c.requires.sound.facts c.requires.unlent e.sent.lies;
    }
