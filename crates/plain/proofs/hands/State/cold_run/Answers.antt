use Rattle.std.proofs.Common.{◌+◌, subst, arith}
use Rattle.machine.specs.Hands.{steps}
use Rattle.machine.proofs.Loops.{cold_small}
use Rattle.records.specs.Reading.{entry_of}
use Rattle.plain.specs.Hands.{machine_of, TurnsOn, TurnsOut}
use Rattle.plain.proofs.Keeping.{kept_then}
use Rattle.plain.proofs.Turning.{turn_kept, turn_falls, turn_steps, turn_out}
use Rattle.plain.proofs.hands.State.cold_run.Goals as goal

pub overflow_add-cold : goal.overflow_add-cold
overflow_add-cold g c =
    let M = machine_of g.K.Key.meaning in let s = c.args.self.now in let l = c.loop-c in let t = c.cold_turn.new.self in
    let z = subst (λ n. TurnsOn n (M l.self) c.in-Continue.c c.in-Continue.h (M t)) l.invariant.kept.frames c.in-Continue.ensures.turned in
    let k = turn_kept s.frames (M s) l.cold l.hot l.invariant.run z in
    let h = cold_small s.frames (M s) (steps (l.cold + c.in-Continue.c) (l.hot + c.in-Continue.h) 0) (M t) c.requires.sound.few c.requires.sound.facts k in
    omega arith

pub overflow_add-hot : goal.overflow_add-hot
overflow_add-hot g c =
    let M = machine_of g.K.Key.meaning in let s = c.args.self.now in let l = c.loop-c in let t = c.cold_turn.new.self in
    let z = subst (λ n. TurnsOn n (M l.self) c.in-Continue.c c.in-Continue.h (M t)) l.invariant.kept.frames c.in-Continue.ensures.turned in
    let k = turn_kept s.frames (M s) l.cold l.hot l.invariant.run z in
    let h = cold_small s.frames (M s) (steps (l.cold + c.in-Continue.c) (l.hot + c.in-Continue.h) 0) (M t) c.requires.sound.few c.requires.sound.facts k in
    omega arith

pub loop-c-smaller : goal.loop-c-smaller
loop-c-smaller g c =
    let M = machine_of g.K.Key.meaning in let s = c.args.self.now in let l = c.loop-c in let t = c.cold_turn.new.self in
    let z = subst (λ n. TurnsOn n (M l.self) c.in-Continue.c c.in-Continue.h (M t)) l.invariant.kept.frames c.in-Continue.ensures.turned in
    let a = turn_falls s.frames l.invariant.run.mid l.invariant.run.unlent z in
    let b = turn_steps s.frames z in
    omega arith

pub loop-c-preserved : goal.loop-c-preserved
loop-c-preserved g c =
    let M = machine_of g.K.Key.meaning in let s = c.args.self.now in let l = c.loop-c in let t = c.cold_turn.new.self in
    let z = subst (λ n. TurnsOn n (M l.self) c.in-Continue.c c.in-Continue.h (M t)) l.invariant.kept.frames c.in-Continue.ensures.turned in
    record {
      run = turn_kept s.frames (M s) l.cold l.hot l.invariant.run z;
      kept = kept_then l.invariant.kept c.in-Continue.ensures.kept;
    }

pub overflow_add-cold-in-Break : goal.overflow_add-cold-in-Break
overflow_add-cold-in-Break g c =
    let M = machine_of g.K.Key.meaning in let s = c.args.self.now in let l = c.loop-c in
    let h = cold_small s.frames (M s) (steps l.cold l.hot 0) (M l.self) c.requires.sound.few c.requires.sound.facts l.invariant.run in
    omega arith

pub returns-in-Break-clause-run : goal.returns-in-Break-clause-run
returns-in-Break-clause-run g c =
    let w = g.K.Key.meaning in let M = machine_of w in let s = c.args.self.now in let l = c.loop-c in let t = c.cold_turn.new.self in
    let z = subst (λ n. TurnsOut n (M l.self) (entry_of w c.in-Break.victim) c.in-Break.test (M t)) l.invariant.kept.frames c.in-Break.ensures.turned in
    turn_out s.frames (M s) l.cold l.hot l.invariant.run z
