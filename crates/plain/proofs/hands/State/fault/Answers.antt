-- The state in which the frame is looked for is ready for it, whether or not an entry was taken out.
use Rattle.std.proofs.Common.{◌<◌, None, vec_len, vec_capacity, sym, subst, arith}
use Rattle.machine.specs.Hands.{HotRun}
use Rattle.machine.specs.Facts.{Mid}
use Rattle.machine.proofs.Calls.{Fair}
use Rattle.records.specs.Reading.{keyed, steps_of}
use Rattle.plain.specs.Hands.{machine_of}
use Rattle.plain.proofs.Keeping.{kept_then, sound_then}
use Rattle.plain.proofs.Faults.{asked, place-left, ready, framed, ready_entered, fault_steps, cold_answer, test_answer, answer_is}
use Rattle.plain.proofs.hands.State.fault.Goals as goal
use Rattle.plain.proofs.hands.State.fault.Goals.{then-remembered, else-remembered}

pub room-room-requires : goal.room-room-requires
room-room-requires g c =
    let w = g.K.Key.meaning in let k = w c.args.key in let s = c.args.self.now in let a = c.recall-remembered in let x = a.new.self in
    let q = ready s.frames k (machine_of w s) a.result c.requires.sound.facts c.requires.due c.requires.away a.ensures.there in
    record {
      sound = sound_then w None None c.requires.sound a.ensures.kept (subst (λ y. Mid s.frames None y) (sym a.ensures.step) q.mid);
      unlent = subst (λ n. Fair n (machine_of w x)) (sym a.ensures.kept.frames) (subst (λ y. Fair s.frames y) (sym a.ensures.step) q.unlent);
    }

pub enter-requires : goal.enter-requires
enter-requires g c =
    let w = g.K.Key.meaning in let k = w c.args.key in let s = c.args.self.now in let a = c.recall-remembered in let x = c.room-room.new.self in
    let q = ready s.frames k (machine_of w s) a.result c.requires.sound.facts c.requires.due c.requires.away a.ensures.there in
    let f = framed w k a.result s c.room-room.result a.new.self x q a.ensures.step a.ensures.kept c.room-room.ensures.found in
    let p = place-left w s.frames x (vec_capacity s.ring) (asked w k a.result s) c.room-room.result.frame.0 f.victim (steps_of c.room-room.result.steps) f.roomed c.requires.sound.memory in
    subst (λ n. vec_len x.ring < n) (sym (kept_then a.ensures.kept c.room-room.ensures.kept).memory) p

pub hot_run-requires : goal.hot_run-requires
hot_run-requires g c =
    let w = g.K.Key.meaning in let k = w c.args.key in let s = c.args.self.now in let a = c.recall-remembered in let r = c.room-room.result in let x = c.room-room.new.self in
    let q = ready s.frames k (machine_of w s) a.result c.requires.sound.facts c.requires.due c.requires.away a.ensures.there in
    let f = framed w k a.result s r a.new.self x q a.ensures.step a.ensures.kept c.room-room.ensures.found in
    let d = ready_entered s.frames k (asked w k a.result s) a.result r.frame.0 f.victim (steps_of r.steps) (machine_of w x) f.roomed in
    record { sound = sound_then w None None c.requires.sound (kept_then (kept_then a.ensures.kept c.room-room.ensures.kept) c.enter.ensures.kept) (subst (λ y. Mid s.frames None y) (sym c.enter.ensures.step) d) }

pub overflow_add-steps : goal.overflow_add-steps
overflow_add-steps g c =
    let w = g.K.Key.meaning in let k = w c.args.key in let s = c.args.self.now in let a = c.recall-remembered in let r = c.room-room.result in let x = c.room-room.new.self in
    let q = ready s.frames k (machine_of w s) a.result c.requires.sound.facts c.requires.due c.requires.away a.ensures.there in
    let f = framed w k a.result s r a.new.self x q a.ensures.step a.ensures.kept c.room-room.ensures.found in
    let d = ready_entered s.frames k (asked w k a.result s) a.result r.frame.0 f.victim (steps_of r.steps) (machine_of w x) f.roomed in
    let t = machine_of w c.enter.new.self in let n = machine_of w c.hot_run.new.self in
    let e = kept_then (kept_then a.ensures.kept c.room-room.ensures.kept) c.enter.ensures.kept in
    let h = fault_steps s.frames (asked w k a.result s) r.frame.0 f.victim (steps_of r.steps) (machine_of w x) t n c.hot_run.result
    c.requires.sound.few q f.roomed (subst (λ y. Mid s.frames None y) (sym c.enter.ensures.step) d) (subst (λ m. HotRun m t c.hot_run.result n) e.frames c.hot_run.ensures.run) in
    omega arith

pub returns-clause-borrowed : goal.returns-clause-borrowed
returns-clause-borrowed g c =
    let w = g.K.Key.meaning in let k = w c.args.key in let s = c.args.self.now in let a = c.recall-remembered in let r = c.room-room.result in let x = c.room-room.new.self in
    let q = ready s.frames k (machine_of w s) a.result c.requires.sound.facts c.requires.due c.requires.away a.ensures.there in
    let f = framed w k a.result s r a.new.self x q a.ensures.step a.ensures.kept c.room-room.ensures.found in
    let e = kept_then (kept_then a.ensures.kept c.room-room.ensures.kept) c.enter.ensures.kept in
    let t = machine_of w c.enter.new.self in
    elim c.if-remembered.branch [
      | then-remembered y ↦ (
          let n = machine_of w y.hot_run.new.self in
          answer_is w k s r.frame (keyed w r.victim) y.outcome-is y.steps-is y.self-is
          (test_answer s.frames k (machine_of w s) a.result r.frame.0 f.victim (steps_of r.steps) (machine_of w x) t y.hot_run.result n (keyed w r.victim)
          c.requires.due c.requires.away a.ensures.there y.if-remembered.true f.room f.named c.enter.ensures.step (subst (λ m. HotRun m t y.hot_run.result n) e.frames y.hot_run.ensures.run)))
      | else-remembered y ↦ answer_is w k s r.frame (keyed w r.victim) y.outcome-is y.steps-is y.self-is
          (cold_answer s.frames k (machine_of w s) a.result r.frame.0 f.victim (steps_of r.steps) (machine_of w x) t (keyed w r.victim)
          c.requires.due a.ensures.there y.if-remembered.false f.room f.named c.enter.ensures.step)
    ]
