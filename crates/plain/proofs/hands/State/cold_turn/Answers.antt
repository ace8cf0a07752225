use Rattle.std.proofs.Common.{Some, None, vec_items, sym, subst}
use Rattle.machine.specs.Entry.{free}
use Rattle.machine.specs.Hands.{HotRun, TestRun}
use Rattle.machine.specs.Facts.{Mid}
use Rattle.machine.proofs.Counts.{first_passes}
use Rattle.machine.proofs.Eased.{promote_eased, free-resident}
use Rattle.machine.proofs.Cold.{has_frame, evict_mid}
use Rattle.records.specs.Reading.{entry_of}
use Rattle.plain.specs.Hands.{machine_of, TurnsOn, by_hot_step, by_promotion, by_retest, by_eviction}
use Rattle.plain.proofs.Keeping.{sound_then}
use Rattle.plain.proofs.Placing.{first_found, none_found}
use Rattle.plain.proofs.hands.State.cold_turn.Goals as goal

pub returns-in_default-clause-turned : goal.returns-in_default-clause-turned
returns-in_default-clause-turned g c =
    let w = g.K.Key.meaning in let s = c.args.self.now in
    let n = none_found w free (vec_items s.ring) c.candidate.ensures c.in_default.is in
    subst (λ x. TurnsOn s.frames (machine_of w s) 0 1 x) (sym c.hot_step.ensures.step) (by_hot_step n)

pub hot_run-hot-requires : goal.hot_run-hot-requires
hot_run-hot-requires g c =
    let w = g.K.Key.meaning in let s = c.args.self.now in let e = c.index-e.result.now in
    let f = first_found w free (vec_items s.ring) c.candidate.ensures c.in-Some.is c.index-e.ensures in
    record {
      sound = sound_then w None None c.requires.sound c.promote.ensures.kept
          (subst (λ x. Mid s.frames None x) (sym c.promote.ensures.step) ((promote_eased s.frames (machine_of w s) (entry_of w e) f).mids None c.requires.sound.facts));
    }

pub test_run-test-requires : goal.test_run-test-requires
test_run-test-requires g c =
    let w = g.K.Key.meaning in let s = c.args.self.now in let e = c.index-e.result.now in
    let f = first_found w free (vec_items s.ring) c.candidate.ensures c.in-Some.is c.index-e.ensures in
    let h = has_frame (entry_of w e).frame (free-resident (entry_of w e) (first_passes free (machine_of w s).ring (entry_of w e) f)).0 in
    record {
      sound = (
        Some h.0,
        sound_then w None (Some h.0) c.requires.sound c.evict.ensures.kept
            (subst (λ x. Mid s.frames (Some h.0) x) (sym c.evict.ensures.step) (evict_mid s.frames h.0 (machine_of w s) (entry_of w e) c.requires.sound.facts f h.1)),
      );
    }

pub returns-in-true-true-clause-turned : goal.returns-in-true-true-clause-turned
returns-in-true-true-clause-turned g c =
    let w = g.K.Key.meaning in let s = c.args.self.now in
    let p = c.promote.new.self in let t = machine_of w c.hot_run-hot.new.self in
    let r = subst (λ n. HotRun n (machine_of w p) c.hot_run-hot.result t) c.promote.ensures.kept.frames c.hot_run-hot.ensures.run in
    by_promotion (first_found w free (vec_items s.ring) c.candidate.ensures c.in-Some.is c.index-e.ensures) c.in-true-true.is-0 c.in-true-true.is-1
    (subst (λ x. HotRun s.frames x c.hot_run-hot.result t) c.promote.ensures.step r)

pub returns-in-true-false-clause-turned : goal.returns-in-true-false-clause-turned
returns-in-true-false-clause-turned g c =
    let w = g.K.Key.meaning in let s = c.args.self.now in
    let f = first_found w free (vec_items s.ring) c.candidate.ensures c.in-Some.is c.index-e.ensures in
    subst (λ x. TurnsOn s.frames (machine_of w s) 1 0 x) (sym c.retest.ensures.step) (by_retest f c.in-true-false.is-0 c.in-true-false.is-1)

pub returns-in-false-default-clause-turned : goal.returns-in-false-default-clause-turned
returns-in-false-default-clause-turned g c =
    let w = g.K.Key.meaning in let s = c.args.self.now in
    let p = c.evict.new.self in let t = machine_of w c.test_run-test.new.self in
    let r = subst (λ n. TestRun n (machine_of w p) c.test_run-test.result t) c.evict.ensures.kept.frames c.test_run-test.ensures.run in
    by_eviction (first_found w free (vec_items s.ring) c.candidate.ensures c.in-Some.is c.index-e.ensures) c.in-false-default.is-0
    (subst (λ x. TestRun s.frames x c.test_run-test.result t) c.evict.ensures.step r)
