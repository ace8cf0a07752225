use Rattle.std.proofs.Common.{◌<◌, ◌≤◌, true, false, None, vec_items, sym, ap, subst, arith}
use Rattle.std.proofs.lemmas.Bool.{lt-ltb, le-ltb}
use Rattle.machine.specs.Entry.{named}
use Rattle.machine.specs.Hands.{steps}
use Rattle.machine.specs.Borrow.{Borrow, refuses, granted, a_hit}
use Rattle.machine.specs.Facts.{Proper}
use Rattle.machine.proofs.Counts.{first_has}
use Rattle.records.specs.Reading.{entry_of, frame_of}
use Rattle.plain.specs.Hands.{machine_of}
use Rattle.plain.proofs.Placing.{first_found, none_found}
use Rattle.plain.proofs.Faults.{away_outside, away_remembered, refusal_outside, refusal-remembered, refusal-resident, hit_answer}
use Rattle.plain.proofs.hands.State.borrow.Goals as goal

pub miss-requires : goal.miss-requires
miss-requires g c =
    let w = g.K.Key.meaning in let k = w c.args.key in let s = c.args.self.now in
    let n = none_found w (named k) (vec_items s.ring) c.place_of.ensures c.in_default.is in
    record { sound = c.requires.sound; away = away_outside k (machine_of w s) n; question = refusal_outside s.frames k (machine_of w s) n }

pub miss-requires-in_default-frame : goal.miss-requires-in_default-frame
miss-requires-in_default-frame g c =
    let w = g.K.Key.meaning in let k = w c.args.key in let s = c.args.self.now in let e = c.index-e.result.now in
    let j = first_found w (named k) (vec_items s.ring) c.place_of.ensures c.in-Some.is c.index-e.ensures in
    let i = ap frame_of c.in_default-frame.is in
    record { sound = c.requires.sound; away = away_remembered k (machine_of w s) (entry_of w e) j i; question = refusal-remembered s.frames k (machine_of w s) (entry_of w e) j i }

pub returns-then-e-clause-borrowed : goal.returns-then-e-clause-borrowed
returns-then-e-clause-borrowed g c =
    let w = g.K.Key.meaning in let k = w c.args.key in let s = c.args.self.now in let e = c.index-e.result.now in
    let j = first_found w (named k) (vec_items s.ring) c.place_of.ensures c.in-Some.is c.index-e.ensures in
    let t = c.if-e.true in
    let h : 255 ≤ e.loans = omega arith in
    refuses (refusal-resident s.frames k (machine_of w s) (entry_of w e) c.in-Some-frame.frame.0 false j (ap frame_of c.in-Some-frame.is) (le-ltb e.loans 255 h))

pub hit-requires-clause-loans : goal.hit-requires-clause-loans
hit-requires-clause-loans g c =
    let w = g.K.Key.meaning in let k = w c.args.key in let s = c.args.self.now in let e = c.index-e.result.now in
    let j = first_found w (named k) (vec_items s.ring) c.place_of.ensures c.in-Some.is c.index-e.ensures in
    let l = (first_has Proper (named k) (machine_of w s).ring (entry_of w e) j c.requires.sound.facts.entries).loans_fit in
    let t = c.if-e.false in
    omega arith

pub returns-clause-borrowed : goal.returns-clause-borrowed
returns-clause-borrowed g c =
    let w = g.K.Key.meaning in let k = w c.args.key in let s = c.args.self.now in let e = c.index-e.result.now in let z = c.default.ensures in
    let j = first_found w (named k) (vec_items s.ring) c.place_of.ensures c.in-Some.is c.index-e.ensures in
    let i = ap frame_of c.in-Some-frame.is in
    let l = (first_has Proper (named k) (machine_of w s).ring (entry_of w e) j c.requires.sound.facts.entries).loans_fit in
    let t = c.if-e.false in
    let h : e.loans < 255 = omega arith in
    let q = refusal-resident s.frames k (machine_of w s) (entry_of w e) c.in-Some-frame.frame.0 true j i (lt-ltb e.loans 255 h) in
    subst (λ n. Borrow s.frames k (machine_of w s) (granted c.in-Some-frame.frame.0 (record { outcome = a_hit; victim = None; made = n; cold = c.hit.new.self.cold })) (machine_of w c.hit.new.self))
    (λ i. steps (sym z.0 i) (sym z.1.0 i) (sym z.1.1 i))
    (hit_answer s.frames k (machine_of w s) (entry_of w e) c.in-Some-frame.frame.0 (machine_of w c.hit.new.self) q j i c.hit.ensures.step)
