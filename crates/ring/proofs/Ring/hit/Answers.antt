use Rattle.std.proofs.Common.{◌<◌, ◌≤◌, true, false, refl, ap, arith}
use Rattle.std.proofs.lemmas.Bool.{lt-ltb, le-ltb}
use Rattle.keys.specs.Same.{same_list}
use Rattle.machine.specs.Entry.{named}
use Rattle.machine.specs.Borrow.{refuses}
use Rattle.machine.specs.Facts.{Proper}
use Rattle.machine.proofs.Counts.{first_has}
use Rattle.records.specs.Reading.{entry_of, frame_of}
use Rattle.ring.specs.Model.{machine_of}
use Rattle.ring.proofs.States.{found_has, found_first}
use Rattle.ring.proofs.Faults.{refusal-resident, hit_answer}
use Rattle.ring.proofs.Ring.hit.Goals as goal

pub returns-then-row-eq255-clause-borrowed : goal.returns-then-row-eq255-clause-borrowed
returns-then-row-eq255-clause-borrowed g c =
    let w = g.K.Key.meaning in let k = w c.args.key in let x = c.args.cells.now in let n = c.args.self.now in let e = entry_of w c.args.row.entry in
    let j = found_first w x n c.requires.stands (named k) (λ e. same_list k (w e.key)) (λ e. refl) c.args.row c.requires.found in
    let t = c.if-row-eq255.true in
    let h : 255 ≤ c.args.row.entry.loans = omega arith in
    refuses (refusal-resident c.args.m k (machine_of w x n) e c.args.frame.0 false j (ap frame_of c.requires.here) (le-ltb c.args.row.entry.loans 255 h))

pub touch-requires-clause-there : goal.touch-requires-clause-there
touch-requires-clause-there g c =
    let w = g.K.Key.meaning in let k = w c.args.key in
    found_has w c.args.cells.now c.args.self.now c.requires.stands (named k) (λ e. same_list k (w e.key)) (λ e. refl) c.args.row c.requires.found

pub returns-clause-borrowed : goal.returns-clause-borrowed
unfolding machine_of
returns-clause-borrowed g c =
    let w = g.K.Key.meaning in let k = w c.args.key in let x = c.args.cells.now in let n = c.args.self.now in let e = entry_of w c.args.row.entry in
    let j = found_first w x n c.requires.stands (named k) (λ e. same_list k (w e.key)) (λ e. refl) c.args.row c.requires.found in
    let i = ap frame_of c.requires.here in
    let t = c.if-row-eq255.false in
    let l = (first_has Proper (named k) (machine_of w x n).ring e j c.requires.facts.entries).loans_fit in
    let h : c.args.row.entry.loans < 255 = omega arith in
    let q = refusal-resident c.args.m k (machine_of w x n) e c.args.frame.0 true j i (lt-ltb c.args.row.entry.loans 255 h) in
    rw c.granted.ensures (rw c.default.ensures.0 (rw c.default.ensures.1.0 (rw c.default.ensures.1.1 (hit_answer c.args.m k (machine_of w x n) e c.args.frame.0 (machine_of w c.touch.new.cells c.touch.new.self) q j i (c.touch.ensures.step k c.requires.found)))))
