use Rattle.std.proofs.Common.{◌≡◌, ℕ, ◌*◌, ◌≤◌, true, List, length, Some, None, sym, refl, ap, ◌∙◌, subst, arith}
use Rattle.keys.specs.Same.{same_list}
use Rattle.chains.specs.declared.cell.Cell.{Cell}
use Rattle.rows.specs.Rows.{Stands, rows_in, first_by}
use Rattle.rows.specs.declared.Row.{Row}
use Rattle.machine.specs.Entry.{named}
use Rattle.machine.specs.Hands.{Machine}
use Rattle.machine.specs.Borrow.{refuses, full, recalled, Room}
use Rattle.machine.specs.Facts.{Mid}
use Rattle.records.specs.Reading.{steps_of, entry_of, frame_of}
use Rattle.records.specs.declared.entry.Entry.{Entry}
use Rattle.ring.specs.Model.{machine_of}
use Rattle.ring.specs.declared.Ring.{Ring}
use Rattle.ring.proofs.States.{found_has, found_first, fair}
use Rattle.ring.proofs.Faults.{Ready, refusal-remembered, ready_recalled, ready_roomed, ready_entered, gap_open, gone_key, fault_steps, test_answer, written, recalled_pages}
use Rattle.ring.proofs.Ring.test_fault.Goals as goal

-- in the state x after the entry was taken out, a frame may be looked for
ready : {K : Type 0} (w : K → List ℕ) (cells : List (Cell (Entry K))) (ring : Ring) → Stands cells ring.table → (m : ℕ) (k : List ℕ) (r : Row K) →
    first_by (λ e. same_list k (w e.key)) (rows_in cells ring.table) ≡ Some r → r.entry.frame ≡ None → Mid m None (machine_of w cells ring) → full m (machine_of w cells ring) ≡ None →
    (x : Machine) → x ≡ recalled m k (machine_of w cells ring) → Ready m x
ready w cells ring st m k r f a d q x h =
    let s = machine_of w cells ring in let e = entry_of w r.entry in let i = ap frame_of a in
    let j = found_first w cells ring st (named k) (λ e. same_list k (w e.key)) (λ e. refl) r f in
    subst (Ready m) (sym h) (ready_recalled m k s e d (refusal-remembered m k s e j i ∙ q) j i)

pub returns-then-is_full : goal.returns-then-is_full
returns-then-is_full g c =
    let w = g.K.Key.meaning in let k = w c.args.key in let s = machine_of w c.args.cells.now c.args.self.now in let e = entry_of w c.args.row.entry in
    let j = found_first w c.args.cells.now c.args.self.now c.requires.sound.stands (named k) (λ e. same_list k (w e.key)) (λ e. refl) c.args.row c.requires.found in
    record { stands = c.requires.sound.stands; borrowed = refuses (refusal-remembered c.args.m k s e j (ap frame_of c.requires.away) ∙ c.if-is_full.ensures); written = tt }

pub take_out-requires : goal.take_out-requires
take_out-requires g c =
    let w = g.K.Key.meaning in let k = w c.args.key in
    record { stands = c.requires.sound.stands; there = found_has w c.args.cells.now c.args.self.now c.requires.sound.stands (named k) (λ e. same_list k (w e.key)) (λ e. refl) c.args.row c.requires.found }

pub make_room-room-requires : goal.make_room-room-requires
make_room-room-requires g c =
    let w = g.K.Key.meaning in let k = w c.args.key in
    let y = ready w c.args.cells.now c.args.self.now c.requires.sound.stands c.args.m k c.args.row c.requires.found c.requires.away c.requires.sound.facts c.if-is_full.ensures
    (machine_of w c.take_out.new.cells c.take_out.new.self) (c.take_out.ensures.step k c.requires.found) in
    record { sound = record { frames = c.requires.sound.frames; stands = c.take_out.ensures.stands; facts = y.mid }; unlent = fair c.args.m w c.take_out.new.cells c.take_out.new.self y.unlent }

pub enter-requires : goal.enter-requires
enter-requires g c =
    let w = g.K.Key.meaning in let k = w c.args.key in let x = machine_of w c.take_out.new.cells c.take_out.new.self in
    let y = ready w c.args.cells.now c.args.self.now c.requires.sound.stands c.args.m k c.args.row c.requires.found c.requires.away c.requires.sound.facts c.if-is_full.ensures x (c.take_out.ensures.step k c.requires.found) in
    let r = c.make_room-room.result in let f = c.make_room-room.ensures.found in let z = machine_of w c.make_room-room.new.cells c.make_room-room.new.self in
    let d = ready_roomed c.args.m x r.frame.0 f.victim (steps_of r.steps) z y f.room in
    let h = subst (λ n. 2 * c.args.m ≤ n) (sym (c.make_room-room.auto.cells ∙ c.take_out.auto.cells)) c.requires.memory in
    let p = gap_open c.args.m r.frame.0 (length c.make_room-room.new.cells) z h d.mid d.away in
    record { stands = c.make_room-room.ensures.stands; room = p.room; slot = p.slot; vacant = p.vacant }

pub hot_run-requires : goal.hot_run-requires
hot_run-requires g c =
    let w = g.K.Key.meaning in let k = w c.args.key in let x = machine_of w c.take_out.new.cells c.take_out.new.self in
    let y = ready w c.args.cells.now c.args.self.now c.requires.sound.stands c.args.m k c.args.row c.requires.found c.requires.away c.requires.sound.facts c.if-is_full.ensures x (c.take_out.ensures.step k c.requires.found) in
    let r = c.make_room-room.result in let f = c.make_room-room.ensures.found in let z = machine_of w c.make_room-room.new.cells c.make_room-room.new.self in
    let d = ready_roomed c.args.m x r.frame.0 f.victim (steps_of r.steps) z y f.room in
    record {
      frames = c.requires.sound.frames;
      stands = c.enter.ensures.stands;
      facts = subst (Mid c.args.m None) (sym c.enter.ensures.step) (ready_entered c.args.m k x true r.frame.0 f.victim (steps_of r.steps) z d);
    }

pub overflow_add-hot : goal.overflow_add-hot
overflow_add-hot g c =
    let w = g.K.Key.meaning in let k = w c.args.key in let x = machine_of w c.take_out.new.cells c.take_out.new.self in
    let y = ready w c.args.cells.now c.args.self.now c.requires.sound.stands c.args.m k c.args.row c.requires.found c.requires.away c.requires.sound.facts c.if-is_full.ensures x (c.take_out.ensures.step k c.requires.found) in
    let r = c.make_room-room.result in let f = c.make_room-room.ensures.found in let z = machine_of w c.make_room-room.new.cells c.make_room-room.new.self in
    let d = ready_roomed c.args.m x r.frame.0 f.victim (steps_of r.steps) z y f.room in
    let v = subst (Mid c.args.m None) (sym c.enter.ensures.step) (ready_entered c.args.m k x true r.frame.0 f.victim (steps_of r.steps) z d) in
    let h = fault_steps c.args.m x r.frame.0 f.victim (steps_of r.steps) z (machine_of w c.enter.new.cells c.enter.new.self) (machine_of w c.hot_run.new.cells c.hot_run.new.self) c.hot_run.result
    c.requires.sound.frames y d v c.hot_run.ensures.run in
    omega arith

pub returns : goal.returns
unfolding machine_of
returns g c =
    let w = g.K.Key.meaning in let k = w c.args.key in let s = machine_of w c.args.cells.now c.args.self.now in let e = entry_of w c.args.row.entry in
    let j = found_first w c.args.cells.now c.args.self.now c.requires.sound.stands (named k) (λ e. same_list k (w e.key)) (λ e. refl) c.args.row c.requires.found in
    let i = ap frame_of c.requires.away in
    let r = c.make_room-room.result in let f = c.make_room-room.ensures.found in let z = machine_of w c.make_room-room.new.cells c.make_room-room.new.self in
    let o = subst (λ x. Room c.args.m x r.frame.0 f.victim (steps_of r.steps) z) (c.take_out.ensures.step k c.requires.found) f.room in
    let y = ready w c.args.cells.now c.args.self.now c.requires.sound.stands c.args.m k c.args.row c.requires.found c.requires.away c.requires.sound.facts c.if-is_full.ensures (recalled c.args.m k s) refl in
    record {
      stands = c.hot_run.ensures.stands;
      borrowed = rw c.granted.ensures (test_answer c.args.m k s e r.frame.0 f.victim (steps_of r.steps) z (machine_of w c.enter.new.cells c.enter.new.self) c.hot_run.result (machine_of w c.hot_run.new.cells c.hot_run.new.self) _
          (refusal-remembered c.args.m k s e j i ∙ c.if-is_full.ensures) j i o (gone_key w r.frame f.victim r.victim f.gone) c.enter.ensures.step c.hot_run.ensures.run);
      written = rw c.granted.ensures (written w c.args.m r.frame s (recalled c.args.m k s) f.victim r.victim (steps_of r.steps) z c.requires.sound.facts
          (ready_roomed c.args.m (recalled c.args.m k s) r.frame.0 f.victim (steps_of r.steps) z y o) (recalled_pages c.args.m k s e j i) f.gone);
    }
