use Rattle.std.proofs.Common.{◌*◌, ◌≤◌, length, sym, refl, ◌∙◌, subst}
use Rattle.machine.specs.Borrow.{refuses}
use Rattle.records.specs.Reading.{steps_of}
use Rattle.ring.specs.Model.{machine_of}
use Rattle.ring.proofs.Faults.{refusal_outside, ready_outside, ready_roomed, gap_open, gone_key, cold_answer, written}
use Rattle.ring.proofs.Ring.cold_fault.Goals as goal

pub returns-then-is_full : goal.returns-then-is_full
returns-then-is_full g c =
    let w = g.K.Key.meaning in let k = w c.args.key in let s = machine_of w c.args.cells.now c.args.self.now in
    record { stands = c.requires.sound.stands; borrowed = refuses (refusal_outside c.args.m k s c.requires.outside ∙ c.if-is_full.ensures); written = tt }

pub make_room-room-requires : goal.make_room-room-requires
unfolding machine_of
make_room-room-requires g c =
    let w = g.K.Key.meaning in let k = w c.args.key in let s = machine_of w c.args.cells.now c.args.self.now in
    let q = refusal_outside c.args.m k s c.requires.outside ∙ c.if-is_full.ensures in
    record { sound = c.requires.sound; unlent = (ready_outside c.args.m k s c.requires.sound.facts q c.requires.outside).unlent }

pub enter-requires : goal.enter-requires
enter-requires g c =
    let w = g.K.Key.meaning in let k = w c.args.key in let s = machine_of w c.args.cells.now c.args.self.now in
    let q = refusal_outside c.args.m k s c.requires.outside ∙ c.if-is_full.ensures in
    let r = c.make_room-room.result in let f = c.make_room-room.ensures.found in let x = machine_of w c.make_room-room.new.cells c.make_room-room.new.self in
    let d = ready_roomed c.args.m s r.frame.0 f.victim (steps_of r.steps) x (ready_outside c.args.m k s c.requires.sound.facts q c.requires.outside) f.room in
    let h = subst (λ n. 2 * c.args.m ≤ n) (sym c.make_room-room.auto.cells) c.requires.memory in
    let o = gap_open c.args.m r.frame.0 (length c.make_room-room.new.cells) x h d.mid d.away in
    record { stands = c.make_room-room.ensures.stands; room = o.room; slot = o.slot; vacant = o.vacant }

pub returns : goal.returns
unfolding machine_of
returns g c =
    let w = g.K.Key.meaning in let k = w c.args.key in let s = machine_of w c.args.cells.now c.args.self.now in
    let q = refusal_outside c.args.m k s c.requires.outside ∙ c.if-is_full.ensures in
    let r = c.make_room-room.result in let f = c.make_room-room.ensures.found in let x = machine_of w c.make_room-room.new.cells c.make_room-room.new.self in
    record {
      stands = c.enter.ensures.stands;
      borrowed = rw c.granted.ensures (cold_answer c.args.m k s r.frame.0 f.victim (steps_of r.steps) x (machine_of w c.enter.new.cells c.enter.new.self) _ q c.requires.outside f.room (gone_key w r.frame f.victim r.victim f.gone) c.enter.ensures.step);
      written = rw c.granted.ensures (written w c.args.m r.frame s s f.victim r.victim (steps_of r.steps) x c.requires.sound.facts (ready_roomed c.args.m s r.frame.0 f.victim (steps_of r.steps) x (ready_outside c.args.m k s c.requires.sound.facts q c.requires.outside) f.room) (λ p. refl) f.gone);
    }
