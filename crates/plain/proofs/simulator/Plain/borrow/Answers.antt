use Rattle.machine.proofs.Calls.{borrow_mid}
use Rattle.plain.proofs.Once.{opened_sound, closed_sound}
use Rattle.plain.proofs.simulator.Plain.borrow.Goals as goal

pub borrow-requires : goal.borrow-requires
borrow-requires g c = record { sound = opened_sound g.K.Key.meaning c.args.self.now }

pub invariant_of-self : goal.invariant_of-self
invariant_of-self g c =
    let p = c.args.self.now in let w = g.K.Key.meaning in let s = opened_sound w p in
    let z = closed_sound w s c.borrow.ensures.kept (borrow_mid p.state.frames (w c.args.key) c.borrow.ensures.borrowed s.facts) in
    record { few = z.few; memory = z.memory; facts = z.facts }
