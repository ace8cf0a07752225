use Rattle.std.proofs.Common.{Some, None, sym, refl, ap, subst}
use Rattle.std.proofs.lemmas.Bool.{lt-ltb, le-ltb}
use Rattle.machine.specs.Hands.{steps}
use Rattle.machine.specs.Borrow.{Room, unused, freed, grown}
use Rattle.machine.proofs.Counts.{none_some}
use Rattle.machine.proofs.Cold.{cold_run_sent}
use Rattle.records.specs.Reading.{entry_of, frame_of}
use Rattle.plain.specs.Hands.{machine_of}
use Rattle.plain.proofs.hands.State.room.Goals as goal

pub returns-then-self-clause-found : goal.returns-then-self-clause-found
returns-then-self-clause-found g c =
    let s = c.args.self.now in let M = machine_of g.K.Key.meaning s in let z = c.default.ensures in
    record {
      victim = None;
      room = subst (λ n. Room s.frames M s.used None n (grown M)) (λ i. steps (sym z.0 i) (sym z.1.0 i) (sym z.1.1 i)) (unused (lt-ltb s.used s.frames c.if-self.true));
      named = refl;
    }

pub unreachable-requires : goal.unreachable-requires
unreachable-requires g c =
    let s = c.args.self.now in
    let u = c.requires.unlent (le-ltb s.used s.frames c.if-self.false) in
    let z = cold_run_sent s.frames c.cold_run-victim.ensures.run c.requires.sound.facts u in
    none_some (frame_of c.cold_run-victim.result.victim.frame) z.freed (ap frame_of c.in_default.is) z.lies

pub returns-clause-found : goal.returns-clause-found
returns-clause-found g c =
    let s = c.args.self.now in record {
      victim = Some (entry_of g.K.Key.meaning c.cold_run-victim.result.victim);
      room = freed (le-ltb s.used s.frames c.if-self.false) c.cold_run-victim.ensures.run (ap frame_of c.in-Some.is);
      named = refl;
    }
