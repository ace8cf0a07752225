use Rattle.std.proofs.Common.{Some, None}
use Rattle.std.proofs.lemmas.Bool.{lt-ltb, le-ltb}
use Rattle.machine.specs.Borrow.{unused, freed}
use Rattle.ring.specs.Model.{machine_of}
use Rattle.ring.proofs.Ring.make_room.Goals as goal

pub returns-then-self-m : goal.returns-then-self-m
unfolding machine_of
returns-then-self-m g c = record {
  stands = c.requires.sound.stands;
  found = record { victim = None; room = rw c.default.ensures.0 (rw c.default.ensures.1.0 (rw c.default.ensures.1.1 (unused (lt-ltb c.args.self.now.used c.args.m c.if-self-m.true)))); gone = tt };
}

pub cold_run-freed-requires : goal.cold_run-freed-requires
cold_run-freed-requires g c = record {
  sound = c.requires.sound;
  unlent = c.requires.unlent (le-ltb c.args.self.now.used c.args.m c.if-self-m.false);
}

pub returns : goal.returns
unfolding machine_of
returns g c =
    let r = c.cold_run-freed.ensures.run in
    record {
      stands = c.cold_run-freed.ensures.stands;
      found = record {
        victim = Some r.victim;
        room = freed (le-ltb c.args.self.now.used c.args.m c.if-self-m.false) r.run r.sent.lies;
        gone = r.sent;
      };
    }
