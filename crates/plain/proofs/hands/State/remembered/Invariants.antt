use Rattle.std.proofs.Common.{◌≡◌, take, vec_items}
use Rattle.machine.specs.Entry.{remembered}
use Rattle.plain.specs.Lists.{tally}
use Rattle.plain.proofs.hands.State.remembered.Given as goal

abbrev pub invariant-loop-e : goal.invariant-loop-e
invariant-loop-e g l = l.n ≡ tally g.K.Key.meaning remembered (take l.e-index (vec_items l.self.ring))
