use Rattle.std.proofs.Common.{◌≡◌, take, vec_items}
use Rattle.machine.specs.Entry.{is_hot}
use Rattle.plain.specs.Lists.{tally}
use Rattle.plain.proofs.hands.State.hot.Given as goal

abbrev pub invariant-loop-e : goal.invariant-loop-e
invariant-loop-e g l = l.n ≡ tally g.K.Key.meaning is_hot (take l.e-index (vec_items l.self.ring))
