use Rattle.ring.specs.Model.{CanBorrow}
use Rattle.compare_rings.proofs.playing.run.Given as goal

abbrev pub invariant-loop : goal.invariant-loop
invariant-loop g l = CanBorrow g.K.Key.meaning l.game.m l.cells l.game.ring
