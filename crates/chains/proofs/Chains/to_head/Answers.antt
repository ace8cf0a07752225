use Rattle.std.proofs.Common.{◌<◌}
use Rattle.std.proofs.ByRecursion.{all-has}
use Rattle.chains.specs.Shape.{shape_of}
use Rattle.chains.proofs.Shapes.{order_inside, away_after}
use Rattle.chains.proofs.Chains.to_head.Goals as goal

pub push-requires-clause-cell : goal.push-requires-clause-cell
push-requires-clause-cell g c =
    let s = shape_of c.args.cells.now c.args.self.now in
    rw c.unlink.ensures.shape
    (all-has (λ j. j < s.size) (s.order c.args.which) c.args.i.0 (order_inside c.args.cells.now c.args.self.now c.requires.intact c.args.which) c.requires.there)

pub push-requires-clause-away : goal.push-requires-clause-away
push-requires-clause-away g c = away_after c.args.which c.args.i.0 (shape_of c.args.cells.now c.args.self.now) _ c.unlink.ensures.shape
