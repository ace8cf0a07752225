use Rattle.std.proofs.lemmas.Bool.Decides.{when_false}
use Rattle.chains.specs.Shape.{shape_of}
use Rattle.chains.proofs.Shapes.{as_away}
use Rattle.chains.proofs.Chains.leave.Goals as goal

pub returns-else-was-clause-shape : goal.returns-else-was-clause-shape
returns-else-was-clause-shape g c = as_away c.args.which c.args.i.0 (shape_of c.args.cells.now c.args.self.now) (when_false _ _ c.if-was.false c.requires.member)
