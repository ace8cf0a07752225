use Rattle.std.proofs.Common.{refl}
use Rattle.chains.specs.Shape.{shape_of}
use Rattle.chains.proofs.Rewired.{stored}
use Rattle.chains.proofs.Shapes.{intact_stored, shape_stored}
use Rattle.chains.proofs.Chains.put.Goals as goal

pub returns : goal.returns
unfolding shape_of
returns g c =
    let s = stored c.args.cells.now c.args.i.0 c.index-cells-i.result _ c.requires.cell refl refl in
    record { intact = intact_stored s c.args.self.now c.requires.intact; shape = shape_stored s c.args.self.now }
