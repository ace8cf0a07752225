use Rattle.std.proofs.Common.{refl}
use Rattle.chains.specs.Shape.{shape_of}
use Rattle.chains.proofs.Rewired.{slotted}
use Rattle.chains.proofs.Shapes.{intact_slotted, shape_slotted}
use Rattle.chains.proofs.Chains.set_slot.Goals as goal

pub returns : goal.returns
unfolding shape_of
returns g c =
    let s = slotted c.args.cells.now c.args.frame.0 c.index-cells-frame.result _ c.requires.fits _ refl refl refl in
    record { intact = intact_slotted s c.args.self.now c.requires.intact; shape = shape_slotted s c.args.self.now }
