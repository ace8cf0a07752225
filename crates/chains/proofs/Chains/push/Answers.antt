use Rattle.std.proofs.Common.{◌<◌, [], ◌∷◌, ◌++◌, length, Some, ap, ◌∙◌, rules}
use Rattle.chains.specs.Cells.{place}
use Rattle.chains.specs.Orders.{order_of}
use Rattle.chains.specs.Shape.{shape_of, Intact}
use Rattle.chains.proofs.Shapes.{one_changed}
use Rattle.chains.proofs.Chains.push.Goals as goal

pub push-ends-requires : goal.push-ends-requires
unfolding Intact shape_of
push-ends-requires g c = record {
  cell = c.requires.cell;
  sound = rw c.at.ensures (c.requires.intact c.args.which);
  free = rw c.at.ensures c.requires.away;
}

pub returns : goal.returns
returns g c =
    let e = c.push-ends.ensures in
    let w = c.args.which in
    let o = e.order ∙ ap (λ x. order_of c.args.cells.now w x ++ c.args.i.0 ∷ []) c.at.ensures in
    let r : place w < length c.args.self.now.ends = search rules in
    let k = one_changed c.args.cells.now c.push-ends.new.cells c.args.self.now _ w (Some c.push-ends.result) (λ l. l ++ c.args.i.0 ∷ []) e.others e.sound o (search rules) r c.requires.intact in
    record { intact = k.0; shape = k.1 }
