use Rattle.std.proofs.Common.{◌∙◌, ap}
use Rattle.chains.specs.Shape.{shape_of}
use Rattle.rows.specs.Rows.{ahead}
use Rattle.rows.proofs.Walks.{along, sets_out, ahead_all}
use Rattle.rows.proofs.Table.walk.Goals as goal

pub invariant_of-result : goal.invariant_of-result
invariant_of-result g c =
    let s = shape_of c.args.cells.now c.args.self.now.chains in
    let a = along c.args.cells.now c.args.self.now c.requires.stands c.args.which c.requires.entries in
    rw (c.len.ensures, c.unwrap_or.ensures) (sets_out s c.args.which c.first.result c.first.ensures a.0)

pub returns : goal.returns
returns g c =
    let s = shape_of c.args.cells.now c.args.self.now.chains in
    let a = along c.args.cells.now c.args.self.now c.requires.stands c.args.which c.requires.entries in
    ap (ahead s c.args.which) c.len.ensures ∙ ahead_all s c.args.which ∙ a.1
