use Rattle.std.proofs.Common.{◌≡◌, sym, ap, ◌∙◌, rules}
use Rattle.chains.specs.Shape.{shape_of, ends_at, name_of}
use Rattle.chains.proofs.Shapes.{head_tail, tail_of}
use Rattle.chains.proofs.Chains.first.Goals as goal

pub returns : goal.returns
unfolding shape_of
returns g c =
    let q : name_of c.map.result ≡ tail_of c.at.result = search rules in
    q ∙ ap tail_of c.at.ensures
    ∙ sym (head_tail c.args.cells.now c.args.which (ends_at c.args.self.now c.args.which))
