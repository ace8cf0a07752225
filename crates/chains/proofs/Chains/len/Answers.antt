use Rattle.std.proofs.Common.{◌≡◌, sym, ap, ◌∙◌, rules}
use Rattle.chains.proofs.Steps.{order_length, len_of}
use Rattle.chains.specs.Shape.{shape_of, ends_at}
use Rattle.chains.proofs.Chains.len.Goals as goal

pub returns : goal.returns
unfolding shape_of
returns g c =
    let q : c.map_or.result ≡ len_of c.at.result = search rules in
    q ∙ ap len_of c.at.ensures
    ∙ sym (order_length c.args.cells.now c.args.which (ends_at c.args.self.now c.args.which))
