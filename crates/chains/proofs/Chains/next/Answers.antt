use Rattle.std.proofs.Common.{ap, ◌∙◌}
use Rattle.chains.specs.Cells.{next_of}
use Rattle.chains.proofs.Steps.{order_next}
use Rattle.chains.specs.Shape.{shape_of, ends_at}
use Rattle.chains.proofs.Chains.next.Goals as goal

pub links_of-requires : goal.links_of-requires
unfolding shape_of
links_of-requires g c = c.requires

pub returns : goal.returns
unfolding shape_of
returns g c = λ k h e.
    c.links_of.ensures.ahead ∙ ap (next_of c.args.cells.now c.args.which) e
    ∙ order_next c.args.cells.now c.args.which (ends_at c.args.self.now c.args.which) k h
