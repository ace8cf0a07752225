use Rattle.std.proofs.Common.{sym, ap, ◌∙◌}
use Rattle.chains.specs.Shape.{shape_of, pushed, followed}
use Rattle.chains.proofs.Shapes.{as_turned, as_unlinked, away_after}
use Rattle.chains.proofs.Chains.follow.Goals as goal

pub push-requires-clause-away : goal.push-requires-clause-away
push-requires-clause-away g c = away_after c.args.which c.args.i.0 (shape_of c.args.cells.now c.args.self.now) _ c.leave.ensures.shape

pub returns-then-is-clause-shape : goal.returns-then-is-clause-shape
returns-then-is-clause-shape g c =
    let s = shape_of c.args.cells.now c.args.self.now in
    c.push.ensures.shape ∙ ap (pushed c.args.which c.args.i.0) c.leave.ensures.shape
    ∙ as_turned c.args.which c.args.i.0 s ∙ ap (λ b. followed c.args.which c.args.i.0 b s) (sym c.if-is.true)

pub returns-else-is-clause-shape : goal.returns-else-is-clause-shape
returns-else-is-clause-shape g c =
    let s = shape_of c.args.cells.now c.args.self.now in
    c.leave.ensures.shape ∙ as_unlinked c.args.which c.args.i.0 s ∙ ap (λ b. followed c.args.which c.args.i.0 b s) (sym c.if-is.false)
