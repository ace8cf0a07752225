use Rattle.std.proofs.Common.{sym, ◌∙◌, length, ap, arith}
use Rattle.chains.specs.Shape.{shape_of}
use Rattle.chains.proofs.Shapes.{entry_inside}
use Rattle.rows.proofs.Walks.{goes_on, comes_to}
use Rattle.rows.proofs.WalkIterator.next.Goals as goal

pub next-self-inside-requires : goal.next-self-inside-requires
next-self-inside-requires g c = let i = c.self.inside in entry_inside i.cells.now i.chains.now i.at.0 c.unwrap-entry.result (sym c.entry.ensures ∙ c.unwrap-entry.ensures)

pub invariant_of-self : goal.invariant_of-self
invariant_of-self g c =
    let i = c.self.inside in
    goes_on (shape_of i.cells.now i.chains.now) i.which i.at i.left c.in_ok-self-inside.field-0 c.self.invariant c.in_ok-self-inside.ensures.0 c.in_ok-self-inside.ensures.1 c.next-self-inside.result.0 c.next-self-inside.ensures

pub returns-clause-steps : goal.returns-clause-steps
returns-clause-steps g c =
    let i = c.self.inside in
    sym c.self.view_is ∙ comes_to (shape_of i.cells.now i.chains.now) i.which i.at i.left c.in_ok-self-inside.field-0 c.self.invariant c.in_ok-self-inside.ensures.0 c.in_ok-self-inside.ensures.1 c.unwrap-entry.result (sym c.entry.ensures ∙ c.unwrap-entry.ensures)

pub returns-clause-goes : goal.returns-clause-goes
returns-clause-goes g c =
    let i = c.self.inside in
    let e = sym c.self.view_is ∙ comes_to (shape_of i.cells.now i.chains.now) i.which i.at i.left c.in_ok-self-inside.field-0 c.self.invariant c.in_ok-self-inside.ensures.0 c.in_ok-self-inside.ensures.1 c.unwrap-entry.result (sym c.entry.ensures ∙ c.unwrap-entry.ensures) in
    record { on = λ _. (tt, tt, omega (arith, ap length e)); keeps = tt; rests = λ _. tt }
