use Rattle.rows.specs.Rows.{rows_in}
use Rattle.rows.proofs.Walks.{first_of}
use Rattle.rows.proofs.Table.marked_row.Goals as goal

pub returns : goal.returns
returns g c = first_of (λ e. e.test) (rows_in c.args.cells.now c.args.self.now) _ _ _ c.walk.ensures c.next.ensures.steps
