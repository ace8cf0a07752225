use Rattle.std.proofs.Common.{rules, List, ◌∙◌}
use borrow.Author.Tests.{tests}
use Rattle.std.proofs.lemmas.Iterator.{items_from_collect, YieldsList-from_map}
use Rattle.std.proofs.lemmas.Iterator.Consumers.{YieldsList-from_first}
use Rattle.rows.specs.Rows.{rows_in}
use Rattle.rows.specs.declared.Row.{Row}
use Rattle.rows.proofs.Table.list.Goals as goal

pub returns : goal.returns
returns g c =
    items_from_collect _ c.collect.ensures.ran
    (YieldsList-from_map _ (λ (r : Row g.row.K.Denot). r.entry)
    (YieldsList-from_first (λ x. x) (λ (l : List (Row g.row.K.Denot)). l) (rows_in c.args.cells.now c.args.self.now) (c.map.ensures.source ∙ c.walk.ensures))
    c.map.ensures.closure
    (λ x r q k. search (rules, tests)))
