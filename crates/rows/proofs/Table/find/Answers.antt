use Rattle.std.proofs.Common.{rules, List, sym, ◌∙◌}
use borrow.Author.Tests.{tests}
use Rattle.std.proofs.lemmas.Iterator.Adapters.{option_map_id}
use Rattle.std.proofs.lemmas.Iterator.Search.{find_from_yields_List}
use Rattle.std.proofs.lemmas.Iterator.Consumers.{YieldsList-from_first}
use Rattle.keys.specs.Same.{same_list}
use Rattle.rows.specs.Rows.{rows_in}
use Rattle.rows.specs.declared.Row.{Row}
use Rattle.rows.proofs.Table.find.Goals as goal

pub returns : goal.returns
returns g c =
    sym (option_map_id c.find.result)
    ∙ find_from_yields_List (λ (r : Row g.row.K.Denot). same_list (g.K.Key.meaning c.args.key.now) (g.K.Key.meaning r.entry.key)) _ _ _ c.find.ensures.ran
    (YieldsList-from_first (λ x. x) (λ (l : List (Row g.row.K.Denot)). l) (rows_in c.args.cells.now c.args.self.now) c.walk.ensures)
    (λ x b q k. search (rules, tests))
