use Rattle.std.proofs.Common.{rules, List, filter, sym, ◌∙◌}
use borrow.Author.Tests.{tests}
use Rattle.std.proofs.lemmas.Iterator.Adapters.{option_map_id}
use Rattle.std.proofs.lemmas.Iterator.Search.{find_from_yields_List}
use Rattle.std.proofs.lemmas.Iterator.Consumers.{YieldsList-from_first}
use Rattle.records.specs.Questions.{cold_resident, unlent}
use Rattle.rows.specs.Rows.{rows_in}
use Rattle.rows.specs.declared.Row.{Row}
use Rattle.rows.proofs.Walks.{first_both}
use Rattle.rows.proofs.Table.candidate.Goals as goal

pub returns : goal.returns
returns g c =
    let rows = rows_in c.args.cells.now c.args.self.now in
    sym (option_map_id c.find.result)
    ∙ find_from_yields_List (λ (r : Row g.row.K.Denot). unlent r.entry) _ _ _ c.find.ensures.ran
    (YieldsList-from_first (λ x. x) (λ (l : List (Row g.row.K.Denot)). l) (filter (λ r. cold_resident r.entry) rows) c.walk.ensures)
    (λ x b q k. search (rules, tests))
    ∙ sym (first_both cold_resident unlent rows)
