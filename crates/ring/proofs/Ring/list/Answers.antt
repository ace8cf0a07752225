use Rattle.std.proofs.Common.{◌≡◌, ℕ, List, [], ◌∷◌, map, Ok, Err, Result, IfOk, refl, ap, ◌∙◌}
use Rattle.rows.specs.declared.Row.{Row}
use Rattle.rows.specs.Rows.{entries_of, rows_in}
use Rattle.records.specs.Reading.{entry_of}
use Rattle.ring.specs.Model.{entries_in, machine_of}
use Rattle.ring.proofs.Ring.list.Goals as goal

read_rows : {K : Type 0} (f : K → List ℕ) (rows : List (Row K)) → map (entry_of f) (entries_of rows) ≡ entries_in f rows
read_rows f [] = refl
read_rows f (r ∷ rows) = ap (λ t. entry_of f r.entry ∷ t) (read_rows f rows)

if_ok : {A E : Type 0} (p q : A → Type 0) → ((v : A) → p v → q v) → (r : Result A E) → IfOk r p → IfOk r q
if_ok p q f (Ok v) h = f v h
if_ok p q f (Err _) h = tt

pub returns : goal.returns
unfolding machine_of
returns g c =
    let f = g.K.Key.meaning in
    if_ok _ _ (λ v e. ap (map (entry_of f)) e ∙ read_rows f (rows_in c.args.cells.now c.args.self.now.table)) c.list.result c.list.ensures
