-- What is known of a ring that stands, and when one does.
use Rattle.std.proofs.Common.{◌≡◌, ℕ, ◌^◌, ◌<◌, true, List, [], ◌∷◌, ◌++◌, length, Some, sym, ap, ◌∙◌, subst, arith}
use Rattle.std.specs.List.{ContainsAt}
use Rattle.std.proofs.ByRecursion.{all-has}
use Rattle.chains.specs.Orders.{Apart}
use Rattle.chains.specs.declared.cell.Cell.{Cell}
use Rattle.chains.specs.declared.cell.Chain.TheVariants.{Ring}
use Rattle.chains.specs.Shape.{shape_of, Intact}
use Rattle.chains.proofs.Shapes.{order_apart, order_inside, size_is}
use Rattle.records.specs.Questions.{cold_resident}
use Rattle.rows.specs.Rows.{counted, plus, minus, SumsFit, NoneMore, cells_of, Slot, Kept, without_cell, gather, first_row, Linked, Members, Stands, rows_in, relinked, rewritten, replaced, cut_out}
use Rattle.records.specs.declared.entry.Entry.{Entry}
use Rattle.chains.specs.declared.Chains.{Chains}
use Rattle.rows.specs.declared.Counts.{Counts}
use Rattle.rows.specs.declared.Row.{Row}
use Rattle.rows.specs.declared.Table.{Table}
use Rattle.rows.proofs.Splits.{Within, within, cut_is}
use Rattle.rows.proofs.Links.{gathered, none_more, sums_fit, members, turned_linked, put_linked, cut_linked}

-- these are the rows of a ring that stands
abbrev pub Rows : {K : Type 0} → List (Cell (Entry K)) → Table → List (Row K) → Type 0
Rows cells b rows = record { stands : Stands cells b; rows : rows_in cells b ≡ rows }

-- the chains hold some rows: then those are the rows
pub stands_on : {K : Type 0} (cells : List (Cell (Entry K))) (b : Table) (rows : List (Row K)) → Intact cells b.chains → Linked b.counts (shape_of cells b.chains) rows
    → Rows cells b rows
unfolding Stands rows_in
stands_on cells b rows w k =
    let s = shape_of cells b.chains in
    let e : gather s.entry (s.order Ring) ≡ rows = ap (gather s.entry) k.ring ∙ gathered s.entry rows k.entries in
    record { stands = record { intact = w; linked = subst (λ l. Linked b.counts s l) (sym e) k }; rows = e }

module _ {K : Type 0} (cells : List (Cell (Entry K))) (b : Table) (st : Stands cells b) where
  pub intact : Intact cells b.chains
  unfolding Stands
  intact = st.intact

  pub linked : Linked b.counts (shape_of cells b.chains) (rows_in cells b)
  unfolding Stands
  linked = st.linked

  pub cells_apart : Apart (cells_of (rows_in cells b))
  cells_apart = subst Apart linked.ring (order_apart cells b.chains intact Ring)

  module _ (r : Row K) (h : ContainsAt (rows_in cells b) r) where
    pub row_within : Within (rows_in cells b) r
    row_within = within (rows_in cells b) r cells_apart h

    pub row_entry : (shape_of cells b.chains).entry r.cell.0 ≡ Some r.entry
    row_entry = all-has (λ x. (shape_of cells b.chains).entry x.cell.0 ≡ Some x.entry) (rows_in cells b) r linked.entries h

    pub row_inside : r.cell.0 < (shape_of cells b.chains).size
    row_inside = all-has (λ j. j < (shape_of cells b.chains).size) ((shape_of cells b.chains).order Ring) r.cell.0
        (order_inside cells b.chains intact Ring) (subst (λ o. ContainsAt o r.cell.0) (sym linked.ring) row_within.cells)

    pub row_slot : Slot (shape_of cells b.chains).slot r.cell.0 r.entry.frame
    row_slot = all-has (λ x. Slot (shape_of cells b.chains).slot x.cell.0 x.entry.frame) (rows_in cells b) r linked.directory h

    pub row_members : Members (shape_of cells b.chains) r
    row_members = members b.counts (shape_of cells b.chains) (rows_in cells b) linked r row_within row_entry row_slot row_inside

    -- what the row adds may be taken from the counts, and then there is room for another entry's
    pub less : NoneMore b.counts (counted r.entry)
    less = none_more b.counts (shape_of cells b.chains) (rows_in cells b) linked r row_within row_entry row_slot

    pub more : (new : Entry K) → length cells < 2 ^ 64 → SumsFit (minus b.counts (counted r.entry)) (counted new)
    more new h = sums_fit b.counts (shape_of cells b.chains) (rows_in cells b) linked r row_within row_entry row_slot new (omega (arith, size_is cells b.chains))

    -- the change is written, the counts are taken along: the rows that stand then
    module _ (cells' : List (Cell (Entry K))) (chains : Chains) (counts : Counts) (w : Intact cells' chains) where
      pub turned_stands : (new : Entry K) → Kept r.entry.frame new.frame → shape_of cells' chains ≡ relinked r new (shape_of cells b.chains)
          → counts ≡ plus (minus b.counts (counted r.entry)) (counted new)
          → Rows cells' (record { chains = chains; counts = counts }) (without_cell r.cell.0 (rows_in cells b) ++ record { cell = r.cell; entry = new } ∷ [])
      turned_stands new ke e c =
          stands_on cells' (record { chains = chains; counts = counts }) _ w
          (rw (e, c) (turned_linked b.counts (shape_of cells b.chains) (rows_in cells b) linked r row_within row_entry row_slot new ke))

      pub put_stands : (new : Entry K) → Kept r.entry.frame new.frame → (cold_resident new ≡ true → cold_resident r.entry ≡ true) → (new.test ≡ true → r.entry.test ≡ true)
          → shape_of cells' chains ≡ rewritten r new (shape_of cells b.chains) → counts ≡ plus (minus b.counts (counted r.entry)) (counted new)
          → Rows cells' (record { chains = chains; counts = counts }) (replaced r.cell.0 new (rows_in cells b))
      put_stands new ke ce te e c =
          stands_on cells' (record { chains = chains; counts = counts }) _ w
          (rw (e, c) (put_linked b.counts (shape_of cells b.chains) (rows_in cells b) linked r row_within row_entry row_slot new ke ce te))

      pub cut_stands : shape_of cells' chains ≡ cut_out r (shape_of cells b.chains) → counts ≡ minus b.counts (counted r.entry)
          → Rows cells' (record { chains = chains; counts = counts }) (without_cell r.cell.0 (rows_in cells b))
      cut_stands e c =
          stands_on cells' (record { chains = chains; counts = counts }) _ w
          (rw (e, c) (cut_linked b.counts (shape_of cells b.chains) (rows_in cells b) linked r row_within row_entry row_slot))

  -- the tail's row is the first, and the others are left without its cell
  pub tail_parts : (r : Row K) → first_row (rows_in cells b) ≡ Some r
      → (rest : List (Row K)) × (rows_in cells b ≡ r ∷ rest) × (without_cell r.cell.0 (rows_in cells b) ≡ rest) × ContainsAt (rows_in cells b) r
  tail_parts r e = go (rows_in cells b) cells_apart e
    where
      go : (rows : List (Row K)) → Apart (cells_of rows) → first_row rows ≡ Some r
          → (rest : List (Row K)) × (rows ≡ r ∷ rest) × (without_cell r.cell.0 rows ≡ rest) × ContainsAt rows r
      go [] a h = let z : ◌≡◌ {A = ℕ} 0 1 = cc in let y : ⊥ = omega arith in absurd y
      go (x ∷ xs) a h =
          let q : x ≡ r = cc in (
            xs,
            ap (λ y. y ∷ xs) q,
            subst (λ y. without_cell y.cell.0 (x ∷ xs) ≡ xs) q (cut_is [] x xs tt a.0),
            (0, omega arith, λ d. q),
          )
