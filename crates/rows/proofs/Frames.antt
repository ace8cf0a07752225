-- The directory finds the row of a frame: the cell of its slot has that row, or there is none.
use Rattle.std.proofs.Common.{◌≡◌, ℕ, ◌<◌, Bool, true, false, cond, ◌≢◌, ◌⊎◌, List, [], ◌∷◌, ◌++◌, Some, None, Option, sym, refl, ap, ◌∙◌, subst, inl, inr, arith}
use Rattle.keys.specs.declared.FrameNo.{FrameNo}
use Rattle.keys.specs.declared.CellNo.{CellNo}
use Rattle.std.specs.Bool.{then_some}
use Rattle.std.specs.List.{ContainsAt, AllByRecursion}
use Rattle.std.proofs.lemmas.List.{length-append, length-map}
use Rattle.std.proofs.ByRecursion.{all-has, all_has_itself, All-weaker, All-append, has_append_right}
use Rattle.std.proofs.lemmas.Bool.{cases_eq, cases_Bool, cond-false, eqb-true}
use Rattle.chains.specs.Orders.{Apart, Misses}
use Rattle.chains.specs.declared.cell.Cell.{Cell}
use Rattle.chains.specs.declared.cell.Chain.TheVariants.{Ring, Free}
use Rattle.chains.specs.Shape.{shape_of}
use Rattle.chains.proofs.Room.{pigeon}
use Rattle.chains.proofs.Shapes.{order_apart, order_inside, entry_inside}
use Rattle.records.specs.Questions.{lies_in, in_frame}
use Rattle.rows.specs.Rows.{cells_of, first_by, Slot, rows_in, Stands}
use Rattle.records.specs.declared.entry.Entry.{Entry}
use Rattle.rows.specs.declared.Row.{Row}
use Rattle.rows.specs.declared.Table.{Table}
use Rattle.rows.proofs.Links.{not_vacant}
use Rattle.rows.proofs.Stand.{intact, linked, cells_apart, row_entry, row_slot}
use Rattle.rows.proofs.Walks.{nearest, nearest_has, row_of}

-- a number is in a list or not
has_or_not : (x : ℕ) (xs : List ℕ) → ContainsAt xs x ⊎ Misses x xs
has_or_not x [] = inr tt
has_or_not x (y ∷ ys) = elim (cases_eq y x) [
  | inl e ↦ inl (0, omega arith, λ d. e)
  | inr ne ↦ elim (has_or_not x ys) [ inl h ↦ inl (has_append_right (y ∷ []) ys x h) | inr m ↦ inr (ne, m) ]
]

apart_append : (xs ys : List ℕ) → Apart xs → Apart ys → AllByRecursion (λ x. Misses x ys) xs → Apart (xs ++ ys)
apart_append [] ys a b m = b
apart_append (x ∷ xs) ys a b m = (All-append (λ y. y ≢ x) xs ys a.0 m.0, apart_append xs ys a.1 b m.1)

misses_cell : {K : Type 0} (P : ℕ → Type 0) (rows : List (Row K)) → AllByRecursion (λ r. P r.cell.0) rows → AllByRecursion P (cells_of rows)
misses_cell P [] h = tt
misses_cell P (r ∷ rs) h = (h.0, misses_cell P rs h.1)

module _ {K : Type 0} (p : Entry K → Bool) where
  -- no row passes
  pub none_first : (rows : List (Row K)) → AllByRecursion (λ r. p r.entry ≡ false) rows → first_by p rows ≡ None
  none_first [] h = refl
  none_first (r ∷ rs) h = cond-false (p r.entry) (Some r) (first_by p rs) h.0 ∙ none_first rs h.1

  pub first_none : (rows : List (Row K)) → first_by p rows ≡ None → AllByRecursion (λ r. p r.entry ≡ false) rows
  first_none [] e = tt
  first_none (r ∷ rs) e = go (p r.entry) refl e (λ z. first_none rs z)
    where
      go : (b : Bool) → p r.entry ≡ b → cond b (Some r) (first_by p rs) ≡ None → (first_by p rs ≡ None → AllByRecursion (λ x. p x.entry ≡ false) rs)
          → AllByRecursion (λ x. p x.entry ≡ false) (r ∷ rs)
      go true q z ih = let y : ◌≡◌ {A = ℕ} 0 1 = cc in let n : ⊥ = omega arith in absurd n
      go false q z ih = (q, ih z)

lies_at : (f : ℕ) (o : Option FrameNo) → in_frame f o ≡ true → (slot : ℕ → ℕ) (i : ℕ) → Slot slot i o → slot f ≡ i
lies_at f None e slot i h = let z : ◌≡◌ {A = ℕ} 0 1 = cc in let n : ⊥ = omega arith in absurd n
lies_at f (Some g) e slot i h = ap slot (eqb-true f g.0 e) ∙ h

module _ {K : Type 0} (cells : List (Cell (Entry K))) (b : Table) (st : Stands cells b) where
  -- a cell that has an entry is a row's
  pub in_ring : (j : ℕ) (e : Entry K) → (shape_of cells b.chains).entry j ≡ Some e → (x : Row K) × ContainsAt (rows_in cells b) x × (x.cell.0 ≡ j)
  in_ring j e h =
      let s = shape_of cells b.chains in
      let k = linked cells b st in
      let rows = rows_in cells b in
      let mf = not_vacant s.entry j e h (s.order Free) k.vacant in
      elim (has_or_not j (cells_of rows)) [
        | inl q ↦ row_of cells b st j q
        | inr m ↦
            let l = j ∷ (cells_of rows ++ s.order Free) in
            let apart : Apart l = (
              All-append (λ y. y ≢ j) (cells_of rows) (s.order Free) m mf,
              apart_append (cells_of rows) (s.order Free) (cells_apart cells b st) (order_apart cells b.chains (intact cells b st) Free)
                  (misses_cell (λ x. Misses x (s.order Free)) rows (All-weaker (λ r. s.entry r.cell.0 ≡ Some r.entry) (λ r. Misses r.cell.0 (s.order Free))
                  (λ r q. not_vacant s.entry r.cell.0 r.entry q (s.order Free) k.vacant) rows k.entries)),
            ) in
            let inside : AllByRecursion (λ i. i < s.size) l = (
              entry_inside cells b.chains j e h,
              All-append (λ i. i < s.size) (cells_of rows) (s.order Free) (subst (AllByRecursion (λ i. i < s.size)) k.ring (order_inside cells b.chains (intact cells b st) Ring)) (order_inside cells b.chains (intact cells b st) Free),
            ) in
            let few = pigeon s.size l apart inside in
            let many = length-append (cells_of rows) (s.order Free) in
            let same = length-map rows (λ r. r.cell.0) in
            let n : ⊥ = omega (arith, k.full) in
            absurd n
      ]

  module _ (f i : ℕ) (at : i ≡ (shape_of cells b.chains).slot f) where
    -- a row of frame f stands in the slot's cell
    there : (x : Row K) → ContainsAt (rows_in cells b) x → lies_in f x.entry ≡ true → x.cell.0 ≡ i
    there x h e = sym (lies_at f x.entry.frame e (shape_of cells b.chains).slot x.cell.0 (row_slot cells b st x h)) ∙ sym at

    -- and its entry is what the cell has
    entry_there : (x : Row K) → ContainsAt (rows_in cells b) x → lies_in f x.entry ≡ true → (shape_of cells b.chains).entry i ≡ Some x.entry
    entry_there x h e = ap (shape_of cells b.chains).entry (sym (there x h e)) ∙ row_entry cells b st x h

    pub nobody : ((x : Row K) → ContainsAt (rows_in cells b) x → lies_in f x.entry ≡ true → ⊥) → first_by (lies_in f) (rows_in cells b) ≡ None
    nobody n = none_first (lies_in f) (rows_in cells b) (All-weaker (ContainsAt (rows_in cells b)) (λ x. lies_in f x.entry ≡ false)
        (λ x h. elim (cases_Bool (lies_in f x.entry)) [ inl t ↦ absurd (n x h t) | inr q ↦ q ]) (rows_in cells b) (all_has_itself (rows_in cells b)))

    -- the cell has no entry
    pub frame_empty : (shape_of cells b.chains).entry i ≡ None → first_by (lies_in f) (rows_in cells b) ≡ None
    frame_empty e = nobody (λ x h t. let q = entry_there x h t in let z : ◌≡◌ {A = ℕ} 0 1 = cc in omega arith)

    -- or one of another frame
    pub frame_other : (e : Entry K) → (shape_of cells b.chains).entry i ≡ Some e → lies_in f e ≡ false → first_by (lies_in f) (rows_in cells b) ≡ None
    frame_other e h l = nobody (λ x k t. let q = entry_there x k t in let w : x.entry ≡ e = cc in let v = ap (lies_in f) w in let z : true ≡ false = sym t ∙ v ∙ l in let y : ◌≡◌ {A = ℕ} 0 1 = cc in omega arith)

    -- or that of this frame
    pub frame_found : (c : CellNo) (e : Entry K) → c.0 ≡ i → (shape_of cells b.chains).entry i ≡ Some e → lies_in f e ≡ true
        → first_by (lies_in f) (rows_in cells b) ≡ Some (record { cell = c; entry = e })
    frame_found c e ci h l =
        let x = in_ring i e h in
        go (first_by (lies_in f) (rows_in cells b)) refl x
      where
        go : (o : Option (Row K)) → first_by (lies_in f) (rows_in cells b) ≡ o → (x : Row K) × ContainsAt (rows_in cells b) x × (x.cell.0 ≡ i)
            → o ≡ Some (record { cell = c; entry = e })
        go None q x =
            let a = ap (shape_of cells b.chains).entry x.2 in
            let d = row_entry cells b st x.0 x.1 in
            let w : x.0.entry ≡ e = cc in
            let v = ap (lies_in f) w in
            let u = all-has (λ r. lies_in f r.entry ≡ false) (rows_in cells b) x.0 (first_none (lies_in f) (rows_in cells b) q) x.1 in
            let z : true ≡ false = sym l ∙ sym v ∙ u in
            let y : ◌≡◌ {A = ℕ} 0 1 = cc in
            let n : ⊥ = omega arith in
            absurd n
        go (Some y) q x =
            let m = nearest (lies_in f) y (rows_in cells b) q in
            let hy = nearest_has (rows_in cells b) (lies_in f) y m (cells_apart cells b st) in
            let a = there y hy m.passes in
            let d = entry_there y hy m.passes in
            let w : y.entry ≡ e = cc in
            let v : y.cell.0 ≡ c.0 = a ∙ sym ci in
            λ t. Some (record { cell = record { 0 = v t }; entry = w t })

  -- the entry of the slot's cell, if it is of this frame
  pub frame_is : (f : ℕ) (c : CellNo) → c.0 ≡ (shape_of cells b.chains).slot f → (e : Entry K) → (shape_of cells b.chains).entry c.0 ≡ Some e → (q : Bool) → lies_in f e ≡ q
      → first_by (lies_in f) (rows_in cells b) ≡ then_some q (record { cell = c; entry = e })
  frame_is f c at e h true l = frame_found f c.0 at c e refl h l
  frame_is f c at e h false l = frame_other f c.0 at e h l
