-- A walk along one chain: the rows that it comes to, and the first of them that passes a test.
use Rattle.std.proofs.Common.{◌≡◌, ℕ, zero, suc, get_or, is_some, ◌+◌, ◌-◌, ◌<◌, ◌≤◌, Bool, true, false, cond, ◌&&◌, List, [], ◌∷◌, ◌++◌, length, drop, slice_index, Some, None, filter, Option, MatchOption, sym, refl, ap, ◌∙◌, subst, inl, inr, arith}
use Rattle.std.specs.List.{ContainsAt, AllByRecursion}
use Rattle.std.specs.Option.{unwrap_or}
use Rattle.std.proofs.lemmas.List.{drop_more, length-map, map-append}
use Rattle.std.proofs.ByRecursion.{has_append_right, all_kept_by}
use Rattle.std.proofs.lemmas.Bool.{cond-true, cond-false, cases_Bool, false≢true}
use Rattle.keys.specs.declared.CellNo.{CellNo}
use Rattle.chains.specs.declared.cell.Cell.{Cell}
use Rattle.chains.specs.declared.cell.Chain.{Chain}
use Rattle.chains.specs.declared.cell.Chain.TheVariants.{Ring, Cold, Test, Free}
use Rattle.chains.specs.Orders.{Apart}
use Rattle.chains.proofs.Rounds.{apart_before, apart_after}
use Rattle.chains.specs.Shape.{Shape, shape_of, head_of, name_of}
use Rattle.records.specs.Questions.{cold_resident}
use Rattle.records.specs.declared.entry.Entry.{Entry}
use Rattle.rows.specs.Rows.{cells_of, first_by, rows_in, rows_on, has_entries, ahead, OnWay, gather, join_row, Stands, without_cell, replaced}
use Rattle.rows.specs.declared.Row.{Row}
use Rattle.rows.specs.declared.Table.{Table}
use Rattle.rows.proofs.Stand.{linked}
use Rattle.rows.proofs.Links.{Holds, gathered}
use Rattle.rows.proofs.Splits.{cut_is, put_is}

module _ {K : Type 0} (s : Shape (Entry K)) (w : Chain) where
  -- before the first step
  pub ahead_all : ahead s w (length (s.order w)) ≡ gather s.entry (s.order w)
  ahead_all =
      let z : length (s.order w) - length (s.order w) ≡ 0 = omega arith in
      ap (λ k. gather s.entry (drop k (s.order w))) z

  pub sets_out : (o : Option CellNo) → name_of o ≡ head_of (s.order w) → AllByRecursion (λ j. is_some (s.entry j) ≡ true) (s.order w)
      → OnWay s w (unwrap_or o (record { 0 = 0 })).0 (length (s.order w))
  sets_out o e h =
      let z : length (s.order w) - length (s.order w) ≡ 0 = omega arith in
      record { within = omega arith; here = λ l. go (s.order w) o e l ∙ ap (slice_index (s.order w)) (sym z); entries = h }
    where
      go : (l : List ℕ) (o : Option CellNo) → name_of o ≡ head_of l → 0 < length l → (unwrap_or o (record { 0 = 0 })).0 ≡ slice_index l 0
      go [] o e h = let y : ⊥ = omega arith in absurd y
      go (x ∷ xs) None e h = let z : ◌≡◌ {A = ℕ} 0 1 = cc in let y : ⊥ = omega arith in absurd y
      go (x ∷ xs) (Some i) e h = cc

  -- one step
  module _ (at : CellNo) (n m : ℕ) (v : OnWay s w at.0 n) (one : 1 ≤ n) (less : m ≡ n - 1) where
    pub goes_on : (next : ℕ) → ((k : ℕ) → k + 1 < length (s.order w) → at.0 ≡ slice_index (s.order w) k → next ≡ slice_index (s.order w) (k + 1))
        → OnWay s w next m
    goes_on next f =
        let e : length (s.order w) - n + 1 ≡ length (s.order w) - m = omega (arith, v.within) in
        record {
          within = omega (arith, v.within);
          here = λ h. f (length (s.order w) - n) (omega (arith, v.within)) (v.here (omega arith)) ∙ ap (slice_index (s.order w)) e;
          entries = v.entries;
        }

    pub comes_to : (x : Entry K) → s.entry at.0 ≡ Some x → ahead s w n ≡ record { cell = at; entry = x } ∷ ahead s w m
    comes_to x h =
        let k = length (s.order w) - n in
        let e : k + 1 ≡ length (s.order w) - m = omega (arith, v.within) in
        ap (gather s.entry) (drop_more (s.order w) k 0 (omega (arith, v.within)))
        ∙ ap (λ j. join_row j (s.entry j) (gather s.entry (drop (k + 1) (s.order w)))) (sym (v.here (omega arith)))
        ∙ ap (λ o. join_row at.0 o (gather s.entry (drop (k + 1) (s.order w)))) h
        ∙ ap (λ i. record { cell = at; entry = x } ∷ gather s.entry (drop i (s.order w))) e

module _ {K : Type 0} where
  -- the first that passes two tests is the first, of those that pass the one, that passes the other
  both_step : (a b : Bool) (r : Row K) (o : Option (Row K)) (l : List (Row K)) (q : Entry K → Bool) → q r.entry ≡ b → o ≡ first_by q l
      → cond (a && b) (Some r) o ≡ first_by q (cond a (r ∷ l) l)
  both_step true true r o l q e h = sym (cond-true (q r.entry) (Some r) (first_by q l) e)
  both_step true false r o l q e h = h ∙ sym (cond-false (q r.entry) (Some r) (first_by q l) e)
  both_step false b r o l q e h = h

  pub first_both : (p q : Entry K → Bool) (rows : List (Row K)) → first_by (λ e. p e && q e) rows ≡ first_by q (filter (λ r. p r.entry) rows)
  first_both p q [] = refl
  first_both p q (r ∷ rs) = both_step (p r.entry) (q r.entry) r (first_by (λ e. p e && q e) rs) (filter (λ x. p x.entry) rs) q refl (first_both p q rs)

  kept_go : (b : Bool) (r : Row K) (o : Option (Row K)) (l : List (Row K)) → o ≡ first_by (λ _. true) l → cond b (Some r) o ≡ first_by (λ _. true) (cond b (r ∷ l) l)
  kept_go true r o l h = refl
  kept_go false r o l h = h

  -- the first that passes is the first of those that pass
  pub first_kept : (p : Entry K → Bool) (rows : List (Row K)) → first_by p rows ≡ first_by (λ _. true) (filter (λ r. p r.entry) rows)
  first_kept p [] = refl
  first_kept p (r ∷ rs) = kept_go (p r.entry) r (first_by p rs) (filter (λ x. p x.entry) rs) (first_kept p rs)

  -- a walk along those that pass comes to it first
  pub first_of : (p : Entry K → Bool) (rows xs ys : List (Row K)) (r : Option (Row K)) → xs ≡ filter (λ x. p x.entry) rows
      → MatchOption r ((xs ≡ []) × (ys ≡ [])) (λ x. xs ≡ x ∷ ys) → r ≡ first_by p rows
  first_of p rows xs ys None e h = sym (first_kept p rows ∙ ap (first_by (λ _. true)) (sym e ∙ h.0))
  first_of p rows xs ys (Some x) e h = sym (first_kept p rows ∙ ap (first_by (λ _. true)) (sym e ∙ h))

  -- the rows cut at the first that passes
  pub record Nearest (rows : List (Row K)) (q : Entry K → Bool) (r : Row K) : Type 0 where
    pub front : List (Row K)
    pub back : List (Row K)
    pub is : rows ≡ front ++ r ∷ back
    pub passed : AllByRecursion (λ x. q x.entry ≡ false) front
    pub passes : q r.entry ≡ true

  pub nearest : (q : Entry K → Bool) (r : Row K) (rows : List (Row K)) → first_by q rows ≡ Some r → Nearest rows q r
  nearest q r [] h = let z : ◌≡◌ {A = ℕ} 0 1 = cc in let y : ⊥ = omega arith in absurd y
  nearest q r (x ∷ xs) h = elim (cases_Bool (q x.entry)) [
    | inl t ↦
        let e = sym (cond-true (q x.entry) (Some x) (first_by q xs) t) ∙ h in
        let s : x ≡ r = cc in
        record { front = []; back = xs; is = ap (λ y. y ∷ xs) s; passed = tt; passes = ap (λ y. q y.entry) (sym s) ∙ t }
    | inr f ↦
        let n = nearest q r xs (sym (cond-false (q x.entry) (Some x) (first_by q xs) f) ∙ h) in
        record { front = x ∷ n.front; back = n.back; is = ap (λ l. x ∷ l) n.is; passed = (f, n.passed); passes = n.passes }
  ]

  -- what is known of it, where the cells differ
  module _ (rows : List (Row K)) (q : Entry K → Bool) (r : Row K) (n : Nearest rows q r) (a : Apart (cells_of rows)) where
    parts : Apart (cells_of n.front ++ r.cell.0 ∷ cells_of n.back)
    parts = subst Apart (ap cells_of n.is ∙ map-append (λ x. x.cell.0) n.front (r ∷ n.back)) a

    pub nearest_cut : without_cell r.cell.0 rows ≡ n.front ++ n.back
    nearest_cut =
        ap (without_cell r.cell.0) n.is
        ∙ cut_is n.front r n.back (apart_before (cells_of n.front) r.cell.0 (cells_of n.back) parts) (apart_after (cells_of n.front) r.cell.0 (cells_of n.back) parts)

    pub nearest_put : (new : Entry K) → replaced r.cell.0 new rows ≡ n.front ++ record { cell = r.cell; entry = new } ∷ n.back
    nearest_put new =
        ap (replaced r.cell.0 new) n.is
        ∙ put_is n.front r n.back (apart_before (cells_of n.front) r.cell.0 (cells_of n.back) parts) (apart_after (cells_of n.front) r.cell.0 (cells_of n.back) parts) new

    pub nearest_has : ContainsAt rows r
    nearest_has = subst (λ l. ContainsAt l r) (sym n.is) (has_append_right n.front (r ∷ n.back) r (0, omega arith, λ d. refl))

-- the chains of a ring that stands
module _ {K : Type 0} (cells : List (Cell (Entry K))) (b : Table) (st : Stands cells b) where
  held : (f : ℕ → Option (Entry K)) (o : List ℕ) (rows : List (Row K)) → o ≡ cells_of rows → Holds f rows
      → AllByRecursion (λ j. is_some (f j) ≡ true) o × (gather f o ≡ rows)
  held f o rows e h = (subst (AllByRecursion (λ j. is_some (f j) ≡ true)) (sym e) (go rows h), ap (gather f) e ∙ gathered f rows h)
    where
      go : (rows : List (Row K)) → Holds f rows → AllByRecursion (λ j. is_some (f j) ≡ true) (cells_of rows)
      go [] h = tt
      go (r ∷ rs) h = (ap is_some h.0, go rs h.1)

  -- a chain of entries has the cells of its rows, which are read off it
  pub along : (w : Chain) → has_entries w ≡ true
      → AllByRecursion (λ j. is_some ((shape_of cells b.chains).entry j) ≡ true) ((shape_of cells b.chains).order w)
      × (gather (shape_of cells b.chains).entry ((shape_of cells b.chains).order w) ≡ rows_on w (rows_in cells b))
  along w h = go w h
    where
      s : Shape (Entry K)
      s = shape_of cells b.chains

      go : (w : Chain) → has_entries w ≡ true → AllByRecursion (λ j. is_some (s.entry j) ≡ true) (s.order w) × (gather s.entry (s.order w) ≡ rows_on w (rows_in cells b))
      go Ring h = let k = linked cells b st in held s.entry (s.order Ring) (rows_in cells b) k.ring k.entries
      go Cold h = let k = linked cells b st in held s.entry (s.order Cold) _ k.cold (all_kept_by (λ r. cold_resident r.entry) (λ r. s.entry r.cell.0 ≡ Some r.entry) (rows_in cells b) k.entries)
      go Test h = let k = linked cells b st in held s.entry (s.order Test) _ k.test (all_kept_by (λ r. r.entry.test) (λ r. s.entry r.cell.0 ≡ Some r.entry) (rows_in cells b) k.entries)
      go Free h = absurd (false≢true h)

  pub row_of : (i : ℕ) → ContainsAt (cells_of (rows_in cells b)) i → (x : Row K) × ContainsAt (rows_in cells b) x × (x.cell.0 ≡ i)
  row_of i h =
      let q = spot (rows_in cells b) h.0 (omega (arith, h.1, length-map (rows_in cells b) (λ r. r.cell.0))) in
      (q.0, q.1, sym q.2 ∙ h.2 0)
    where
      spot : (l : List (Row K)) (k : ℕ) → k < length l → (x : Row K) × ContainsAt l x × (get_or (cells_of l) k 0 ≡ x.cell.0)
      spot [] k h = let y : ⊥ = omega arith in absurd y
      spot (y ∷ ys) zero h = (y, (0, omega arith, λ d. refl), refl)
      spot (y ∷ ys) (suc k) h = let q = spot ys k (omega arith) in (q.0, has_append_right (y ∷ []) ys q.0 q.1, q.2)
