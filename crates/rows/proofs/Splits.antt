-- Lists of rows: what is left without one cell, what passes a test, and how many.
use Rattle.std.proofs.Common.{◌≡◌, ℕ, suc, ◌+◌, ◌≤◌, Bool, true, false, cond, eqb, ◌≢◌, List, [], ◌∷◌, ◌++◌, length, take, drop, MatchBool, filter, sym, refl, ap, ◌∙◌, subst, arith}
use lib.Seq.{split_at}
use Rattle.std.specs.List.{ContainsAt}
use Rattle.std.proofs.lemmas.List.{map-append}
use Rattle.std.proofs.lemmas.List.Elements.{filter-append}
use Rattle.std.proofs.ByRecursion.{All-append, has_append_right}
use Rattle.std.proofs.lemmas.Bool.{ne_eqb, eq-eqb, cond-true, cond-false, cond_both, both_ways}
use Rattle.chains.specs.Orders.{Misses, Apart, without}
use Rattle.chains.proofs.Rounds.{apart_before, apart_after}
use Rattle.rows.specs.Rows.{cells_of, cells_by, number, without_cell, replaced}
use Rattle.records.specs.declared.entry.Entry.{Entry}
use Rattle.rows.specs.declared.Row.{Row}

pub has_parts : {X : Type 0} (o : List X) (x : X) → ContainsAt o x → (xs : List X) × (zs : List X) × (o ≡ xs ++ x ∷ zs)
has_parts o x h = (
  take h.0 o,
  drop (suc h.0) o,
  split_at o h.0 x h.1 ∙ ap (λ y. take h.0 o ++ y ∷ drop (suc h.0) o) (h.2 x),
)

module _ {K : Type 0} where
  cells_step : (i : ℕ) (b : Bool) (r : Row K) (ws : List (Row K)) (o : List ℕ) → cells_of ws ≡ o
      → cells_of (cond b ws (r ∷ ws)) ≡ cond b o (r.cell.0 ∷ o)
  cells_step i true r ws o h = h
  cells_step i false r ws o h = ap (λ l. r.cell.0 ∷ l) h

  -- without a cell: the rows and their cells
  pub cells_without : (i : ℕ) (rs : List (Row K)) → cells_of (without_cell i rs) ≡ without i (cells_of rs)
  cells_without i [] = refl
  cells_without i (r ∷ rs) = cells_step i (eqb r.cell.0 i) r (without_cell i rs) (without i (cells_of rs)) (cells_without i rs)

  kept_step : (p : Row K → Bool) (b q : Bool) (r : Row K) (ws ks : List (Row K)) → filter p ws ≡ ks → p r ≡ q
      → filter p (cond b ws (r ∷ ws)) ≡ cond q (cond b ks (r ∷ ks)) ks
  kept_step p true true r ws ks h e = h
  kept_step p true false r ws ks h e = h
  kept_step p false true r ws ks h e = cond-true (p r) (r ∷ filter p ws) (filter p ws) e ∙ ap (λ l. r ∷ l) h
  kept_step p false false r ws ks h e = cond-false (p r) (r ∷ filter p ws) (filter p ws) e ∙ h

  out_step : (i : ℕ) (q : Bool) (r : Row K) (ks : List (Row K))
      → cond q (cond (eqb r.cell.0 i) (without_cell i ks) (r ∷ without_cell i ks)) (without_cell i ks) ≡ without_cell i (cond q (r ∷ ks) ks)
  out_step i true r ks = refl
  out_step i false r ks = refl

  -- a filter and the removal of a cell change places
  pub kept_without : (p : Row K → Bool) (i : ℕ) (rs : List (Row K)) → filter p (without_cell i rs) ≡ without_cell i (filter p rs)
  kept_without p i [] = refl
  kept_without p i (r ∷ rs) =
      kept_step p (eqb r.cell.0 i) (p r) r (without_cell i rs) (without_cell i (filter p rs)) (kept_without p i rs) refl
      ∙ out_step i (p r) r (filter p rs)

  pub by_without : (p : Entry K → Bool) (i : ℕ) (rs : List (Row K)) → cells_by p (without_cell i rs) ≡ without i (cells_by p rs)
  by_without p i rs = ap cells_of (kept_without (λ r. p r.entry) i rs) ∙ cells_without i (filter (λ r. p r.entry) rs)

  pub by_append : (p : Entry K → Bool) (xs ys : List (Row K)) → cells_by p (xs ++ ys) ≡ cells_by p xs ++ cells_by p ys
  by_append p xs ys =
      ap cells_of (filter-append (λ r. p r.entry) xs ys)
      ∙ map-append (λ r. r.cell.0) (filter (λ r. p r.entry) xs) (filter (λ r. p r.entry) ys)

  one_cell : (b : Bool) (r : Row K) → cells_of (cond b (r ∷ []) []) ≡ cond b (r.cell.0 ∷ []) []
  one_cell true r = refl
  one_cell false r = refl

  -- the rows of one cell go to the head as r: the cells that pass, from those that passed
  pub by_turned : (p : Entry K → Bool) (r : Row K) (rs : List (Row K)) (o : List ℕ) → o ≡ cells_by p rs
      → without r.cell.0 o ++ cond (p r.entry) (r.cell.0 ∷ []) [] ≡ cells_by p (without_cell r.cell.0 rs ++ r ∷ [])
  by_turned p r rs o e =
      sym (by_append p (without_cell r.cell.0 rs) (r ∷ [])
      ∙ ap (λ l. l ++ cells_of (cond (p r.entry) (r ∷ []) [])) (by_without p r.cell.0 rs ∙ ap (without r.cell.0) (sym e))
      ∙ ap (λ l. without r.cell.0 o ++ l) (one_cell (p r.entry) r))

  misses_step : (i : ℕ) (b : Bool) (r : Row K) (ks : List (Row K)) → r.cell.0 ≢ i → Misses i (cells_of ks) → Misses i (cells_of (cond b (r ∷ ks) ks))
  misses_step i true r ks n m = (n, m)
  misses_step i false r ks n m = m

  pub misses_by : (p : Entry K → Bool) (i : ℕ) (rs : List (Row K)) → Misses i (cells_of rs) → Misses i (cells_by p rs)
  misses_by p i [] m = tt
  misses_by p i (r ∷ rs) m = misses_step i (p r.entry) r (filter (λ x. p x.entry) rs) m.0 (misses_by p i rs m.1)

  pub number_append : (p : Entry K → Bool) (xs ys : List (Row K)) → number p (xs ++ ys) ≡ number p xs + number p ys
  number_append p [] ys = omega arith
  number_append p (x ∷ xs) ys = let h = number_append p xs ys in omega arith

  pub number_some : (p : Entry K → Bool) (rs : List (Row K)) → number p rs ≤ length rs
  number_some p [] = omega arith
  number_some p (r ∷ rs) =
      let h = number_some p rs in
      cond_both (p r.entry) 1 0 (λ n. n + number p rs ≤ suc (length rs)) (λ _. omega arith) (λ _. omega arith)

  -- a cell that no row has
  pub none_left : (i : ℕ) (rs : List (Row K)) → Misses i (cells_of rs) → without_cell i rs ≡ rs
  none_left i [] m = refl
  none_left i (y ∷ ys) m =
      cond-false (eqb y.cell.0 i) (without_cell i ys) (y ∷ without_cell i ys) (ne_eqb y.cell.0 i m.0)
      ∙ ap (λ l. y ∷ l) (none_left i ys m.1)

  -- a list with r in it, cut at r
  module _ (xs : List (Row K)) (r : Row K) (zs : List (Row K)) (mx : Misses r.cell.0 (cells_of xs)) (mz : Misses r.cell.0 (cells_of zs)) where
    cut_at : (ys : List (Row K)) → Misses r.cell.0 (cells_of ys) → without_cell r.cell.0 (ys ++ r ∷ zs) ≡ ys ++ zs
    cut_at [] m =
        cond-true (eqb r.cell.0 r.cell.0) (without_cell r.cell.0 zs) (r ∷ without_cell r.cell.0 zs) (eq-eqb r.cell.0 r.cell.0 refl)
        ∙ none_left r.cell.0 zs mz
    cut_at (y ∷ ys) m =
        cond-false (eqb y.cell.0 r.cell.0) (without_cell r.cell.0 (ys ++ r ∷ zs)) (y ∷ without_cell r.cell.0 (ys ++ r ∷ zs)) (ne_eqb y.cell.0 r.cell.0 m.0)
        ∙ ap (λ l. y ∷ l) (cut_at ys m.1)

    pub cut_is : without_cell r.cell.0 (xs ++ r ∷ zs) ≡ xs ++ zs
    cut_is = cut_at xs mx

    pub cut_number : (p : Entry K → Bool) → number p (without_cell r.cell.0 (xs ++ r ∷ zs)) + cond (p r.entry) 1 0 ≡ number p (xs ++ r ∷ zs)
    cut_number p = rw cut_is (omega (arith, number_append p xs zs, number_append p xs (r ∷ zs)))

    cut_length_at : (ys : List (Row K)) → suc (length (ys ++ zs)) ≡ length (ys ++ r ∷ zs)
    cut_length_at [] = refl
    cut_length_at (y ∷ ys) = ap suc (cut_length_at ys)

    pub cut_length : suc (length (without_cell r.cell.0 (xs ++ r ∷ zs))) ≡ length (xs ++ r ∷ zs)
    cut_length = rw cut_is (cut_length_at xs)

    member_go : (b : Bool) (o : List ℕ) (ks : List (Row K)) → Misses r.cell.0 o → Misses r.cell.0 (cells_of ks)
        → MatchBool b (ContainsAt (o ++ cells_of (cond b (r ∷ ks) ks)) r.cell.0) (Misses r.cell.0 (o ++ cells_of (cond b (r ∷ ks) ks)))
    member_go true o ks m n = has_append_right o (r.cell.0 ∷ cells_of ks) r.cell.0 (0, omega arith, λ d. refl)
    member_go false o ks m n = All-append (λ y. y ≢ r.cell.0) o (cells_of ks) m n

    -- r's cell is among those that pass just where r's entry passes
    pub cut_member : (p : Entry K → Bool) → MatchBool (p r.entry) (ContainsAt (cells_by p (xs ++ r ∷ zs)) r.cell.0) (Misses r.cell.0 (cells_by p (xs ++ r ∷ zs)))
    cut_member p =
        subst (λ o. MatchBool (p r.entry) (ContainsAt o r.cell.0) (Misses r.cell.0 o)) (sym (by_append p xs (r ∷ zs)))
        (member_go (p r.entry) (cells_by p xs) (filter (λ x. p x.entry) zs) (misses_by p r.cell.0 xs mx) (misses_by p r.cell.0 zs mz))

    pub cut_has : ContainsAt (cells_of (xs ++ r ∷ zs)) r.cell.0
    cut_has = subst (λ o. ContainsAt o r.cell.0) (sym (map-append (λ x. x.cell.0) xs (r ∷ zs)))
        (has_append_right (cells_of xs) (r.cell.0 ∷ cells_of zs) r.cell.0 (0, omega arith, λ d. refl))

    -- r's entry becomes `new` where it stands
    module _ (new : Entry K) where
      others_same : (ys : List (Row K)) → Misses r.cell.0 (cells_of ys) → replaced r.cell.0 new ys ≡ ys
      others_same [] m = refl
      others_same (y ∷ ys) m =
          ap (λ x. x ∷ replaced r.cell.0 new ys) (cond-false (eqb y.cell.0 r.cell.0) (record { cell = y.cell; entry = new }) y (ne_eqb y.cell.0 r.cell.0 m.0))
          ∙ ap (λ l. y ∷ l) (others_same ys m.1)

      put_at : (ys : List (Row K)) → Misses r.cell.0 (cells_of ys) → replaced r.cell.0 new (ys ++ r ∷ zs) ≡ ys ++ record { cell = r.cell; entry = new } ∷ zs
      put_at [] m =
          ap (λ x. x ∷ replaced r.cell.0 new zs) (cond-true (eqb r.cell.0 r.cell.0) (record { cell = r.cell; entry = new }) r (eq-eqb r.cell.0 r.cell.0 refl))
          ∙ ap (λ l. record { cell = r.cell; entry = new } ∷ l) (others_same zs mz)
      put_at (y ∷ ys) m =
          ap (λ x. x ∷ replaced r.cell.0 new (ys ++ r ∷ zs)) (cond-false (eqb y.cell.0 r.cell.0) (record { cell = y.cell; entry = new }) y (ne_eqb y.cell.0 r.cell.0 m.0))
          ∙ ap (λ l. y ∷ l) (put_at ys m.1)

      pub put_is : replaced r.cell.0 new (xs ++ r ∷ zs) ≡ xs ++ record { cell = r.cell; entry = new } ∷ zs
      put_is = put_at xs mx

      pub put_number : (p : Entry K → Bool) → number p (replaced r.cell.0 new (xs ++ r ∷ zs)) + cond (p r.entry) 1 0 ≡ number p (xs ++ r ∷ zs) + cond (p new) 1 0
      put_number p = rw put_is (omega (arith, number_append p xs (r ∷ zs), number_append p xs (record { cell = r.cell; entry = new } ∷ zs)))

      put_go : (a b : Bool) (cx : List ℕ) (kz : List (Row K)) → (b ≡ true → a ≡ true) → (wo : List ℕ) → wo ≡ cx ++ cells_of kz
          → cond b (cx ++ cells_of (cond a (r ∷ kz) kz)) wo ≡ cx ++ cells_of (cond b (record { cell = r.cell; entry = new } ∷ kz) kz)
      put_go true true cx kz h wo e = refl
      put_go false true cx kz h wo e = absurd (both_ways false refl (h refl))
      put_go a false cx kz h wo e = e

      pub put_by : (p : Entry K → Bool) → (p new ≡ true → p r.entry ≡ true)
          → cond (p new) (cells_by p (xs ++ r ∷ zs)) (without r.cell.0 (cells_by p (xs ++ r ∷ zs))) ≡ cells_by p (replaced r.cell.0 new (xs ++ r ∷ zs))
      put_by p h =
          ap (λ o. cond (p new) o (without r.cell.0 (cells_by p (xs ++ r ∷ zs)))) (by_append p xs (r ∷ zs))
          ∙ put_go (p r.entry) (p new) (cells_by p xs) (filter (λ x. p x.entry) zs) h (without r.cell.0 (cells_by p (xs ++ r ∷ zs)))
          (sym (by_without p r.cell.0 (xs ++ r ∷ zs)) ∙ ap (cells_by p) cut_is ∙ by_append p xs zs)
          ∙ sym (ap (cells_by p) put_is ∙ by_append p xs (record { cell = r.cell; entry = new } ∷ zs))

  -- a change of entries leaves the cells
  same_cell : (i : ℕ) (new : Entry K) (b : Bool) (r : Row K) → (cond b (record { cell = r.cell; entry = new }) r).cell.0 ≡ r.cell.0
  same_cell i new true r = refl
  same_cell i new false r = refl

  pub cells_replaced : (i : ℕ) (new : Entry K) (rows : List (Row K)) → cells_of (replaced i new rows) ≡ cells_of rows
  cells_replaced i new [] = refl
  cells_replaced i new (r ∷ rs) =
      ap (λ j. j ∷ cells_of (replaced i new rs)) (same_cell i new (eqb r.cell.0 i) r) ∙ ap (λ l. r.cell.0 ∷ l) (cells_replaced i new rs)

  pub length_replaced : (i : ℕ) (new : Entry K) (rows : List (Row K)) → length (replaced i new rows) ≡ length rows
  length_replaced i new [] = refl
  length_replaced i new (r ∷ rs) = ap suc (length_replaced i new rs)

  -- a row of a list whose cells differ
  pub record Within (rows : List (Row K)) (r : Row K) : Type 0 where
    pub cells : ContainsAt (cells_of rows) r.cell.0
    pub member : (p : Entry K → Bool) → MatchBool (p r.entry) (ContainsAt (cells_by p rows) r.cell.0) (Misses r.cell.0 (cells_by p rows))
    pub fewer : (p : Entry K → Bool) → number p (without_cell r.cell.0 rows) + cond (p r.entry) 1 0 ≡ number p rows
    pub size : suc (length (without_cell r.cell.0 rows)) ≡ length rows
    pub renumber : (new : Entry K) (p : Entry K → Bool) → number p (replaced r.cell.0 new rows) + cond (p r.entry) 1 0 ≡ number p rows + cond (p new) 1 0
    pub put : (new : Entry K) (p : Entry K → Bool) → (p new ≡ true → p r.entry ≡ true)
        → cond (p new) (cells_by p rows) (without r.cell.0 (cells_by p rows)) ≡ cells_by p (replaced r.cell.0 new rows)

  pub within : (rows : List (Row K)) (r : Row K) → Apart (cells_of rows) → ContainsAt rows r → Within rows r
  within rows r a h =
      let q = has_parts rows r h in
      let e : cells_of (q.0 ++ r ∷ q.1) ≡ cells_of q.0 ++ r.cell.0 ∷ cells_of q.1 = map-append (λ x. x.cell.0) q.0 (r ∷ q.1) in
      let a' : Apart (cells_of q.0 ++ r.cell.0 ∷ cells_of q.1) = subst Apart (ap cells_of q.2 ∙ e) a in
      let mx = apart_before (cells_of q.0) r.cell.0 (cells_of q.1) a' in
      let mz = apart_after (cells_of q.0) r.cell.0 (cells_of q.1) a' in
      subst (λ l. Within l r) (sym q.2) (record {
        cells = cut_has q.0 r q.1 mx mz;
        member = cut_member q.0 r q.1 mx mz;
        fewer = cut_number q.0 r q.1 mx mz;
        size = cut_length q.0 r q.1 mx mz;
        renumber = put_number q.0 r q.1 mx mz;
        put = put_by q.0 r q.1 mx mz;
      })
