-- The shape of the chains holds the rows: before and after a row is turned or taken out.
use Rattle.std.proofs.Common.{◌≡◌, ℕ, ◌^◌, ◌<◌, ◌≤◌, Bool, true, false, cond, eqb, ◌≢◌, List, [], ◌∷◌, ◌++◌, Some, None, MatchBool, Option, sym, refl, ap, ◌∙◌, subst, arith}
use Rattle.keys.specs.declared.FrameNo.{FrameNo}
use Rattle.std.specs.List.{ContainsAt, AllByRecursion}
use Rattle.std.proofs.lemmas.List.{append-nil, map-append, length_push}
use Rattle.std.proofs.ByRecursion.{All-push, All-weaker}
use Rattle.std.proofs.lemmas.Bool.{ne_eqb, eq-eqb, cond-true, cond-false, cond_both, eqb-true}
use Rattle.chains.specs.Orders.{Misses, without}
use Rattle.chains.specs.declared.cell.Chain.TheVariants.{Cold, Test, Free}
use Rattle.chains.specs.Shape.{Shape}
use Rattle.records.specs.Questions.{cold_resident, remembered, idle}
use Rattle.rows.specs.Rows.{counted, plus, minus, SumsFit, NoneMore, cells_of, without_cell, gather, join_row, Linked, Members, Slot, Kept, relinked, rewritten, replaced, cut_out}
use Rattle.records.specs.declared.entry.Entry.{Entry}
use Rattle.rows.specs.declared.Counts.{Counts}
use Rattle.rows.specs.declared.Row.{Row}
use Rattle.rows.proofs.Splits.{number_some, cells_without, by_without, by_turned, number_append, Within, cells_replaced, length_replaced}

pub as_member : (o : List ℕ) (i : ℕ) (b b' : Bool) → b' ≡ b → MatchBool b (ContainsAt o i) (Misses i o) → MatchBool b' (ContainsAt o i) (Misses i o)
as_member o i b b' e h = subst (λ x. MatchBool x (ContainsAt o i) (Misses i o)) (sym e) h

-- an entry that keeps its frame or gives it up keeps its slot
pub slot_kept : (slot : ℕ → ℕ) (i : ℕ) (old new : Option FrameNo) → Kept old new → Slot slot i old → Slot slot i new
slot_kept slot i old None k h = tt
slot_kept slot i old (Some f) k h = subst (Slot slot i) k h

pub at_most_one : (b : Bool) → cond b 1 0 ≤ 1
at_most_one true = omega arith
at_most_one false = omega arith

module _ {K : Type 0} where
  abbrev pub Holds : (ℕ → Option (Entry K)) → List (Row K) → Type 0
  Holds f rows = AllByRecursion (λ r. f r.cell.0 ≡ Some r.entry) rows

  -- the function reads the rows that the relation has
  pub gathered : (f : ℕ → Option (Entry K)) (rows : List (Row K)) → Holds f rows → gather f (cells_of rows) ≡ rows
  gathered f [] h = refl
  gathered f (r ∷ rs) h =
      ap (λ o. join_row r.cell.0 o (gather f (cells_of rs))) h.0 ∙ ap (λ l. r ∷ l) (gathered f rs h.1)

  -- one cell is written: the rows of the others hold
  pub others_hold : (f : ℕ → Option (Entry K)) (i : ℕ) (e : Option (Entry K)) (rows : List (Row K)) → Holds f rows
      → Holds (λ j. cond (eqb j i) e (f j)) (without_cell i rows)
  others_hold f i e [] h = tt
  others_hold f i e (r ∷ rs) h =
      cond_both (eqb r.cell.0 i) (without_cell i rs) (r ∷ without_cell i rs) (Holds (λ j. cond (eqb j i) e (f j)))
      (λ _. others_hold f i e rs h.1)
      (λ n. (cond-false (eqb r.cell.0 i) e (f r.cell.0) n ∙ h.0, others_hold f i e rs h.1))

  -- what holds of each row holds of each that is left
  pub all_left : (P : Row K → Type 0) (i : ℕ) (rows : List (Row K)) → AllByRecursion P rows → AllByRecursion P (without_cell i rows)
  all_left P i [] h = tt
  all_left P i (r ∷ rs) h =
      cond_both (eqb r.cell.0 i) (without_cell i rs) (r ∷ without_cell i rs) (AllByRecursion P)
      (λ _. all_left P i rs h.1) (λ _. (h.0, all_left P i rs h.1))

  pub all_put : (P : Row K → Type 0) (i : ℕ) (new : Entry K) → ((r : Row K) → r.cell.0 ≡ i → P (record { cell = r.cell; entry = new })) → (rows : List (Row K)) → AllByRecursion P rows → AllByRecursion P (replaced i new rows)
  all_put P i new q [] h = tt
  all_put P i new q (r ∷ rs) h = (
    cond_both (eqb r.cell.0 i) (record { cell = r.cell; entry = new }) r P (λ e. q r (eqb-true r.cell.0 i e)) (λ _. h.0),
    all_put P i new q rs h.1,
  )

  put_step : (f : ℕ → Option (Entry K)) (i : ℕ) (new : Entry K) (b : Bool) (r : Row K) → f r.cell.0 ≡ Some r.entry
      → cond b (Some new) (f r.cell.0) ≡ Some (cond b (record { cell = r.cell; entry = new }) r).entry
  put_step f i new true r h = refl
  put_step f i new false r h = h

  cell_step : (f : ℕ → Option (Entry K)) (i : ℕ) (new : Entry K) (b : Bool) (r : Row K) (o : Option (Entry K))
      → cond (eqb r.cell.0 i) (Some new) (f r.cell.0) ≡ o
      → cond (eqb (cond b (record { cell = r.cell; entry = new }) r).cell.0 i) (Some new) (f (cond b (record { cell = r.cell; entry = new }) r).cell.0) ≡ o
  cell_step f i new true r o h = h
  cell_step f i new false r o h = h

  -- one cell is written: the rows, with that cell's entry replaced, hold
  pub all_hold : (f : ℕ → Option (Entry K)) (i : ℕ) (new : Entry K) (rows : List (Row K)) → Holds f rows
      → Holds (λ j. cond (eqb j i) (Some new) (f j)) (replaced i new rows)
  all_hold f i new [] h = tt
  all_hold f i new (r ∷ rs) h = (
    cell_step f i new (eqb r.cell.0 i) r _ (put_step f i new (eqb r.cell.0 i) r h.0),
    all_hold f i new rs h.1,
  )

  pub not_vacant : (f : ℕ → Option (Entry K)) (i : ℕ) (x : Entry K) → f i ≡ Some x → (o : List ℕ) → AllByRecursion (λ j. f j ≡ None) o → Misses i o
  not_vacant f i x e o = All-weaker (λ j. f j ≡ None) (λ j. j ≢ i) (λ j n q. let m = ap f q in let z : ◌≡◌ {A = ℕ} 0 1 = cc in omega arith) o

  pub still_vacant : (f : ℕ → Option (Entry K)) (i : ℕ) (e : Option (Entry K)) (o : List ℕ) → Misses i o → AllByRecursion (λ j. f j ≡ None) o → AllByRecursion (λ j. cond (eqb j i) e (f j) ≡ None) o
  still_vacant f i e [] m a = tt
  still_vacant f i e (j ∷ js) m a = (cond-false (eqb j i) e (f j) (ne_eqb j i m.0) ∙ a.0, still_vacant f i e js m.1 a.1)

  module _ (counts : Counts) (s : Shape (Entry K)) (rows : List (Row K)) (k : Linked counts s rows) (r : Row K) (w : Within rows r) (at : s.entry r.cell.0 ≡ Some r.entry) (slot : Slot s.slot r.cell.0 r.entry.frame) where
    away : Misses r.cell.0 (s.order Free)
    away = not_vacant s.entry r.cell.0 r.entry at (s.order Free) k.vacant

    pub members : r.cell.0 < s.size → Members s r
    members h = record {
      inside = h;
      ring = subst (λ o. ContainsAt o r.cell.0) (sym k.ring) w.cells;
      cold = subst (λ o. MatchBool (cold_resident r.entry) (ContainsAt o r.cell.0) (Misses r.cell.0 o)) (sym k.cold) (w.member cold_resident);
      test = subst (λ o. MatchBool r.entry.test (ContainsAt o r.cell.0) (Misses r.cell.0 o)) (sym k.test) (w.member (λ e. e.test));
      used = away;
    }

    -- what it adds may be taken from the counts, and there is room for another entry's
    pub none_more : NoneMore counts (counted r.entry)
    none_more = record {
      hots = omega (arith, w.fewer (λ e. e.hot), k.warm);
      past = omega (arith, w.fewer remembered, k.left);
      idles = omega (arith, w.fewer idle, k.unlents);
    }

    pub sums_fit : (new : Entry K) → s.size < 2 ^ 64 → SumsFit (minus counts (counted r.entry)) (counted new)
    sums_fit new h =
        let ws = without_cell r.cell.0 rows in
        record {
          hots = omega (arith, w.fewer (λ e. e.hot), k.warm, number_some (λ e. e.hot) ws, at_most_one new.hot, w.size, k.full);
          past = omega (arith, w.fewer remembered, k.left, number_some remembered ws, at_most_one (remembered new), w.size, k.full);
          idles = omega (arith, w.fewer idle, k.unlents, number_some idle ws, at_most_one (idle new), w.size, k.full);
        }

    -- a row takes a new entry and goes to the head
    pub turned_linked : (new : Entry K) → Kept r.entry.frame new.frame
        → Linked (plus (minus counts (counted r.entry)) (counted new)) (relinked r new s) (without_cell r.cell.0 rows ++ record { cell = r.cell; entry = new } ∷ [])
    turned_linked new ke =
        let r' : Row K = record { cell = r.cell; entry = new } in
        let ws = without_cell r.cell.0 rows in
        record {
          ring = ap (λ o. without r.cell.0 o ++ r.cell.0 ∷ []) k.ring ∙ ap (λ l. l ++ r.cell.0 ∷ []) (sym (cells_without r.cell.0 rows))
              ∙ sym (map-append (λ x. x.cell.0) ws (r' ∷ []));
          cold = by_turned cold_resident r' rows (s.order Cold) k.cold;
          test = by_turned (λ e. e.test) r' rows (s.order Test) k.test;
          entries = All-push (λ x. cond (eqb x.cell.0 r.cell.0) (Some new) (s.entry x.cell.0) ≡ Some x.entry) ws r'
              (others_hold s.entry r.cell.0 (Some new) rows k.entries)
              (cond-true (eqb r.cell.0 r.cell.0) (Some new) (s.entry r.cell.0) (eq-eqb r.cell.0 r.cell.0 refl));
          vacant = still_vacant s.entry r.cell.0 (Some new) (s.order Free) away k.vacant;
          full = omega (arith, length_push ws r', w.size, k.full);
          warm = omega (arith, number_append (λ e. e.hot) ws (r' ∷ []), w.fewer (λ e. e.hot), k.warm);
          left = omega (arith, number_append remembered ws (r' ∷ []), w.fewer remembered, k.left);
          unlents = omega (arith, number_append idle ws (r' ∷ []), w.fewer idle, k.unlents);
          directory = All-push (λ x. Slot s.slot x.cell.0 x.entry.frame) ws r'
              (all_left (λ x. Slot s.slot x.cell.0 x.entry.frame) r.cell.0 rows k.directory)
              (slot_kept s.slot r.cell.0 r.entry.frame new.frame ke slot);
        }

    -- a row takes a new entry where it stands
    pub put_linked : (new : Entry K) → Kept r.entry.frame new.frame → (cold_resident new ≡ true → cold_resident r.entry ≡ true) → (new.test ≡ true → r.entry.test ≡ true)
        → Linked (plus (minus counts (counted r.entry)) (counted new)) (rewritten r new s) (replaced r.cell.0 new rows)
    put_linked new ke ce te = record {
      ring = k.ring ∙ sym (cells_replaced r.cell.0 new rows);
      cold = ap (λ o. cond (cold_resident new) o (without r.cell.0 o)) k.cold ∙ w.put new cold_resident ce;
      test = ap (λ o. cond new.test o (without r.cell.0 o)) k.test ∙ w.put new (λ e. e.test) te;
      entries = all_hold s.entry r.cell.0 new rows k.entries;
      vacant = still_vacant s.entry r.cell.0 (Some new) (s.order Free) away k.vacant;
      full = omega (arith, length_replaced r.cell.0 new rows, k.full);
      warm = omega (arith, w.renumber new (λ e. e.hot), w.fewer (λ e. e.hot), k.warm);
      left = omega (arith, w.renumber new remembered, w.fewer remembered, k.left);
      unlents = omega (arith, w.renumber new idle, w.fewer idle, k.unlents);
      directory = all_put (λ x. Slot s.slot x.cell.0 x.entry.frame) r.cell.0 new
          (λ x e. subst (λ j. Slot s.slot j new.frame) (sym e) (slot_kept s.slot r.cell.0 r.entry.frame new.frame ke slot)) rows k.directory;
    }

    -- a row is removed
    pub cut_linked : Linked (minus counts (counted r.entry)) (cut_out r s) (without_cell r.cell.0 rows)
    cut_linked =
        let ws = without_cell r.cell.0 rows in
        record {
          ring = ap (without r.cell.0) k.ring ∙ sym (cells_without r.cell.0 rows);
          cold = append-nil (without r.cell.0 (s.order Cold)) ∙ ap (without r.cell.0) k.cold ∙ sym (by_without cold_resident r.cell.0 rows);
          test = append-nil (without r.cell.0 (s.order Test)) ∙ ap (without r.cell.0) k.test ∙ sym (by_without (λ e. e.test) r.cell.0 rows);
          entries = others_hold s.entry r.cell.0 None rows k.entries;
          vacant = All-push (λ j. cond (eqb j r.cell.0) None (s.entry j) ≡ None) (s.order Free) r.cell.0
              (still_vacant s.entry r.cell.0 None (s.order Free) away k.vacant)
              (cond-true (eqb r.cell.0 r.cell.0) None (s.entry r.cell.0) (eq-eqb r.cell.0 r.cell.0 refl));
          full = omega (arith, length_push (s.order Free) r.cell.0, w.size, k.full);
          warm = omega (arith, w.fewer (λ e. e.hot), k.warm);
          left = omega (arith, w.fewer remembered, k.left);
          unlents = omega (arith, w.fewer idle, k.unlents);
          directory = all_left (λ x. Slot s.slot x.cell.0 x.entry.frame) r.cell.0 rows k.directory;
        }
