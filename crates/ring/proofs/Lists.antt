-- The machine's questions about its list and its changes of it, from those of the rows.
use Rattle.std.proofs.Common.{◌≡◌, ℕ, ◌+◌, Bool, true, false, cond, not, ◌&&◌, eqb, List, [], ◌∷◌, ◌++◌, is_some, Some, None, Option, sym, refl, ap, ◌∙◌, ap₂}
use Rattle.keys.specs.declared.FrameNo.{FrameNo}
use Rattle.std.specs.List.{AllByRecursion}
use Rattle.std.proofs.lemmas.List.{map-append}
use Rattle.std.proofs.lemmas.Bool.{cond-true, cond-false}
use Rattle.chains.specs.Orders.{Apart}
use Rattle.records.specs.Questions.{evictable, remembered, idle, lies_in, in_frame}
use Rattle.rows.specs.Rows.{cells_of, without_cell, replaced, first_by, number, Kept}
use Rattle.records.specs.declared.entry.Entry.{Entry}
use Rattle.rows.specs.declared.Row.{Row}
use Rattle.rows.proofs.Walks.{Nearest, nearest, nearest_cut, nearest_put}
use Rattle.machine.specs.Entry as model
use Rattle.records.specs.Reading.{entry_of, frame_of}
use Rattle.ring.specs.Model.{entries_in}

-- the questions agree
free_go : (f : Option FrameNo) (h l : Bool) → not h && (is_some (frame_of f) && l) ≡ (is_some f && not h) && l
free_go None true l = refl
free_go None false l = refl
free_go (Some f) true l = refl
free_go (Some f) false l = refl

pub free_is : {K : Type 0} (m : K → List ℕ) (e : Entry K) → model.free (entry_of m e) ≡ evictable e
free_is m e = free_go e.frame e.hot (eqb e.loans 0)

some_go : (f : Option FrameNo) → is_some (frame_of f) ≡ is_some f
some_go None = refl
some_go (Some f) = refl

pub remembered_is : {K : Type 0} (m : K → List ℕ) (e : Entry K) → model.remembered (entry_of m e) ≡ remembered e
remembered_is m e = ap not (some_go e.frame)

pub idle_is : {K : Type 0} (m : K → List ℕ) (e : Entry K) → model.idle (entry_of m e) ≡ idle e
idle_is m e = ap (λ b. b && eqb e.loans 0) (some_go e.frame)

lies_go : (f : ℕ) (o : Option FrameNo) → model.in_frame (eqb f) (frame_of o) ≡ in_frame f o
lies_go f None = refl
lies_go f (Some g) = refl

pub lies_is : {K : Type 0} (m : K → List ℕ) (f : ℕ) (e : Entry K) → model.lies_in f (entry_of m e) ≡ lies_in f e
lies_is m f e = lies_go f e.frame

-- an entry that keeps its frame
pub kept_same : (o : Option FrameNo) → Kept o o
kept_same None = tt
kept_same (Some f) = refl

module _ {K : Type 0} (m : K → List ℕ) (p : model.Entry → Bool) (q : Entry K → Bool) (agree : (e : Entry K) → p (entry_of m e) ≡ q e) where
  pub count_in : (rows : List (Row K)) → model.count p (entries_in m rows) ≡ number q rows
  count_in [] = refl
  count_in (r ∷ rs) = ap₂ (λ a b. cond a 1 0 + b) (agree r.entry) (count_in rs)

  pub none_in : (rows : List (Row K)) → first_by q rows ≡ None → model.first p (entries_in m rows) ≡ None
  none_in [] h = refl
  none_in (r ∷ rs) h =
      ap (λ b. cond b (Some (entry_of m r.entry)) (model.first p (entries_in m rs))) (agree r.entry)
      ∙ go (q r.entry) (λ z. none_in rs z) h
    where
      go : (b : Bool) → (first_by q rs ≡ None → model.first p (entries_in m rs) ≡ None) → cond b (Some r) (first_by q rs) ≡ None
          → cond b (Some (entry_of m r.entry)) (model.first p (entries_in m rs)) ≡ None
      go true ih h = cc
      go false ih h = ih h

  pub none_back : (rows : List (Row K)) → model.first p (entries_in m rows) ≡ None → first_by q rows ≡ None
  none_back [] h = refl
  none_back (r ∷ rs) h =
      go (q r.entry) (λ z. none_back rs z) (ap (λ b. cond b (Some (entry_of m r.entry)) (model.first p (entries_in m rs))) (sym (agree r.entry)) ∙ h)
    where
      go : (b : Bool) → (model.first p (entries_in m rs) ≡ None → first_by q rs ≡ None) → cond b (Some (entry_of m r.entry)) (model.first p (entries_in m rs)) ≡ None
          → cond b (Some r) (first_by q rs) ≡ None
      go true ih h = cc
      go false ih h = ih h

  module _ (r : Row K) where
    -- a list cut at the first entry that passes
    module _ (zs : List model.Entry) (t : q r.entry ≡ true) where
      first_at : (xs : List (Row K)) → AllByRecursion (λ x. q x.entry ≡ false) xs → model.first p (entries_in m xs ++ entry_of m r.entry ∷ zs) ≡ Some (entry_of m r.entry)
      first_at [] a = cond-true (p (entry_of m r.entry)) _ _ (agree r.entry ∙ t)
      first_at (x ∷ xs) a = cond-false (p (entry_of m x.entry)) _ _ (agree x.entry ∙ a.0) ∙ first_at xs a.1

      replaced_at : (f : model.Entry → List model.Entry) (xs : List (Row K)) → AllByRecursion (λ x. q x.entry ≡ false) xs
          → model.replaced p f (entries_in m xs ++ entry_of m r.entry ∷ zs) ≡ entries_in m xs ++ (f (entry_of m r.entry) ++ zs)
      replaced_at f [] a = cond-true (p (entry_of m r.entry)) _ _ (agree r.entry ∙ t)
      replaced_at f (x ∷ xs) a = cond-false (p (entry_of m x.entry)) _ _ (agree x.entry ∙ a.0) ∙ ap (λ l. entry_of m x.entry ∷ l) (replaced_at f xs a.1)

    module _ (rows : List (Row K)) (apart : Apart (cells_of rows)) (e : first_by q rows ≡ Some r) where
      parts_in : (n : Nearest rows q r) → entries_in m rows ≡ entries_in m n.front ++ entry_of m r.entry ∷ entries_in m n.back
      parts_in n = ap (entries_in m) n.is ∙ map-append (λ x. entry_of m x.entry) n.front (r ∷ n.back)

      pub first_in : model.first p (entries_in m rows) ≡ Some (entry_of m r.entry)
      first_in =
          let n = nearest q r rows e in
          ap (model.first p) (parts_in n) ∙ first_at (entries_in m n.back) n.passes n.front n.passed

      -- the row is removed
      pub cut_in : (f : model.Entry → List model.Entry) → f (entry_of m r.entry) ≡ [] → entries_in m (without_cell r.cell.0 rows) ≡ model.replaced p f (entries_in m rows)
      cut_in f h =
          let n = nearest q r rows e in
          ap (entries_in m) (nearest_cut rows q r n apart) ∙ map-append (λ x. entry_of m x.entry) n.front n.back
          ∙ ap (λ l. entries_in m n.front ++ (l ++ entries_in m n.back)) (sym h)
          ∙ sym (ap (model.replaced p f) (parts_in n) ∙ replaced_at (entries_in m n.back) n.passes f n.front n.passed)

      -- the row takes a new entry where it stands
      pub put_in : (f : model.Entry → List model.Entry) (new : Entry K) → f (entry_of m r.entry) ≡ entry_of m new ∷ []
          → entries_in m (replaced r.cell.0 new rows) ≡ model.replaced p f (entries_in m rows)
      put_in f new h =
          let n = nearest q r rows e in
          ap (entries_in m) (nearest_put rows q r n apart new) ∙ map-append (λ x. entry_of m x.entry) n.front (record { cell = r.cell; entry = new } ∷ n.back)
          ∙ ap (λ l. entries_in m n.front ++ (l ++ entries_in m n.back)) (sym h)
          ∙ sym (ap (model.replaced p f) (parts_in n) ∙ replaced_at (entries_in m n.back) n.passes f n.front n.passed)

      -- the row takes a new entry and goes to the head
      pub turn_in : (new : Entry K) → entries_in m (without_cell r.cell.0 rows ++ record { cell = r.cell; entry = new } ∷ []) ≡ model.without p (entries_in m rows) ++ (entry_of m new ∷ [])
      turn_in new =
          map-append (λ x. entry_of m x.entry) (without_cell r.cell.0 rows) (record { cell = r.cell; entry = new } ∷ [])
          ∙ ap (λ l. l ++ (entry_of m new ∷ [])) (cut_in (λ _. []) refl)
