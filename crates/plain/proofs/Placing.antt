-- A change at the place of the first entry that passes a test is a change of the machine's list.
use Rattle.std.proofs.Common.{◌≡◌, ℕ, suc, ◌+◌, ◌<◌, ◌≤◌, Bool, true, false, cond, not, ◌||◌, ltb, List, [], ◌∷◌, ◌++◌, map, length, get_or, set, take, drop, Some, None, Option, sym, refl, ap, ◌∙◌, subst, ap₂, zero-add, one-add, arith}
use Rattle.std.specs.Option.{option_to_list}
use Rattle.std.specs.List.{position_or_len, position, count_by, list_any}
use Rattle.std.proofs.lemmas.Bool.{lt-ltb, ltb-true, ltb-false}
use Rattle.std.proofs.lemmas.List.{map-append, set_split}
use Rattle.std.proofs.lemmas.List.Sums.{sum_by-cons}
use Rattle.std.proofs.lemmas.Option.{cond_some}
use Rattle.machine.specs.Entry as model
use Rattle.machine.specs.Hands.{Machine, turned, turned_cold, hot_step}
use Rattle.records.specs.declared.entry.Entry.{Entry}
use Rattle.records.specs.Reading.{entry_of, entries_of, listed}
use Rattle.plain.specs.Lists.{place, Found}

cond_none : (b : Bool) (n : ℕ) → cond b (Some n) None ≡ None → b ≡ false
cond_none true n h = cc
cond_none false n h = refl

module _ {X : Type 0} (g : X → model.Entry) (p : model.Entry → Bool) where
  abbrev before : List X → ℕ
  before xs = position_or_len (λ x. p (g x)) xs

  -- the place is within the list
  pub placed : (xs : List X) (i : ℕ) → position (λ x. p (g x)) xs ≡ Some i → (before xs ≡ i) × (i < length xs)
  placed xs i h =
      let k = cond_some (ltb (before xs) (length xs)) (before xs) i h in let l = ltb-true (before xs) (length xs) k.0 in let e = k.1 in (e, omega arith)

  -- nobody passes
  not_before : (xs : List X) → length xs ≤ before xs → model.first p (map g xs) ≡ None
  not_before [] h = refl
  not_before (x ∷ xs) h = go (p (g x)) (λ k. not_before xs k) h
    where
      go : (b : Bool) → (length xs ≤ before xs → model.first p (map g xs) ≡ None) → suc (length xs) ≤ cond (not b) (1 + before xs) 0 →
          cond b (Some (g x)) (model.first p (map g xs)) ≡ None
      go true ih h = absurd (omega arith)
      go false ih h = ih (omega arith)

  pub first_not : (xs : List X) → position (λ x. p (g x)) xs ≡ None → model.first p (map g xs) ≡ None
  first_not xs h = not_before xs (ltb-false (before xs) (length xs) (cond_none (ltb (before xs) (length xs)) (before xs) h))

  -- somebody passes, and stands there
  pub first_at : (xs : List X) (e : X) → before xs < length xs → e ≡ get_or xs (before xs) e → model.first p (map g xs) ≡ Some (g e)
  first_at [] e h k = absurd (omega arith)
  first_at (x ∷ xs) e h k = go (p (g x)) (λ i j. first_at xs e i j) h k
    where
      go : (b : Bool) → (before xs < length xs → e ≡ get_or xs (before xs) e → model.first p (map g xs) ≡ Some (g e)) →
          cond (not b) (1 + before xs) 0 < suc (length xs) → e ≡ get_or (x ∷ xs) (cond (not b) (1 + before xs) 0) e →
          cond b (Some (g x)) (model.first p (map g xs)) ≡ Some (g e)
      go true ih h k = ap (λ y. Some (g y)) (sym k)
      go false ih h k = ih (omega arith) (subst (λ n. e ≡ get_or (x ∷ xs) n e) (one-add (before xs)) k)

  -- and others stand in its place
  pub replaced_at : (f : model.Entry → List model.Entry) (l : List X) (xs : List X) (e : X) → before xs < length xs → e ≡ get_or xs (before xs) e → map g l ≡ f (g e) →
      map g (take (before xs) xs ++ (l ++ drop (suc (before xs)) xs)) ≡ model.replaced p f (map g xs)
  replaced_at f l [] e h k q = absurd (omega arith)
  replaced_at f l (x ∷ xs) e h k q = go (p (g x)) (λ i j. replaced_at f l xs e i j q) h k
    where
      go : (b : Bool) → (before xs < length xs → e ≡ get_or xs (before xs) e →
          map g (take (before xs) xs ++ (l ++ drop (suc (before xs)) xs)) ≡ model.replaced p f (map g xs)) →
          cond (not b) (1 + before xs) 0 < suc (length xs) → e ≡ get_or (x ∷ xs) (cond (not b) (1 + before xs) 0) e →
          map g (take (cond (not b) (1 + before xs) 0) (x ∷ xs) ++ (l ++ drop (suc (cond (not b) (1 + before xs) 0)) (x ∷ xs)))
          ≡ cond b (f (g x) ++ map g xs) (g x ∷ model.replaced p f (map g xs))
      go true ih h k = map-append g l xs ∙ ap (λ y. y ++ map g xs) (q ∙ ap (λ y. f (g y)) k)
      go false ih h k =
          subst (λ n. map g (take n (x ∷ xs) ++ (l ++ drop (suc n) (x ∷ xs))) ≡ g x ∷ model.replaced p f (map g xs)) (sym (one-add (before xs)))
          (ap (λ y. g x ∷ y) (ih (omega arith) (subst (λ n. e ≡ get_or (x ∷ xs) n e) (one-add (before xs)) k)))

  -- how many pass, and whether one does
  pub counted : (xs : List X) → count_by (λ x. p (g x)) xs ≡ model.count p (map g xs)
  counted [] = refl
  counted (x ∷ xs) = let a = sum_by-cons (λ y. cond (p (g y)) 1 0) x xs in let b = counted xs in omega arith

  pub some_counted : (xs : List X) → list_any (λ x. p (g x)) xs ≡ ltb 0 (model.count p (map g xs))
  some_counted [] = refl
  some_counted (x ∷ xs) = go (p (g x)) (some_counted xs)
    where
      go : (b : Bool) → list_any (λ x. p (g x)) xs ≡ ltb 0 (model.count p (map g xs)) → (b || list_any (λ x. p (g x)) xs) ≡ ltb 0 (cond b 1 0 + model.count p (map g xs))
      go true ih = sym (lt-ltb 0 (1 + model.count p (map g xs)) (omega arith))
      go false ih = rw zero-add ih

module _ {K : Type 0} (meaning : K → List ℕ) where
  pub listed_is : (o : Option (Entry K)) → entries_of meaning (option_to_list o) ≡ listed meaning o
  listed_is None = refl
  listed_is (Some e) = refl

  -- the entry at the tail is taken out, and another, or none, stands at the head
  pub hot_placed_at : (xs : List (Entry K)) (e : Entry K) (new : Option (Entry K)) (c u d : ℕ) → 0 < length xs → e ≡ get_or xs 0 e →
      listed meaning new ≡ turned (entry_of meaning e) → d ≡ turned_cold (entry_of meaning e) c →
      ◌≡◌ {A = Machine} (record { ring = entries_of meaning ((take 0 xs ++ drop 1 xs) ++ option_to_list new); cold = d; used = u }) (hot_step (record { ring = entries_of meaning xs; cold = c; used = u }))
  hot_placed_at [] e new c u d h k q r = absurd (omega arith)
  hot_placed_at (x ∷ xs) e new c u d h k q r =
      let a : entries_of meaning (xs ++ option_to_list new) ≡ entries_of meaning xs ++ turned (entry_of meaning x) =
      map-append (entry_of meaning) xs (option_to_list new) ∙ ap (λ y. entries_of meaning xs ++ y) (listed_is new ∙ q ∙ ap (λ y. turned (entry_of meaning y)) k) in
      let b : d ≡ turned_cold (entry_of meaning x) c = r ∙ ap (λ y. turned_cold (entry_of meaning y) c) k in
      λ i. record { ring = a i; cold = b i; used = u }

  module _ (p : model.Entry → Bool) (es : List (Entry K)) (at : ℕ) (e : Entry K) (f : Found meaning p es at e) where
    n : (position_or_len (λ x. p (entry_of meaning x)) es ≡ at) × (at < length es)
    n = placed (entry_of meaning) p es at f.first

    within : position_or_len (λ x. p (entry_of meaning x)) es < length es
    within = let a = n.0 in let b = n.1 in omega arith

    it : e ≡ get_or es (position_or_len (λ x. p (entry_of meaning x)) es) e
    it = f.it ∙ ap (λ n. get_or es n e) (sym n.0)

    pub found_first : model.first p (entries_of meaning es) ≡ Some (entry_of meaning e)
    found_first = first_at (entry_of meaning) p es e within it

    -- another entry, or none, stands in its place
    pub found_put : (h : model.Entry → List model.Entry) (new : Option (Entry K)) (es' : List (Entry K)) → listed meaning new ≡ h (entry_of meaning e) →
        es' ≡ take at es ++ (option_to_list new ++ drop (suc at) es) → entries_of meaning es' ≡ model.replaced p h (entries_of meaning es)
    found_put h new es' l k =
        ap (entries_of meaning) (k ∙ ap (λ n. take n es ++ (option_to_list new ++ drop (suc n) es)) (sym n.0))
        ∙ replaced_at (entry_of meaning) p h (option_to_list new) es e within it (listed_is new ∙ l)

    -- another stands in its place
    pub found_set : (h : model.Entry → model.Entry) (new : Entry K) (es' : List (Entry K)) → entry_of meaning new ≡ h (entry_of meaning e) →
        es' ≡ set es at new → entries_of meaning es' ≡ model.replaced p (λ x. h x ∷ []) (entries_of meaning es)
    found_set h new es' l k = found_put (λ x. h x ∷ []) (Some new) es' (ap (λ x. x ∷ []) l) (k ∙ set_split es at new n.1)

    -- it is taken out, and another, or none, stands at the head
    pub found_head : (l : List model.Entry) (new : Option (Entry K)) (es' : List (Entry K)) → listed meaning new ≡ l →
        es' ≡ (take at es ++ drop (suc at) es) ++ option_to_list new → entries_of meaning es' ≡ model.without p (entries_of meaning es) ++ l
    found_head l new es' j k =
        ap (entries_of meaning) k
        ∙ map-append (entry_of meaning) (take at es ++ drop (suc at) es) (option_to_list new)
        ∙ ap₂ ◌++◌ (found_put (λ _. []) None (take at es ++ drop (suc at) es) refl refl) (listed_is new ∙ j)

  -- what a search answered, as a fact of the list
  pub found : (p : model.Entry → Bool) (es : List (Entry K)) {r : Option ℕ} {at : ℕ} {e : Entry K} → r ≡ place meaning p es → r ≡ Some at → e ≡ get_or es at e → Found meaning p es at e
  found p es h i k = record { first = sym h ∙ i; it = k }

  pub first_found : (p : model.Entry → Bool) (es : List (Entry K)) {r : Option ℕ} {at : ℕ} {e : Entry K} → r ≡ place meaning p es → r ≡ Some at → e ≡ get_or es at e →
      model.first p (entries_of meaning es) ≡ Some (entry_of meaning e)
  first_found p es {at = at} {e = e} h i k = found_first p es at e (found p es h i k)

  pub none_found : (p : model.Entry → Bool) (es : List (Entry K)) {r : Option ℕ} → r ≡ place meaning p es → r ≡ None → model.first p (entries_of meaning es) ≡ None
  none_found p es h i = first_not (entry_of meaning) p es (sym h ∙ i)
