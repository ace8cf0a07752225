-- A flush: every altered page is written to the store, and the marks are cleared.
use Rattle.std.proofs.Common.{◌≡◌, ℕ, zero, suc, ◌+◌, ◌*◌, ◌<◌, ◌≤◌, Bool, true, false, ◌⊎◌, List, [], ◌∷◌, map, length, is_some, Some, sym, refl, ap, ◌∙◌, subst, inl, inr, arith}
use Rattle.std.proofs.ByRecursion.{All-map, All-weaker}
use Rattle.std.proofs.lemmas.Bool.{cases_lt, cases_eq}
use Rattle.machine.specs.Entry.{Entry, is_hot, has_bit, marked, resident, remembered, named, lies_in, one, count}
use Rattle.machine.specs.Hands.{Machine}
use Rattle.machine.specs.Borrow.{marking}
use Rattle.machine.specs.Facts.{Proper, Well}
use Rattle.machine.proofs.Counts.{differ}
use Rattle.stores.specs.Meaning.{Meaning}
use Rattle.promise.specs.State.{State, page_size, part, occupant}
use Rattle.stores.specs.Parts.{part_of}
use Rattle.promise.specs.Serves.{written_below, unaltered, flushed}
use Rattle.promise.specs.Book.{Book}
use Rattle.promise.proofs.Pages.{At, Away, Unique, exact, passed, passes, one_key}
use Rattle.stores.proofs.Bytes.{part_length}
use Rattle.promise.proofs.Invariant.{Known, Inv, ring_of, inv_unique, at_below, at_or_away}
use Rattle.promise.proofs.Sent.{sent_size, sent_open, sent_other, sent_here}

-- THE STORE

pub written_size : (n : ℕ) (s : State) → (written_below n s).size ≡ s.store.size
written_size zero s = refl
written_size (suc n) s = sent_size (part s n) (occupant n s) (written_below n s) ∙ written_size n s

pub written_open : (n : ℕ) (s : State) → (written_below n s).is_open ≡ s.store.is_open
written_open zero s = refl
written_open (suc n) s = sent_open (part s n) (occupant n s) (written_below n s) ∙ written_open n s

-- a key that lies in none of the first n frames keeps its page
pub written_other : (n : ℕ) (s : State) (i : List ℕ) → ((f l : ℕ) (a : Bool) → f < n → At i f l a (ring_of s) → ⊥) → (written_below n s).pages i ≡ s.store.pages i
written_other zero s i h = refl
written_other (suc n) s i h =
    sent_other (part s n) n (ring_of s) (written_below n s) i (λ l a p. h n l a (omega arith) p) ∙ written_other n s i (λ f l a j p. h f l a (omega arith) p)

-- a key that lies in one of them has its frame's bytes
pub written_here : (b : Book) (n : ℕ) (s : State) → Inv b s → (i : List ℕ) (f l : ℕ) (a : Bool) → f < n → At i f l a (ring_of s) → (written_below n s).pages i ≡ Some (part s f)
written_here b zero s v i f l a h p = absurd (omega arith)
written_here b (suc n) s v i f l a h p = go (cases_eq f n) (λ j. written_here b n s v i f l a j p)
  where
    u : Unique (ring_of s)
    u = inv_unique b s v

    less : (f ≡ n → ⊥) → (f < n) ⊎ (n ≤ f) → f < n
    less d (inl y) = y
    less d (inr y) = absurd (d (omega arith))

    go : (f ≡ n) ⊎ (f ≡ n → ⊥) → (f < n → (written_below n s).pages i ≡ Some (part s f)) → (written_below (suc n) s).pages i ≡ Some (part s f)
    go (inl e) ih =
        let q : At i n l a (ring_of s) = subst (λ y. At i y l a (ring_of s)) e p in
        subst (λ y. (written_below (suc n) s).pages i ≡ Some (part s y)) (sym e)
        (sent_here (part s n) n (ring_of s) (written_below n s) i l a u q
        (λ j. written_other n s i (λ g x y d z. let o = (one_key i n l a g x y (ring_of s) u q z).0 in omega arith) ∙ (v.known i n l a q).clean j))
    go (inr d) ih =
        sent_other (part s n) n (ring_of s) (written_below n s) i (λ x y z. d (one_key i f l a n x y (ring_of s) u p z).0) ∙ ih (less d (cases_lt f n))

-- THE RING

count_clean : (p : Entry → Bool) → ((e : Entry) → p (marking false e) ≡ p e) → (xs : List Entry) → count p (map (marking false) xs) ≡ count p xs
count_clean p h [] = refl
count_clean p h (x ∷ xs) = let i = count_clean p h xs in let j : one (p (marking false x)) ≡ one (p x) = ap one (h x) in omega arith

-- a page after the flush is not altered, and it was there before
pub cleaned_at : (k : List ℕ) (f l : ℕ) (a : Bool) (xs : List Entry) → At k f l a (map (marking false) xs) → (a ≡ false) × ((c : Bool) × At k f l c xs)
cleaned_at k f l a xs h =
    let y = some xs h.counted in
    let i = passed k f l a (marking false y.0) y.1 in
    (sym i.altered, (y.0.altered, record { counted = y.2 (exact k f l y.0.altered) (passes k f l y.0.altered y.0 (record { key = i.key; frame = i.frame; loans = i.loans; altered = refl })) }))
  where
    some : (ys : List Entry) → 1 ≤ count (exact k f l a) (map (marking false) ys) → (e : Entry) × (exact k f l a (marking false e) ≡ true) × ((q : Entry → Bool) → q e ≡ true → 1 ≤ count q ys)
    some [] j = absurd (omega arith)
    some (y ∷ ys) j = go (exact k f l a (marking false y)) refl (λ d. some ys d) j
      where
        go : (b : Bool) → exact k f l a (marking false y) ≡ b →
            (1 ≤ count (exact k f l a) (map (marking false) ys) → (e : Entry) × (exact k f l a (marking false e) ≡ true) × ((q : Entry → Bool) → q e ≡ true → 1 ≤ count q ys)) →
            1 ≤ one b + count (exact k f l a) (map (marking false) ys) → (e : Entry) × (exact k f l a (marking false e) ≡ true) × ((q : Entry → Bool) → q e ≡ true → 1 ≤ count q (y ∷ ys))
        go true i ih d = (y, i, λ q z. let w : one (q y) ≡ 1 = ap one z in omega arith)
        go false i ih d = let r = ih (omega arith) in (r.0, r.1, λ q z. let w = r.2 q z in omega arith)

-- and a page that was there is there still
pub cleaned_stays : (k : List ℕ) (f l : ℕ) (a : Bool) (xs : List Entry) → At k f l a xs → At k f l false (map (marking false) xs)
cleaned_stays k f l a xs h = record { counted = le xs h.counted }
  where
    le : (ys : List Entry) → 1 ≤ count (exact k f l a) ys → 1 ≤ count (exact k f l false) (map (marking false) ys)
    le [] j = absurd (omega arith)
    le (y ∷ ys) j = go (exact k f l a y) refl (λ d. le ys d) j
      where
        go : (b : Bool) → exact k f l a y ≡ b → (1 ≤ count (exact k f l a) ys → 1 ≤ count (exact k f l false) (map (marking false) ys)) → 1 ≤ one b + count (exact k f l a) ys →
            1 ≤ one (exact k f l false (marking false y)) + count (exact k f l false) (map (marking false) ys)
        go true i ih d =
            let z = passed k f l a y i in
            let w : one (exact k f l false (marking false y)) ≡ 1 = ap one (passes k f l false (marking false y) (record { key = z.key; frame = z.frame; loans = z.loans; altered = refl })) in omega arith
        go false i ih d = let z = ih (omega arith) in omega arith

pub well_clean : (m : ℕ) (s : Machine) → Well m s → Well m (unaltered s)
well_clean m s w = record {
  mid = record {
    entries = All-map Proper (marking false) s.ring (All-weaker Proper (λ e. Proper (marking false e))
        (λ e p. record { hot_unmarked = p.hot_unmarked; hot_resident = p.hot_resident; marked_away = p.marked_away; still_away = p.still_away; unlent_away = p.unlent_away; same_away = λ _. refl; loans_fit = p.loans_fit }) s.ring w.mid.entries);
    frames = λ f. let c = count_clean (lies_in f) (λ e. refl) s.ring in let d = w.mid.frames f in omega arith;
    pages = let c = count_clean resident (λ e. refl) s.ring in let d = w.mid.pages in omega arith;
    memory = let c = count_clean remembered (λ e. refl) s.ring in let d = w.mid.memory in omega arith;
    frames_fit = w.mid.frames_fit;
    cold_low = w.mid.cold_low;
    cold_high = w.mid.cold_high;
  };
  keys = λ k. let c = count_clean (named k) (λ e. refl) s.ring in let d = w.keys k in omega arith;
  few_hot = let c = count_clean is_hot (λ e. refl) s.ring in let d = w.few_hot in omega arith;
}

-- THE STATE

pub inv_flush : (b : Book) (s : State) → Inv b s → Inv b (flushed s)
inv_flush b s v = record {
  well = well_clean s.count s.machine v.well;
  bytes_fit = v.bytes_fit ∙ ap (λ y. s.count * y) (sym z);
  pages_fit = λ k page h. fit k page h (at_or_away k (ring_of s) u) ∙ sym z;
  known = λ k f l a h. at k f l a (cleaned_at k f l a (ring_of s) h);
  away = λ k h.
      let a : Away k (ring_of s) = λ f l c p. h f l false (cleaned_stays k f l c (ring_of s) p) in
      written_other s.count s k (λ f l c j p. a f l c p) ∙ v.away k a;
  empty = λ f h. v.empty f (λ k l a p. h k l false (cleaned_stays k f l a (ring_of s) p));
  colds = let c = count_clean has_bit (λ e. refl) (ring_of s) in let d = v.colds in omega arith;
  tests = let c = count_clean has_bit (λ e. refl) (ring_of s) in let e = count_clean marked (λ e. refl) (ring_of s) in let d = v.tests in omega arith;
}
  where
    u : Unique (ring_of s)
    u = inv_unique b s v

    st : Meaning
    st = written_below s.count s

    fit : (k page : List ℕ) → st.pages k ≡ Some page → ((f l : ℕ) × (a : Bool) × At k f l a (ring_of s)) ⊎ Away k (ring_of s) → length page ≡ page_size s
    fit k page h (inl (f, l, a, p)) =
        let below = at_below s.count s.machine k f l a v.well p in
        let w : st.pages k ≡ Some (part s f) = written_here b s.count s v k f l a below p in
        let e : part s f ≡ page = cc in
        ap length (sym e) ∙ part_length s.count (page_size s) f s.bytes below v.bytes_fit
    fit k page h (inr y) = v.pages_fit k page (sym (written_other s.count s k (λ f l a j p. y f l a p)) ∙ h)

    z : st.size ≡ s.store.size
    z = written_size s.count s

    parts : (f : ℕ) → part (flushed s) f ≡ part s f
    parts f = ap (λ y. part_of y s.bytes f) z

    at : (k : List ℕ) (f l : ℕ) (a : Bool) → (a ≡ false) × ((c : Bool) × At k f l c (ring_of s)) → Known b (flushed s) k f l a
    at k f l a (e, (c, p)) =
        let q = v.known k f l c p in
        let below = at_below s.count s.machine k f l c v.well p in
        let w : st.pages k ≡ Some (part s f) = written_here b s.count s v k f l c below p in
        record { same = q.same ∙ ap Some (sym (parts f)); held = ap is_some w; clean = λ _. w ∙ ap Some (sym (parts f)); unsealed = λ h. differ a h e; keys = q.keys; loans = q.loans }

-- Right after it the store alone gives every key its page in the book.
pub flush_stores : (b : Book) (s : State) → Inv b s → (k : List ℕ) → (flushed s).store.pages k ≡ b.pages k
flush_stores b s v k = go (at_or_away k (ring_of s) (inv_unique b s v))
  where
    go : ((f l : ℕ) × (a : Bool) × At k f l a (ring_of s)) ⊎ Away k (ring_of s) → (flushed s).store.pages k ≡ b.pages k
    go (inl (f, l, a, p)) = written_here b s.count s v k f l a (at_below s.count s.machine k f l a v.well p) p ∙ sym (v.known k f l a p).same
    go (inr y) = written_other s.count s k (λ f l a j p. y f l a p) ∙ v.away k y
