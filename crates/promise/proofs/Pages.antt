-- The pages of a ring: which key lies in which frame, with how many loans, altered or not.
use Rattle.std.proofs.Common.{◌≡◌, ℕ, ◌+◌, ◌≤◌, Bool, true, false, cond, not, ◌&&◌, eqb, ltb, List, [], ◌∷◌, Some, None, Option, sym, refl, ap, ◌∙◌, arith}
use Rattle.std.proofs.lemmas.Bool.{eqb-true, eqb-false, eq-eqb, and_parts, and_from}
use Rattle.keys.specs.Same.{same_list}
use Rattle.machine.specs.Entry.{Entry, named, lies_in, in_frame, on_page, one, one_of, count, first}
use Rattle.machine.specs.Hands.{Machine}
use Rattle.machine.specs.Facts.{Well}
use Rattle.machine.proofs.Counts.{differ, first_passes}
use Rattle.keys.proofs.Compare.{same_list_true, same_list_same}

abbrev pub equal_bits : Bool → Bool → Bool
equal_bits a b = cond a b (not b)

same_bit_true : (a b : Bool) → equal_bits a b ≡ true → a ≡ b
same_bit_true true true h = refl
same_bit_true true false h = differ false h refl
same_bit_true false true h = differ false h refl
same_bit_true false false h = refl

same_bit_same : (a : Bool) → equal_bits a a ≡ true
same_bit_same true = refl
same_bit_same false = refl

-- the test for one page
abbrev pub exactly : List ℕ → ℕ → ℕ → Bool → List ℕ → ℕ → ℕ → Bool → Bool
exactly k f l a k' f' l' a' = same_list k k' && (eqb f f' && (eqb l l' && equal_bits a a'))

abbrev pub exact : List ℕ → ℕ → ℕ → Bool → Entry → Bool
exact k f l a = on_page (exactly k f l a)

-- key k lies in frame f with l loans, altered or not
pub record At (k : List ℕ) (f l : ℕ) (a : Bool) (ring : List Entry) : Type 0 where
  pub counted : 1 ≤ count (exact k f l a) ring

-- no page of key k; no page in frame f
abbrev pub Away : List ℕ → List Entry → Type 0
Away k ring = (f l : ℕ) (a : Bool) → At k f l a ring → ⊥

abbrev pub Empty : ℕ → List Entry → Type 0
Empty f ring = (k : List ℕ) (l : ℕ) (a : Bool) → At k f l a ring → ⊥

-- what it says of an entry
pub record Is (k : List ℕ) (f l : ℕ) (a : Bool) (e : Entry) : Type 0 where
  pub key : e.key ≡ k
  pub frame : e.frame ≡ Some f
  pub loans : e.loans ≡ l
  pub altered : e.altered ≡ a

pub passed : (k : List ℕ) (f l : ℕ) (a : Bool) (e : Entry) → exact k f l a e ≡ true → Is k f l a e
passed k f l a e h = go e.frame refl h
  where
    go : (o : Option ℕ) → e.frame ≡ o → in_frame (λ g. exactly k f l a e.key g e.loans e.altered) o ≡ true → Is k f l a e
    go None j h = differ false h refl
    go (Some g) j h =
        let p = and_parts (same_list k e.key) (eqb f g && (eqb l e.loans && equal_bits a e.altered)) h in
        let q = and_parts (eqb f g) (eqb l e.loans && equal_bits a e.altered) p.1 in
        let r = and_parts (eqb l e.loans) (equal_bits a e.altered) q.1 in
        let y : f ≡ g = eqb-true f g q.0 in
        record { key = sym (same_list_true k e.key p.0); frame = cc; loans = sym (eqb-true l e.loans r.0); altered = sym (same_bit_true a e.altered r.1) }

pub passes : (k : List ℕ) (f l : ℕ) (a : Bool) (e : Entry) → Is k f l a e → exact k f l a e ≡ true
passes k f l a e i = rw (i.frame, i.key, i.loans, i.altered)
    (and_from (same_list k k) (eqb f f && (eqb l l && equal_bits a a)) (same_list_same k)
    (and_from (eqb f f) (eqb l l && equal_bits a a) (eq-eqb f f refl) (and_from (eqb l l) (equal_bits a a) (eq-eqb l l refl) (same_bit_same a))))

-- an entry that lies in another frame does not pass
pub elsewhere : (k : List ℕ) (f g l : ℕ) (a : Bool) (e : Entry) → e.frame ≡ Some g → eqb g f ≡ false → exact k f l a e ≡ false
elsewhere k f g l a e h d = go (exact k f l a e) refl
  where
    go : (b : Bool) → exact k f l a e ≡ b → b ≡ false
    go true j = let i = (passed k f l a e j).frame in let z : g ≡ f = cc in absurd (eqb-false g f d z)
    go false j = refl

-- FIRST ENTRIES AND PAGES

pub first_counts : (p q : Entry → Bool) (xs : List Entry) (e : Entry) → first p xs ≡ Some e → q e ≡ true → 1 ≤ count q xs
first_counts p q [] e h j = let z : ◌≡◌ {A = ℕ} 0 1 = cc in absurd (omega arith)
first_counts p q (x ∷ xs) e h j = go (p x) (λ i. first_counts p q xs e i j) h
  where
    go : (b : Bool) → (first p xs ≡ Some e → 1 ≤ count q xs) → cond b (Some x) (first p xs) ≡ Some e → 1 ≤ one (q x) + count q xs
    go true ih h = let k : x ≡ e = cc in let i : q x ≡ true = rw k j in rw i (omega arith)
    go false ih h = let k = ih h in omega arith

-- where at most one entry passes p, and some entry passes a narrower q, the first that passes p passes q
pub only_one : (p q : Entry → Bool) → ((e : Entry) → q e ≡ true → p e ≡ true) → (xs : List Entry) → count p xs ≤ 1 → 1 ≤ count q xs →
    (e : Entry) × (first p xs ≡ Some e) × (q e ≡ true)
only_one p q n [] h j = absurd (omega arith)
only_one p q n (x ∷ xs) h j = go (p x) refl (q x) refl (λ a b. only_one p q n xs a b) h j
  where
    none : (ys : List Entry) → count p ys ≡ 0 → count q ys ≡ 0
    none [] i = refl
    none (y ∷ ys) i = more (p y) (q y) (λ u. n y u) (λ u. none ys u) i
      where
        more : (b c : Bool) → (c ≡ true → b ≡ true) → (count p ys ≡ 0 → count q ys ≡ 0) → one b + count p ys ≡ 0 → one c + count q ys ≡ 0
        more true c u v w = absurd (omega arith)
        more false true u v w = differ false (u refl) refl
        more false false u v w = let z = v (omega arith) in omega arith

    go : (b : Bool) → p x ≡ b → (c : Bool) → q x ≡ c → (count p xs ≤ 1 → 1 ≤ count q xs → (e : Entry) × (first p xs ≡ Some e) × (q e ≡ true)) →
        one b + count p xs ≤ 1 → 1 ≤ one c + count q xs → (e : Entry) × (cond b (Some x) (first p xs) ≡ Some e) × (q e ≡ true)
    go true k true l ih h j = (x, refl, l)
    go true k false l ih h j = let z = none xs (omega arith) in absurd (omega arith)
    go false k true l ih h j = differ (p x) (n x l) k
    go false k false l ih h j = ih (omega arith) (omega arith)

-- keys differ, and frames
pub record Unique (ring : List Entry) : Type 0 where
  pub keys : (k : List ℕ) → count (named k) ring ≤ 1
  pub frames : (f : ℕ) → count (lies_in f) ring ≤ 1

pub well_unique : (m : ℕ) (s : Machine) → Well m s → Unique s.ring
well_unique m s w = record { keys = w.keys; frames = λ f. let h = w.mid.frames f in let j = small (ltb f s.used) in omega arith }
  where
    small : (b : Bool) → one b ≤ 1
    small true = omega arith
    small false = omega arith

pub at_key : (k : List ℕ) (f l : ℕ) (a : Bool) (ring : List Entry) → Unique ring → At k f l a ring → (e : Entry) × (first (named k) ring ≡ Some e) × Is k f l a e
at_key k f l a ring u h =
    let x = only_one (named k) (exact k f l a) (λ e j. let i = (passed k f l a e j).key in rw i (same_list_same k)) ring (u.keys k) h.counted in
    (x.0, x.1, passed k f l a x.0 x.2)

pub at_frame : (k : List ℕ) (f l : ℕ) (a : Bool) (ring : List Entry) → Unique ring → At k f l a ring → (e : Entry) × (first (lies_in f) ring ≡ Some e) × Is k f l a e
at_frame k f l a ring u h =
    let x = only_one (lies_in f) (exact k f l a) (λ e j. let i = (passed k f l a e j).frame in rw i (eq-eqb f f refl)) ring (u.frames f) h.counted in
    (x.0, x.1, passed k f l a x.0 x.2)

pub key_at : (k : List ℕ) (f : ℕ) (ring : List Entry) (e : Entry) → first (named k) ring ≡ Some e → e.frame ≡ Some f → At k f e.loans e.altered ring
key_at k f ring e h j =
    let n : e.key ≡ k = sym (same_list_true k e.key (first_passes (named k) ring e h)) in
    record { counted = first_counts (named k) (exact k f e.loans e.altered) ring e h (passes k f e.loans e.altered e (record { key = n; frame = j; loans = refl; altered = refl })) }

lies_frame : (f : ℕ) (e : Entry) → lies_in f e ≡ true → e.frame ≡ Some f
lies_frame f e h = go e.frame refl h
  where
    go : (o : Option ℕ) → e.frame ≡ o → in_frame (eqb f) o ≡ true → o ≡ Some f
    go None j h = differ false h refl
    go (Some g) j h = ap Some (sym (eqb-true f g h))

pub frame_at : (f : ℕ) (ring : List Entry) (e : Entry) → first (lies_in f) ring ≡ Some e → At e.key f e.loans e.altered ring
frame_at f ring e h =
    let j = lies_frame f e (first_passes (lies_in f) ring e h) in
    record { counted = first_counts (lies_in f) (exact e.key f e.loans e.altered) ring e h (passes e.key f e.loans e.altered e (record { key = refl; frame = j; loans = refl; altered = refl })) }

-- two pages of one key, or in one frame, are one page
pub one_key : (k : List ℕ) (f l : ℕ) (a : Bool) (g n : ℕ) (b : Bool) (ring : List Entry) → Unique ring → At k f l a ring → At k g n b ring → (f ≡ g) × (l ≡ n) × (a ≡ b)
one_key k f l a g n b ring u h j =
    let x = at_key k f l a ring u h in let y = at_key k g n b ring u j in
    let x1 = x.1 in let y1 = y.1 in
    let e : x.0 ≡ y.0 = cc in
    let p = x.2 in let q : Is k g n b x.0 = rw e y.2 in
    let p1 = p.frame in let q1 = q.frame in
    (cc, sym p.loans ∙ q.loans, sym p.altered ∙ q.altered)

pub one_frame : (f : ℕ) (k : List ℕ) (l : ℕ) (a : Bool) (i : List ℕ) (n : ℕ) (b : Bool) (ring : List Entry) → Unique ring → At k f l a ring → At i f n b ring → (k ≡ i) × (l ≡ n) × (a ≡ b)
one_frame f k l a i n b ring u h j =
    let x = at_frame k f l a ring u h in let y = at_frame i f n b ring u j in
    let x1 = x.1 in let y1 = y.1 in
    let e : x.0 ≡ y.0 = cc in
    let p = x.2 in let q : Is i f n b x.0 = rw e y.2 in
    (sym p.key ∙ q.key, sym p.loans ∙ q.loans, sym p.altered ∙ q.altered)

-- A CHANGE IN ONE FRAME

-- one entry comes and at most one goes
pub record Turn (goes : Option Entry) (comes : Entry) (s t : List Entry) : Type 0 where
  pub pages : (p : List ℕ → ℕ → ℕ → Bool → Bool) → count (on_page p) t + one_of (on_page p) goes ≡ count (on_page p) s + one (on_page p comes)
  pub there : (p : List ℕ → ℕ → ℕ → Bool → Bool) → one_of (on_page p) goes ≤ count (on_page p) s

-- now key k lies in frame f, and every other frame is as before
pub record Change (k : List ℕ) (f l : ℕ) (a : Bool) (s t : List Entry) : Type 0 where
  pub came : At k f l a t
  pub only : (i : List ℕ) (g n : ℕ) (b : Bool) → eqb f g ≡ false → At i g n b t → At i g n b s
  pub stay : (i : List ℕ) (g n : ℕ) (b : Bool) → eqb f g ≡ false → At i g n b s → At i g n b t

pub turn_change : (k : List ℕ) (f l : ℕ) (a : Bool) (goes : Option Entry) (comes : Entry) (s t : List Entry) → Turn goes comes s t →
    Is k f l a comes → ((e : Entry) → goes ≡ Some e → e.frame ≡ Some f) → Change k f l a s t
turn_change k f l a goes comes s t w i h = record {
  came = let x = w.pages (exactly k f l a) in let y = w.there (exactly k f l a) in let z : one (exact k f l a comes) ≡ 1 = ap one (passes k f l a comes i) in record { counted = omega arith };
  only = λ j g n b d p.
      let x = w.pages (exactly j g n b) in let z : one (exact j g n b comes) ≡ 0 = ap one (elsewhere j g f n b comes i.frame d) in let y = p.counted in record { counted = omega arith };
  stay = λ j g n b d p.
      let x = w.pages (exactly j g n b) in let z = none j g n b d goes h in let y = p.counted in record { counted = omega arith };
}
  where
    none : (j : List ℕ) (g n : ℕ) (b : Bool) → eqb f g ≡ false → (o : Option Entry) → ((e : Entry) → o ≡ Some e → e.frame ≡ Some f) → one_of (exact j g n b) o ≡ 0
    none j g n b d None h = refl
    none j g n b d (Some e) h = ap one (elsewhere j g f n b e (h e refl) d)
