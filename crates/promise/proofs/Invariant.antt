-- What holds between book and state at every moment, said page by page; the promise follows from it.
use Rattle.std.proofs.Common.{◌≡◌, ℕ, ◌+◌, ◌*◌, ◌<◌, ◌≤◌, Bool, true, false, eqb, ltb, ◌⊎◌, List, [], length, is_some, Some, None, Option, sym, refl, ap, ◌∙◌, subst, inl, inr, arith}
use Rattle.std.proofs.lemmas.Bool.{eqb-true, eqb-false, ltb-true}
use Rattle.keys.specs.Same.{same_list}
use Rattle.machine.specs.Entry.{Entry, has_bit, marked, named, lies_in, one, count, first}
use Rattle.machine.specs.Hands.{Machine}
use Rattle.machine.specs.Borrow.{loans_at, key_of}
use Rattle.machine.specs.Facts.{Well}
use Rattle.machine.proofs.Counts.{differ, none_some, first_passes}
use Rattle.keys.proofs.Compare.{same_list_true, same_list_same}
use Rattle.machine.proofs.Calls.{opened_well}
use Rattle.promise.specs.State.{State, Opening, begun, page_size, part, occupant, page_in, page_at}
use Rattle.promise.specs.Book.{Book, blank}
use Rattle.promise.specs.Facts.{Facts}
use Rattle.promise.specs.Promise.{Sound}
use Rattle.promise.proofs.Pages.{At, Away, Empty, Unique, well_unique, first_counts, at_key, at_frame, key_at, frame_at, one_key, one_frame, Change}

-- what is known of a resident page
pub record Known (b : Book) (s : State) (k : List ℕ) (f l : ℕ) (a : Bool) : Type 0 where
  pub same : b.pages k ≡ Some (part s f)
  pub held : is_some (s.store.pages k) ≡ true
  pub clean : a ≡ false → s.store.pages k ≡ Some (part s f)
  pub unsealed : a ≡ true → s.store.is_open ≡ true
  pub keys : b.keys f ≡ Some k
  pub loans : b.loans f ≡ l

abbrev pub ring_of : State → List Entry
ring_of s = s.machine.ring

pub record Inv (b : Book) (s : State) : Type 0 where
  pub well : Well s.count s.machine
  pub bytes_fit : length s.bytes ≡ s.count * page_size s
  pub pages_fit : (k page : List ℕ) → s.store.pages k ≡ Some page → length page ≡ page_size s
  pub known : (k : List ℕ) (f l : ℕ) (a : Bool) → At k f l a (ring_of s) → Known b s k f l a
  pub away : (k : List ℕ) → Away k (ring_of s) → s.store.pages k ≡ b.pages k
  pub empty : (f : ℕ) → Empty f (ring_of s) → b.loans f ≡ 0
  pub colds : count has_bit (ring_of s) + b.colds ≤ b.borrows
  pub tests : count has_bit (ring_of s) + count marked (ring_of s) + b.tests ≤ b.borrows

pub inv_unique : (b : Book) (s : State) → Inv b s → Unique (ring_of s)
inv_unique b s i = well_unique s.count s.machine i.well

-- a page lies in one of the m frames
pub at_below : (m : ℕ) (s : Machine) (k : List ℕ) (f l : ℕ) (a : Bool) → Well m s → At k f l a s.ring → f < m
at_below m s k f l a w h =
    let x = at_frame k f l a s.ring (well_unique m s w) h in
    let y = first_counts (lies_in f) (lies_in f) s.ring x.0 x.1 (first_passes (lies_in f) s.ring x.0 x.1) in
    go (ltb f s.used) refl (w.mid.frames f) y
  where
    go : (b : Bool) → ltb f s.used ≡ b → count (lies_in f) s.ring + 0 ≡ one b → 1 ≤ count (lies_in f) s.ring → f < m
    go true j p q = let z = ltb-true f s.used j in let z2 = w.mid.frames_fit in omega arith
    go false j p q = absurd (omega arith)

-- AT OPENING

nobody : (k : List ℕ) (f l : ℕ) (a : Bool) → At k f l a [] → ⊥
nobody k f l a h = let x = h.counted in omega arith

pub inv_begun : (o : Opening) → Inv (blank o) (begun o)
inv_begun o = record {
  well = opened_well o.count o.count_low;
  bytes_fit = o.bytes_fit;
  pages_fit = o.pages_fit;
  known = λ k f l a h. absurd (nobody k f l a h);
  away = λ k h. refl;
  empty = λ f h. refl;
  colds = omega arith;
  tests = omega arith;
}

-- WHAT FOLLOWS

-- a key whose entry is not resident has no page, and a frame that is nobody's has none
pub away_none : (k : List ℕ) (ring : List Entry) → Unique ring → first (named k) ring ≡ None → Away k ring
away_none k ring u h f l a p = let x = at_key k f l a ring u p in let y = x.1 in none_some (first (named k) ring) x.0 h y

pub away_left : (k : List ℕ) (ring : List Entry) (e : Entry) → Unique ring → first (named k) ring ≡ Some e → e.frame ≡ None → Away k ring
away_left k ring e u h j f l a p =
    let x = at_key k f l a ring u p in let y = x.1 in let z : e ≡ x.0 = cc in let i = x.2.frame in
    none_some e.frame f j (ap (λ d. d.frame) z ∙ i)

pub empty_none : (f : ℕ) (ring : List Entry) → Unique ring → first (lies_in f) ring ≡ None → Empty f ring
empty_none f ring u h k l a p = let x = at_frame k f l a ring u p in let y = x.1 in none_some (first (lies_in f) ring) x.0 h y

-- a key lies in a frame, or it does not
pub at_or_not : (k : List ℕ) (f : ℕ) (ring : List Entry) → Unique ring → ((l : ℕ) × (a : Bool) × At k f l a ring) ⊎ ((l : ℕ) (a : Bool) → At k f l a ring → ⊥)
at_or_not k f ring u = go (first (lies_in f) ring) refl
  where
    go : (o : Option Entry) → first (lies_in f) ring ≡ o → ((l : ℕ) × (a : Bool) × At k f l a ring) ⊎ ((l : ℕ) (a : Bool) → At k f l a ring → ⊥)
    go None h = inr (λ l a p. empty_none f ring u h k l a p)
    go (Some e) h = which (same_list e.key k) refl
      where
        which : (b : Bool) → same_list e.key k ≡ b → ((l : ℕ) × (a : Bool) × At k f l a ring) ⊎ ((l : ℕ) (a : Bool) → At k f l a ring → ⊥)
        which true j = inl (e.loans, e.altered, subst (λ x. At x f e.loans e.altered ring) (same_list_true e.key k j) (frame_at f ring e h))
        which false j = inr (λ l a p.
            let x = (one_frame f e.key e.loans e.altered k l a ring u (frame_at f ring e h) p).0 in
            differ (same_list e.key k) (subst (λ y. same_list e.key y ≡ true) x (same_list_same e.key)) j)

-- a key lies somewhere, or it is away
pub at_or_away : (k : List ℕ) (ring : List Entry) → Unique ring → ((f l : ℕ) × (a : Bool) × At k f l a ring) ⊎ Away k ring
at_or_away k ring u = go (first (named k) ring) refl
  where
    go : (o : Option Entry) → first (named k) ring ≡ o → ((f l : ℕ) × (a : Bool) × At k f l a ring) ⊎ Away k ring
    go None h = inr (away_none k ring u h)
    go (Some e) h = at e.frame refl
      where
        at : (o : Option ℕ) → e.frame ≡ o → ((f l : ℕ) × (a : Bool) × At k f l a ring) ⊎ Away k ring
        at None j = inr (away_left k ring e u h j)
        at (Some f) j = inl (f, e.loans, e.altered, key_at k f ring e h j)

pub inv_sound : (b : Book) (s : State) → Inv b s → Sound b s
inv_sound b s i = record {
  pages = λ k. page k (first (named k) (ring_of s)) refl;
  loans = λ f. loan f (occupant f s) refl;
  keys = λ f h. key f (occupant f s) refl h;
  colds = let h = i.colds in omega arith;
  tests = let h = i.tests in omega arith;
}
  where
    u : Unique (ring_of s)
    u = inv_unique b s i

    page : (k : List ℕ) (o : Option Entry) → first (named k) (ring_of s) ≡ o → page_at s k o ≡ b.pages k
    page k None h = i.away k (away_none k (ring_of s) u h)
    page k (Some e) h = at e.frame refl
      where
        at : (o : Option ℕ) → e.frame ≡ o → page_in s k o ≡ b.pages k
        at None j = i.away k (away_left k (ring_of s) e u h j)
        at (Some f) j = sym (i.known k f e.loans e.altered (key_at k f (ring_of s) e h j)).same

    loan : (f : ℕ) (o : Option Entry) → occupant f s ≡ o → loans_at o ≡ b.loans f
    loan f None h = sym (i.empty f (empty_none f (ring_of s) u h))
    loan f (Some e) h = sym (i.known e.key f e.loans e.altered (frame_at f (ring_of s) e h)).loans

    key : (f : ℕ) (o : Option Entry) → occupant f s ≡ o → 1 ≤ loans_at o → key_of o ≡ b.keys f
    key f None h j = absurd (omega arith)
    key f (Some e) h j = sym (i.known e.key f e.loans e.altered (frame_at f (ring_of s) e h)).keys

pub inv_facts : (b : Book) (s : State) → Inv b s → Facts s
inv_facts b s i = record {
  well = i.well;
  bytes_fit = i.bytes_fit;
  pages_fit = i.pages_fit;
  held = λ f e h. (i.known e.key f e.loans e.altered (frame_at f (ring_of s) e h)).held;
  clean = λ f e h j. (i.known e.key f e.loans e.altered (frame_at f (ring_of s) e h)).clean j;
  unsealed = λ f e h j. (i.known e.key f e.loans e.altered (frame_at f (ring_of s) e h)).unsealed j;
}

-- ONE FRAME CHANGES

pub away_same : (k : List ℕ) (f l n : ℕ) (a c : Bool) (s t : List Entry) → Unique s → At k f n c s → Change k f l a s t →
    (i : List ℕ) → Away i t → Away i s × (same_list k i ≡ false)
away_same k f l n a c s t u was ch i h = (λ g x y p. still g x y p (eqb f g) refl, other (same_list k i) refl)
  where
    still : (g x : ℕ) (y : Bool) → At i g x y s → (b : Bool) → eqb f g ≡ b → ⊥
    still g x y p true j =
        let e = eqb-true f g j in
        let q : At i f x y s = subst (λ z. At i z x y s) (sym e) p in
        let z = (one_frame f k n c i x y s u was q).0 in
        h f l a (subst (λ j. At j f l a t) z ch.came)
    still g x y p false j = h g x y (ch.stay i g x y j p)

    other : (b : Bool) → same_list k i ≡ b → b ≡ false
    other true j = absurd (h f l a (subst (λ z. At z f l a t) (same_list_true k i j) ch.came))
    other false j = refl

pub inv_change : (b d : Book) (s t : State) (k : List ℕ) (f l : ℕ) (a : Bool) → Inv b s → Change k f l a (ring_of s) (ring_of t) →
    Well t.count t.machine →
    length t.bytes ≡ t.count * page_size t →
    ((i page : List ℕ) → t.store.pages i ≡ Some page → length page ≡ page_size t) →
    Known d t k f l a →
    ((i : List ℕ) (g n : ℕ) (c : Bool) → eqb f g ≡ false → same_list k i ≡ false → At i g n c (ring_of s) → Known b s i g n c → Known d t i g n c) →
    ((i : List ℕ) → Away i (ring_of t) → t.store.pages i ≡ d.pages i) →
    ((g : ℕ) → eqb f g ≡ false → d.loans g ≡ b.loans g) →
    count has_bit (ring_of t) + d.colds ≤ d.borrows →
    count has_bit (ring_of t) + count marked (ring_of t) + d.tests ≤ d.borrows →
    Inv d t
inv_change b d s t k f l a v ch w bf pf here others aw em co te = record {
  well = w;
  bytes_fit = bf;
  pages_fit = pf;
  known = λ i g n c p. at i g n c p (eqb f g) refl;
  away = aw;
  empty = λ g h. none g h (eqb f g) refl;
  colds = co;
  tests = te;
}
  where
    u : Unique (ring_of t)
    u = well_unique t.count t.machine w

    at : (i : List ℕ) (g n : ℕ) (c : Bool) → At i g n c (ring_of t) → (x : Bool) → eqb f g ≡ x → Known d t i g n c
    at i g n c p true j =
        let e = eqb-true f g j in
        let q : At k g l a (ring_of t) = subst (λ y. At k y l a (ring_of t)) e ch.came in
        let z = one_frame g k l a i n c (ring_of t) u q p in
        let k1 : Known d t k g l a = subst (λ y. Known d t k y l a) e here in
        let k2 : Known d t i g l a = subst (λ y. Known d t y g l a) z.0 k1 in
        let k3 : Known d t i g n a = subst (λ y. Known d t i g y a) z.1 k2 in
        subst (λ y. Known d t i g n y) z.2 k3
    at i g n c p false j = which (same_list k i) refl
      where
        which : (x : Bool) → same_list k i ≡ x → Known d t i g n c
        which true y =
            let q : At i f l a (ring_of t) = subst (λ z. At z f l a (ring_of t)) (same_list_true k i y) ch.came in
            absurd (eqb-false f g j (one_key i f l a g n c (ring_of t) u q p).0)
        which false y = let q = ch.only i g n c j p in others i g n c j y q (v.known i g n c q)

    none : (g : ℕ) → Empty g (ring_of t) → (x : Bool) → eqb f g ≡ x → d.loans g ≡ 0
    none g h true j = absurd (h k l a (subst (λ y. At k y l a (ring_of t)) (eqb-true f g j) ch.came))
    none g h false j = em g j ∙ v.empty g (λ i n c p. h i n c (ch.stay i g n c j p))
