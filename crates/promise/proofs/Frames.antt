-- Return, alteration and hit: the key in the frame stays.
use Rattle.std.proofs.Common.{◌≡◌, ℕ, ◌+◌, ◌-◌, ◌*◌, ◌≤◌, Bool, true, false, cond, eqb, ltb, List, [], ◌∷◌, length, Some, None, Option, sym, refl, ap, ◌∙◌, subst, arith}
use Rattle.std.proofs.lemmas.Bool.{eq-eqb, ltb-true, lt-ltb, and_parts, cond-true, cond-false}
use Rattle.keys.specs.Same.{same_list}
use Rattle.machine.specs.Entry.{Entry, lies_in, on_page, one, count, first, replaced}
use Rattle.machine.specs.Borrow.{loans_at, carries, repaid, returned, marking}
use Rattle.machine.proofs.Counts.{differ, count-replaced}
use Rattle.keys.proofs.Compare.{same_list_same}
use Rattle.machine.proofs.Laws.{Returned, return_kept, mark_kept}
use Rattle.stores.specs.Parts.{laid}
use Rattle.promise.specs.State.{State, page_size, part, occupant}
use Rattle.stores.specs.Parts.{part_of}
use Rattle.promise.specs.Serves.{Loan, done, good, to_alter, to_return, altered, taken_back}
use Rattle.promise.specs.Book.{Book, laid_in, laid_at, noted}
use Rattle.promise.proofs.Pages.{At, Unique, first_counts, at_frame, frame_at, Turn, Change, turn_change}
use Rattle.stores.proofs.Bytes.{part_same, part_other, laid_fits}
use Rattle.promise.proofs.Invariant.{Inv, ring_of, inv_unique, at_below, away_same, inv_change}

-- one entry is changed in its place
one_counts : (p q : Entry → Bool) (xs : List Entry) (e : Entry) → first p xs ≡ Some e → one (q e) ≤ count q xs
one_counts p q xs e h = go (q e) refl
  where
    go : (b : Bool) → q e ≡ b → one b ≤ count q xs
    go true j = first_counts p q xs e h j
    go false j = omega arith

pub turn_replaced : (p : Entry → Bool) (g : Entry → Entry) (xs : List Entry) (e : Entry) → first p xs ≡ Some e → Turn (Some e) (g e) xs (replaced p (λ d. g d ∷ []) xs)
turn_replaced p g xs e h = record {
  pages = λ q. let x = count-replaced p (on_page q) (λ d. g d ∷ []) xs e h in omega arith;
  there = λ q. one_counts p (on_page q) xs e h;
}

-- a page changes in its loans or its altered mark
pub change_frame : (g : Entry → Entry) (f : ℕ) (xs : List Entry) (e : Entry) → first (lies_in f) xs ≡ Some e → e.frame ≡ Some f → (g e).key ≡ e.key → (g e).frame ≡ e.frame →
    Change e.key f (g e).loans (g e).altered xs (replaced (lies_in f) (λ d. g d ∷ []) xs)
change_frame g f xs e h j k i =
    turn_change e.key f (g e).loans (g e).altered (Some e) (g e) xs (replaced (lies_in f) (λ d. g d ∷ []) xs) (turn_replaced (lies_in f) g xs e h)
    (record { key = k; frame = i ∙ j; loans = refl; altered = refl })
    (λ d q. let z : e ≡ d = cc in subst (λ x. x.frame ≡ Some f) z j)

-- THE LOAN IS GOOD

-- the entry in a frame that carries a loan
pub record Lent (f : ℕ) (s : State) : Type 0 where
  pub entry : Entry
  pub lies : occupant f s ≡ Some entry
  pub frame : entry.frame ≡ Some f
  pub some : 1 ≤ entry.loans

pub carried : (f : ℕ) (s : State) → Unique (ring_of s) → 1 ≤ carries f s.machine → Lent f s
carried f s u h = go (occupant f s) refl h
  where
    go : (o : Option Entry) → occupant f s ≡ o → 1 ≤ loans_at o → Lent f s
    go None j i = absurd (omega arith)
    go (Some e) j i =
        let x = at_frame e.key f e.loans e.altered (ring_of s) u (frame_at f (ring_of s) e j) in
        let x1 = x.1 in let z : x.0 ≡ e = cc in
        record { entry = e; lies = j; frame = subst (λ d. d.frame ≡ Some f) z x.2.frame; some = i }

pub good-carries : (l : Loan) (s : State) → good l s ≡ true → 1 ≤ carries l.frame s.machine
good-carries l s h = ltb-true 0 (carries l.frame s.machine) (and_parts (eqb l.pool s.number) (ltb 0 (carries l.frame s.machine)) h).1

-- A RETURN

pub inv_return : (b : Book) (s : State) (l : Loan) → Inv b s → good l s ≡ true → Inv (noted b (to_return l) done) (taken_back l s)
inv_return b s l v h =
    let f = l.frame in
    let u = inv_unique b s v in
    let c = good-carries l s h in
    let x = carried f s u c in
    let e = x.entry in
    let was : At e.key f e.loans e.altered (ring_of s) = frame_at f (ring_of s) e x.lies in
    let ch = change_frame repaid f (ring_of s) e x.lies x.frame refl refl in
    let k = v.known e.key f e.loans e.altered was in
    let kl = k.loans in
    let ret : Returned s.count s.machine (returned f s.machine) =
    subst (λ y. Returned s.count s.machine (cond y (returned f s.machine) s.machine)) (lt-ltb 0 (carries f s.machine) c) (return_kept s.count f s.machine v.well) in
    let r1 = ret.bits in let r2 = ret.marks in let r3 = v.colds in let r4 = v.tests in
    inv_change b (noted b (to_return l) done) s (taken_back l s) e.key f (e.loans - 1) e.altered v ch ret.well v.bytes_fit v.pages_fit
    (record { same = k.same; held = k.held; clean = k.clean; unsealed = k.unsealed; keys = k.keys; loans = cond-true (eqb f f) (b.loans f - 1) (b.loans f) (eq-eqb f f refl) ∙ ap (λ y. y - 1) kl })
    (λ i g n c d j p q. record { same = q.same; held = q.held; clean = q.clean; unsealed = q.unsealed; keys = q.keys; loans = cond-false (eqb f g) (b.loans g - 1) (b.loans g) d ∙ q.loans })
    (λ i p. let z = away_same e.key f (e.loans - 1) e.loans e.altered e.altered (ring_of s) (ring_of (taken_back l s)) u was ch i p in v.away i z.0)
    (λ g d. cond-false (eqb f g) (b.loans g - 1) (b.loans g) d)
    (omega arith) (omega arith)

-- AN ALTERATION

pub inv_alter : (b : Book) (s : State) (l : Loan) (offset : ℕ) (new : List ℕ) → Inv b s → good l s ≡ true → s.store.is_open ≡ true → offset + length new ≤ page_size s →
    Inv (noted b (to_alter l offset new) done) (altered l offset new s)
inv_alter b s l offset new v h op fits =
    let f = l.frame in
    let u = inv_unique b s v in
    let x = carried f s u (good-carries l s h) in
    let e = x.entry in
    let was : At e.key f e.loans e.altered (ring_of s) = frame_at f (ring_of s) e x.lies in
    let ch = change_frame (marking true) f (ring_of s) e x.lies x.frame refl refl in
    let k = v.known e.key f e.loans e.altered was in
    let below = at_below s.count s.machine e.key f e.loans e.altered v.well was in
    let ret = mark_kept s.count f true s.machine v.well in
    let r1 = ret.bits in let r2 = ret.marks in let r3 = v.colds in let r4 = v.tests in
    let here : part_of (page_size s) (laid (f * page_size s + offset) new s.bytes) f ≡ laid offset new (part s f) = part_same s.count (page_size s) f offset new s.bytes below v.bytes_fit fits in
    let there : (g : ℕ) → eqb f g ≡ false → part_of (page_size s) (laid (f * page_size s + offset) new s.bytes) g ≡ part s g = λ g d. part_other s.count (page_size s) f offset g new s.bytes below v.bytes_fit fits d in
    let key : laid_at (b.keys f) offset new b.pages ≡ laid_at (Some e.key) offset new b.pages = ap (λ y. laid_at y offset new b.pages) k.keys in
    let pages : (i : List ℕ) → same_list e.key i ≡ false → laid_at (b.keys f) offset new b.pages i ≡ b.pages i =
    λ i d. ap (λ y. y i) key ∙ cond-false (same_list e.key i) (laid_in offset new (b.pages i)) (b.pages i) d in
    let mine : laid_at (b.keys f) offset new b.pages e.key ≡ Some (laid offset new (part s f)) =
    ap (λ y. y e.key) key ∙ cond-true (same_list e.key e.key) (laid_in offset new (b.pages e.key)) (b.pages e.key) (same_list_same e.key) ∙ ap (laid_in offset new) k.same in
    inv_change b (noted b (to_alter l offset new) done) s (altered l offset new s) e.key f e.loans true v ch ret.well
    (laid_fits s.count (page_size s) f offset new s.bytes below v.bytes_fit fits) v.pages_fit
    (record { same = mine ∙ ap Some (sym here); held = k.held; clean = λ z. differ true refl z; unsealed = λ _. op; keys = k.keys; loans = k.loans })
    (λ i g n c d j p q. record { same = pages i j ∙ q.same ∙ ap Some (sym (there g d)); held = q.held; clean = λ z. q.clean z ∙ ap Some (sym (there g d)); unsealed = q.unsealed; keys = q.keys; loans = q.loans })
    (λ i p. let z = away_same e.key f e.loans e.loans true e.altered (ring_of s) (ring_of (altered l offset new s)) u was ch i p in v.away i z.0 ∙ sym (pages i z.1))
    (λ g d. refl)
    (omega arith) (omega arith)
