-- Borrowing: a hit, and a fault.
use Rattle.std.proofs.Common.{◌≡◌, ℕ, ◌+◌, ◌*◌, ◌<◌, ◌≤◌, Bool, true, false, eqb, ◌⊎◌, List, [], ◌∷◌, length, is_some, Some, None, Option, sym, refl, ap, ◌∙◌, subst, inl, inr, arith}
use Rattle.std.proofs.lemmas.Bool.{eqb-true, eqb-false, eq-eqb, cond-true, cond-false}
use Rattle.machine.specs.Entry.{Entry, named, lies_in, on_page, one, count, first}
use Rattle.machine.specs.Hands.{Machine}
use Rattle.machine.specs.Borrow.{Outcome, a_hit, a_test_fault, a_cold_fault, Report, granted, lent, hit, entered, enter, key_of, Borrow, hits, test_faults, cold_faults}
use Rattle.machine.specs.Facts.{Well}
use Rattle.machine.proofs.Counts.{differ, first_passes, count-++}
use Rattle.machine.proofs.Runs.{hot_run_eased}
use Rattle.keys.proofs.Compare.{same_list_true}
use Rattle.machine.proofs.Calls.{Borrowed, borrow_kept, room_roomed, recalled_eased, recall_fair, fault_fair}
use Rattle.stores.specs.Meaning.{Meaning}
use Rattle.stores.specs.Parts.{laid}
use Rattle.promise.specs.State.{State, page_size, part, occupant}
use Rattle.stores.specs.Parts.{part_of}
use Rattle.promise.specs.Serves.{loan_of, lends, to_borrow, sent_out, borrowed}
use Rattle.promise.specs.Book.{Book, noted}
use Rattle.promise.proofs.Pages.{At, Away, Unique, well_unique, exactly, passes, first_counts, at_frame, key_at, frame_at, one_key, one_frame, Turn, Change, turn_change}
use Rattle.stores.proofs.Bytes.{part_length, filled_same, filled_other, filled_fits}
use Rattle.promise.proofs.Invariant.{Inv, ring_of, inv_unique, at_below, away_none, away_left, empty_none, at_or_not, away_same, inv_change}
use Rattle.promise.proofs.Frames.{turn_replaced}
use Rattle.promise.proofs.Sent.{sent_size, sent_open, sent_other, sent_here}

-- A HIT

-- the key lies in the frame already, and gets one loan more
pub record Hit (k : List ℕ) (f : ℕ) (s t : List Entry) : Type 0 where
  pub loans : ℕ
  pub mark : Bool
  pub was : At k f loans mark s
  pub change : Change k f (loans + 1) mark s t

pub inv_hit : (b : Book) (s : State) (k : List ℕ) (f : ℕ) (r : Report) (t : Machine) → Inv b s →
    Borrowed s.count s.machine (granted f r) t → Hit k f (ring_of s) t.ring →
    Inv (noted b (to_borrow k) (lends (loan_of f s.number) r)) (record { number = s.number; count = s.count; machine = t; bytes = s.bytes; store = s.store })
inv_hit b s k f r t v w x =
    let u = inv_unique b s v in
    let n = x.loans in let a = x.mark in let ch = x.change in
    let kn = v.known k f n a x.was in let kl = kn.loans in
    let s1 = w.colds_fit in let s2 = w.tests_fit in let s3 = v.colds in let s4 = v.tests in
    inv_change b (noted b (to_borrow k) (lends (loan_of f s.number) r)) s (record { number = s.number; count = s.count; machine = t; bytes = s.bytes; store = s.store })
    k f (n + 1) a v ch w.well v.bytes_fit v.pages_fit
    (record {
      same = kn.same;
      held = kn.held;
      clean = kn.clean;
      unsealed = kn.unsealed;
      keys = cond-true (eqb f f) (Some k) (b.keys f) (eq-eqb f f refl);
      loans = cond-true (eqb f f) (b.loans f + 1) (b.loans f) (eq-eqb f f refl) ∙ ap (λ y. y + 1) kl;
    })
    (λ i g m c d j p q. record {
      same = q.same;
      held = q.held;
      clean = q.clean;
      unsealed = q.unsealed;
      keys = cond-false (eqb f g) (Some k) (b.keys g) d ∙ q.keys;
      loans = cond-false (eqb f g) (b.loans g + 1) (b.loans g) d ∙ q.loans;
    })
    (λ i p. v.away i (away_same k f (n + 1) n a a (ring_of s) t.ring u x.was ch i p).0)
    (λ g d. cond-false (eqb f g) (b.loans g + 1) (b.loans g) d)
    (omega arith) (omega arith)

-- A FAULT

-- the key was nowhere, what lay in the frame had no loan and is the victim, and now the key lies there
pub record Fault (k : List ℕ) (f : ℕ) (sent : Option (List ℕ)) (s t : List Entry) : Type 0 where
  pub victim : sent ≡ key_of (first (lies_in f) s)
  pub new : Away k s
  pub unlent : (i : List ℕ) (n : ℕ) (c : Bool) → At i f n c s → n ≡ 0
  pub change : Change k f 1 false s t

-- the state after it
abbrev pub faulted : ℕ → List ℕ → Machine → State → State
faulted f page t s = record { number = s.number; count = s.count; machine = t; bytes = laid (f * page_size s) page s.bytes; store = sent_out (part s f) (occupant f s) s.store }

-- the book has no loan in that frame
pub fault_unlent : (b : Book) (s : State) (k : List ℕ) (f : ℕ) (t : List Entry) → Inv b s → (o : Option (List ℕ)) → Fault k f o (ring_of s) t → b.loans f ≡ 0
fault_unlent b s k f t v o x = go (occupant f s) refl
  where
    go : (o : Option Entry) → occupant f s ≡ o → b.loans f ≡ 0
    go None h = v.empty f (empty_none f (ring_of s) (inv_unique b s v) h)
    go (Some e) h =
        let p : At e.key f e.loans e.altered (ring_of s) = frame_at f (ring_of s) e h in
        (v.known e.key f e.loans e.altered p).loans ∙ x.unlent e.key e.loans e.altered p

pub inv_fault : (b : Book) (s : State) (k page : List ℕ) (f : ℕ) (r : Report) (t : Machine) → Inv b s → s.store.pages k ≡ Some page →
    Borrowed s.count s.machine (granted f r) t → Fault k f r.victim (ring_of s) t.ring →
    Inv (noted b (to_borrow k) (lends (loan_of f s.number) r)) (faulted f page t s)
inv_fault b s k page f r t v hp w x =
    let u = inv_unique b s v in
    let ch = x.change in
    let below = at_below s.count t k f 1 false w.well ch.came in
    let z : st.size ≡ page_size s = sent_size (part s f) (occupant f s) s.store in
    let lp = v.pages_fit k page hp in
    let here : part_of (page_size s) (laid (f * page_size s) page s.bytes) f ≡ page = filled_same s.count (page_size s) f page s.bytes below v.bytes_fit lp in
    let here2 : part after f ≡ page = ap (λ y. part_of y (laid (f * page_size s) page s.bytes) f) z ∙ here in
    let there : (g : ℕ) → eqb f g ≡ false → part after g ≡ part s g =
    λ g d. ap (λ y. part_of y (laid (f * page_size s) page s.bytes) g) z ∙ filled_other s.count (page_size s) f g page s.bytes below v.bytes_fit lp d in
    let op : st.is_open ≡ s.store.is_open = sent_open (part s f) (occupant f s) s.store in
    let mine : st.pages k ≡ Some page = sent_other (part s f) f (ring_of s) s.store k (λ l a p. x.new f l a p) ∙ hp in
    let booked : b.pages k ≡ Some page = sym (v.away k x.new) ∙ hp in
    let bl = fault_unlent b s k f t.ring v r.victim x in
    let s1 = w.colds_fit in let s2 = w.tests_fit in let s3 = v.colds in let s4 = v.tests in
    inv_change b (noted b (to_borrow k) (lends (loan_of f s.number) r)) s after
    k f 1 false v ch w.well
    (filled_fits s.count (page_size s) f page s.bytes below v.bytes_fit lp ∙ ap (λ y. s.count * y) (sym z))
    (λ i pg h. fit i pg h below (at_or_not i f (ring_of s) u) ∙ sym z)
    (record {
      same = booked ∙ ap Some (sym here2);
      held = ap is_some mine;
      clean = λ _. mine ∙ ap Some (sym here2);
      unsealed = λ h. differ false h refl;
      keys = cond-true (eqb f f) (Some k) (b.keys f) (eq-eqb f f refl);
      loans = cond-true (eqb f f) (b.loans f + 1) (b.loans f) (eq-eqb f f refl) ∙ ap (λ y. y + 1) bl;
    })
    (λ i g n c d j p q.
    let o : st.pages i ≡ s.store.pages i = sent_other (part s f) f (ring_of s) s.store i (λ l a y. eqb-false f g d (one_key i f l a g n c (ring_of s) u y p).0) in
    record {
      same = q.same ∙ ap Some (sym (there g d));
      held = ap is_some o ∙ q.held;
      clean = λ h. o ∙ q.clean h ∙ ap Some (sym (there g d));
      unsealed = λ h. op ∙ q.unsealed h;
      keys = cond-false (eqb f g) (Some k) (b.keys g) d ∙ q.keys;
      loans = cond-false (eqb f g) (b.loans g + 1) (b.loans g) d ∙ q.loans;
    })
    (λ i p. gone i p (at_or_not i f (ring_of s) u))
    (λ g d. cond-false (eqb f g) (b.loans g + 1) (b.loans g) d)
    (omega arith) (omega arith)
  where
    after : State
    after = faulted f page t s

    st : Meaning
    st = sent_out (part s f) (occupant f s) s.store

    -- a key that lay in the frame has its page in the store now
    out : (i : List ℕ) (l : ℕ) (a : Bool) → At i f l a (ring_of s) → st.pages i ≡ Some (part s f)
    out i l a p = sent_here (part s f) f (ring_of s) s.store i l a (inv_unique b s v) p (λ h. (v.known i f l a p).clean h)

    fit : (i pg : List ℕ) → st.pages i ≡ Some pg → f < s.count → ((l : ℕ) × (a : Bool) × At i f l a (ring_of s)) ⊎ ((l : ℕ) (a : Bool) → At i f l a (ring_of s) → ⊥) → length pg ≡ page_size s
    fit i pg h below (inl y) = let o = out i y.0 y.1 y.2 in let e : part s f ≡ pg = cc in ap length (sym e) ∙ part_length s.count (page_size s) f s.bytes below v.bytes_fit
    fit i pg h below (inr y) = v.pages_fit i pg (sym (sent_other (part s f) f (ring_of s) s.store i y) ∙ h)

    gone : (i : List ℕ) → Away i t.ring → ((l : ℕ) × (a : Bool) × At i f l a (ring_of s)) ⊎ ((l : ℕ) (a : Bool) → At i f l a (ring_of s) → ⊥) → st.pages i ≡ b.pages i
    gone i p (inl y) = out i y.0 y.1 y.2 ∙ sym (v.known i f y.0 y.1 y.2).same
    gone i p (inr y) = sent_other (part s f) f (ring_of s) s.store i y ∙ v.away i (λ g l a q. still g l a q (eqb f g) refl)
      where
        still : (g l : ℕ) (a : Bool) → At i g l a (ring_of s) → (c : Bool) → eqb f g ≡ c → ⊥
        still g l a q true h = y l a (subst (λ j. At i j l a (ring_of s)) (sym (eqb-true f g h)) q)
        still g l a q false h = p g l a (x.change.stay i g l a h q)

-- FROM THE MACHINE'S BORROW

-- what lies in the frame is what goes, and it has no loan
turn_unlent : (f : ℕ) (goes : Option Entry) (comes : Entry) (s t : List Entry) → Turn goes comes s t → Unique s → Unique t → comes.frame ≡ Some f →
    ((e : Entry) → goes ≡ Some e → e.frame ≡ Some f) → ((e : Entry) → goes ≡ Some e → e.loans ≡ 0) →
    (i : List ℕ) (n : ℕ) (c : Bool) → At i f n c s → n ≡ 0
turn_unlent f None comes s t w us ut cf h l i n c p =
    let x = at_frame i f n c s us p in
    let y = first_counts (lies_in f) (lies_in f) s x.0 x.1 (first_passes (lies_in f) s x.0 x.1) in
    let z : count (lies_in f) t + 0 ≡ count (lies_in f) s + one (lies_in f comes) = w.pages (λ _ g _ _. eqb f g) in
    let q = ut.frames f in
    let o : one (lies_in f comes) ≡ 1 = rw cf (ap one (eq-eqb f f refl)) in
    absurd (omega arith)
turn_unlent f (Some e) comes s t w us ut cf h l i n c p =
    let y = w.there (exactly e.key f 0 e.altered) in
    let z : one (on_page (exactly e.key f 0 e.altered) e) ≡ 1 = ap one (passes e.key f 0 e.altered e (record { key = refl; frame = h e refl; loans = l e refl; altered = refl })) in
    let q : At e.key f 0 e.altered s = record { counted = omega arith } in
    sym (one_frame f e.key 0 e.altered i n c s us q p).1

-- what a granted borrow is, by its outcome
abbrev pub Way : List ℕ → ℕ → Outcome → Option (List ℕ) → List Entry → List Entry → Type 0
Way k f a_hit o s t = Hit k f s t
Way k f a_test_fault o s t = Fault k f o s t
Way k f a_cold_fault o s t = Fault k f o s t

-- what goes is what lay in the frame
turn_victim : (f : ℕ) (goes : Option Entry) (comes : Entry) (s t : List Entry) → Turn goes comes s t → Unique s → Unique t → comes.frame ≡ Some f →
    ((e : Entry) → goes ≡ Some e → e.frame ≡ Some f) → key_of goes ≡ key_of (first (lies_in f) s)
turn_victim f None comes s t w us ut cf h = go (first (lies_in f) s) refl
  where
    go : (o : Option Entry) → first (lies_in f) s ≡ o → None ≡ key_of o
    go None j = refl
    go (Some e) j =
        let y = first_counts (lies_in f) (lies_in f) s e j (first_passes (lies_in f) s e j) in
        let z : count (lies_in f) t + 0 ≡ count (lies_in f) s + one (lies_in f comes) = w.pages (λ _ g _ _. eqb f g) in
        let q = ut.frames f in
        let o : one (lies_in f comes) ≡ 1 = rw cf (ap one (eq-eqb f f refl)) in
        absurd (omega arith)
turn_victim f (Some e) comes s t w us ut cf h =
    let y = w.there (exactly e.key f e.loans e.altered) in
    let z : one (on_page (exactly e.key f e.loans e.altered) e) ≡ 1 = ap one (passes e.key f e.loans e.altered e (record { key = refl; frame = h e refl; loans = refl; altered = refl })) in
    let x = at_frame e.key f e.loans e.altered s us (record { counted = omega arith }) in
    sym (ap key_of x.1 ∙ ap Some x.2.key)

turn_fault : (k : List ℕ) (f : ℕ) (h : Bool) (v : Option Entry) (s t : List Entry) → Unique s → Unique t → Away k s → Turn v (entered k h f) s t →
    ((e : Entry) → v ≡ Some e → e.frame ≡ Some f) → ((e : Entry) → v ≡ Some e → e.loans ≡ 0) → Fault k f (key_of v) s t
turn_fault k f h v s t us ut aw w lies unlent = record {
  victim = turn_victim f v (entered k h f) s t w us ut refl lies;
  new = aw;
  unlent = turn_unlent f v (entered k h f) s t w us ut refl lies unlent;
  change = turn_change k f 1 false v (entered k h f) s t w (record { key = refl; frame = refl; loans = refl; altered = refl }) lies;
}

hit_way : (k : List ℕ) (x : Machine) (e : Entry) (f : ℕ) (t : List Entry) → first (named k) x.ring ≡ Some e → e.frame ≡ Some f → Turn (Some e) (lent e) x.ring t → Hit k f x.ring t
hit_way k x e f t j i w =
    let n : e.key ≡ k = sym (same_list_true k e.key (first_passes (named k) x.ring e j)) in
    record {
      loans = e.loans;
      mark = e.altered;
      was = key_at k f x.ring e j i;
      change = turn_change k f (e.loans + 1) e.altered (Some e) (lent e) x.ring t w (record { key = n; frame = i; loans = refl; altered = refl })
          (λ d q. let z : e ≡ d = cc in subst (λ y. y.frame ≡ Some f) z i);
    }

pub borrow_way : (m : ℕ) (k : List ℕ) {s : Machine} {f : ℕ} {r : Report} {t : Machine} → Borrow m k s (granted f r) t → Well m s → Way k f r.outcome r.victim s.ring t.ring
borrow_way m k (hits {s = x} {e = e} {f = f} h j i) w = hit_way k x e f (hit k x).ring j i (turn_replaced (named k) lent x.ring e j)
borrow_way m k (test_faults {s = x} {r = r} {t = t} {e = e} {f = f} {v = v} q j i o u) w =
    let a = recalled_eased m k x e j i in
    let b = a.mids None w.mid in let c = b.memory in
    let d = room_roomed m o b (omega arith) (λ y. let z = recall_fair m k x e q j i y in let z' = a.idles in omega arith) in
    let us = well_unique m x w in
    let ut = well_unique m t (borrow_kept m k (test_faults q j i o u) w).well in
    turn_fault k f true v x.ring t.ring us ut (away_left k x.ring e us j i)
    (record {
      pages = λ p. let x1 = (hot_run_eased m u).pages p in let x2 = count-++ (on_page p) r.ring (entered k true f ∷ []) in let x3 = d.pages p in let x4 = a.pages p in omega arith;
      there = λ p. let x3 = d.pages p in let x4 = a.pages p in omega arith;
    }) d.lies d.unlent
borrow_way m k (cold_faults {s = x} {r = r} {f = f} {v = v} q j o) w =
    let c = w.mid.memory in
    let d = room_roomed m o w.mid (omega arith) (fault_fair m k x q j) in
    let us = well_unique m x w in
    let ut = well_unique m (enter k false f r) (borrow_kept m k (cold_faults q j o) w).well in
    turn_fault k f false v x.ring (enter k false f r).ring us ut (away_none k x.ring us j)
    (record {
      pages = λ p. let x2 = count-++ (on_page p) r.ring (entered k false f ∷ []) in let x3 = d.pages p in omega arith;
      there = λ p. let x3 = d.pages p in omega arith;
    }) d.lies d.unlent

-- The invariant after a granted borrow, and what it says of a frame that carries a loan.
pub record Granted (b : Book) (s : State) (k : List ℕ) (f : ℕ) (r : Report) (t : State) : Type 0 where
  pub inv : Inv (noted b (to_borrow k) (lends (loan_of f s.number) r)) t
  pub keeps : 1 ≤ b.loans f → b.keys f ≡ Some k

by_hit : (b : Book) (s : State) (k : List ℕ) (f : ℕ) (r : Report) (t : Machine) → Inv b s →
    Borrowed s.count s.machine (granted f r) t → Hit k f (ring_of s) t.ring →
    Granted b s k f r (record { number = s.number; count = s.count; machine = t; bytes = s.bytes; store = s.store })
by_hit b s k f r t v w x = record { inv = inv_hit b s k f r t v w x; keeps = λ _. (v.known k f x.loans x.mark x.was).keys }

by_fault : (b : Book) (s : State) (k page : List ℕ) (f : ℕ) (r : Report) (t : Machine) → Inv b s → s.store.pages k ≡ Some page →
    Borrowed s.count s.machine (granted f r) t → Fault k f r.victim (ring_of s) t.ring → Granted b s k f r (faulted f page t s)
by_fault b s k page f r t v hp w x = record { inv = inv_fault b s k page f r t v hp w x; keeps = λ h. let z = fault_unlent b s k f t.ring v r.victim x in absurd (omega arith) }

pub inv_borrow : (b : Book) (s : State) (k page : List ℕ) (f : ℕ) (r : Report) (t : Machine) → Inv b s → s.store.pages k ≡ Some page →
    Borrow s.count k s.machine (granted f r) t → Granted b s k f r (borrowed r.outcome f page t s)
inv_borrow b s k page f r t v hp w = go r.outcome (borrow_way s.count k w v.well)
  where
    d : Borrowed s.count s.machine (granted f r) t
    d = borrow_kept s.count k w v.well

    go : (o : Outcome) → Way k f o r.victim (ring_of s) t.ring → Granted b s k f r (borrowed o f page t s)
    go a_hit x = by_hit b s k f r t v d x
    go a_test_fault x = by_fault b s k page f r t v hp d x
    go a_cold_fault x = by_fault b s k page f r t v hp d x
