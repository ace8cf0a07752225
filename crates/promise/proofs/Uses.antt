-- One call from the standing facts alone, any history, and the store in a call.
use Rattle.std.proofs.Common.{◌≡◌, ℕ, zero, suc, ◌*◌, ◌<◌, ◌≤◌, Bool, true, false, cond, eqb, ◌⊎◌, List, [], ◌∷◌, ◌++◌, map, take, drop, is_some, Some, None, Option, sym, refl, ap, ◌∙◌, subst, ap₂, inl, inr, arith}
use Rattle.std.proofs.lemmas.List.{append-nil, append_assoc}
use Rattle.std.proofs.lemmas.Bool.{eq-eqb, cases_lt, cond-true, cond-false}
use Rattle.machine.specs.Entry.{Entry, named, first}
use Rattle.machine.specs.Hands.{Machine}
use Rattle.machine.specs.Borrow.{Outcome, a_hit, a_test_fault, a_cold_fault, Report, loans_at, key_of, carries}
use Rattle.machine.specs.Facts.{Well}
use Rattle.machine.proofs.Counts.{differ}
use Rattle.machine.proofs.Calls.{borrow_kept}
use Rattle.stores.specs.Parts.{laid}
use Rattle.promise.specs.State.{State, Opening, begun, page_size, part, occupant, holds, page_in, page_at}
use Rattle.stores.specs.declared.faults.Layer.{Layer}
use Rattle.promise.specs.Serves.{Loan, Request, to_borrow, to_view, to_alter, to_return, to_flush, Call, Answer, lends, denied, by_pool, done, good, asked, sent_out, borrowed, Does, borrows, views, alters, returns, flushes, store_after, written_below, Serves, grants}
use Rattle.promise.specs.Serves as serves
use Rattle.promise.specs.Book.{Event, event, noted, book}
use Rattle.promise.specs.Facts.{Facts}
use Rattle.promise.specs.Promise.{Reaches, opens, goes_on, Lasts, Lasting}
use Rattle.promise.specs.Uses.{seen, OneStep, Carrying, Led, Limits, Owed, Session, ends, next, Whole, is_fault, Storing}
use Rattle.promise.proofs.Pages.{At, Away, Empty, Unique, well_unique, at_key, at_frame, key_at, frame_at, one_key}
use Rattle.stores.proofs.Bytes.{part_length}
use Rattle.promise.proofs.Invariant.{Inv, ring_of, inv_unique, inv_sound, inv_facts, at_below, at_or_not, at_or_away}
use Rattle.promise.proofs.Sent.{sent_size, sent_open, sent_other, sent_here}
use Rattle.promise.proofs.Lend.{Way, borrow_way}
use Rattle.promise.proofs.Flush.{written_size, written_open, written_other, written_here}
use Rattle.promise.proofs.Histories.{serves_inv, serves_kept, reaches_inv, one_answer}

-- ONE CALL

pub facts_inv : (s : State) → Facts s → Inv (seen s) s
facts_inv s v = record {
  well = v.well;
  bytes_fit = v.bytes_fit;
  pages_fit = v.pages_fit;
  known = λ k f l a p.
      let x = at_frame k f l a (ring_of s) u p in let y = at_key k f l a (ring_of s) u p in
      let e = x.0 in let i = x.2 in
      record {
        same = ap (page_at s k) y.1 ∙ ap (page_in s k) y.2.frame;
        held = subst (λ j. is_some (s.store.pages j) ≡ true) i.key (v.held f e x.1);
        clean = λ h. subst (λ j. s.store.pages j ≡ Some (part s f)) i.key (v.clean f e x.1 (i.altered ∙ h));
        unsealed = λ h. v.unsealed f e x.1 (i.altered ∙ h);
        keys = ap key_of x.1 ∙ ap Some i.key;
        loans = ap loans_at x.1 ∙ i.loans;
      };
  away = λ k h. gone k h (first (named k) (ring_of s)) refl;
  empty = λ f h. bare f h (occupant f s) refl;
  colds = omega arith;
  tests = omega arith;
}
  where
    u : Unique (ring_of s)
    u = well_unique s.count s.machine v.well

    gone : (k : List ℕ) → Away k (ring_of s) → (o : Option Entry) → first (named k) (ring_of s) ≡ o → s.store.pages k ≡ page_at s k o
    gone k h None j = refl
    gone k h (Some e) j = at e.frame refl
      where
        at : (o : Option ℕ) → e.frame ≡ o → s.store.pages k ≡ page_in s k o
        at None i = refl
        at (Some f) i = absurd (h f e.loans e.altered (key_at k f (ring_of s) e j i))

    bare : (f : ℕ) → Empty f (ring_of s) → (o : Option Entry) → occupant f s ≡ o → loans_at o ≡ 0
    bare f h None j = refl
    bare f h (Some e) j = absurd (h e.key e.loans e.altered (frame_at f (ring_of s) e j))

pub one_step : OneStep
one_step = record {
  facts = λ c s t a v d. inv_facts (noted (seen s) c.request a) t (serves_inv c (seen s) d (facts_inv s v));
  sound = λ c s t a v d. inv_sound (noted (seen s) c.request a) t (serves_inv c (seen s) d (facts_inv s v));
  kept = λ c s t a v d. serves_kept c (seen s) d (facts_inv s v);
  returning = λ s l h. grants (free s l h) returns;
}
  where
    free : (s : State) (l : Loan) → good l s ≡ true →
        cond {A = Option Answer} (eqb (s.count * page_size s) (s.count * page_size s)) (cond (eqb (2 * s.count) (2 * s.count)) (cond (good l s) None (Some (denied by_pool 12))) (Some (denied by_pool 4))) (Some (denied by_pool 3)) ≡ None
    free s l h = rw (eq-eqb (s.count * page_size s) (s.count * page_size s) refl, eq-eqb (2 * s.count) (2 * s.count) refl, h) refl

-- the loans after a call are those of the book
pub loans_after : (c : Call) (q : Request) (s t : State) (a : Answer) → Facts s → c.request ≡ q → Serves c s a t → (f : ℕ) → carries f t.machine ≡ (noted (seen s) q a).loans f
loans_after c q s t a v h d f = subst (λ x. carries f t.machine ≡ (noted (seen s) x a).loans f) h ((one_step.sound c s t a v d).loans f)

not_denied : {q : Request} {s t : State} {a : Answer} → Does q s a t → (y : Layer) (n : ℕ) → a ≡ denied y n → t ≡ s
not_denied (borrows p w) y n h = let z : ◌≡◌ {A = ℕ} 0 1 = cc in absurd (omega arith)
not_denied views y n h = refl
not_denied alters y n h = let z : ◌≡◌ {A = ℕ} 0 1 = cc in absurd (omega arith)
not_denied returns y n h = let z : ◌≡◌ {A = ℕ} 0 1 = cc in absurd (omega arith)
not_denied flushes y n h = let z : ◌≡◌ {A = ℕ} 0 1 = cc in absurd (omega arith)

denied_same : {s t : State} {a : Answer} (c : Call) → Serves c s a t → (y : Layer) (n : ℕ) → a ≡ denied y n → t ≡ s
denied_same c (serves.refuses h) y n j = refl
denied_same c (grants h d) y n j = not_denied d y n j

view_same : {q : Request} {s t : State} {a : Answer} (l : Loan) → Does q s a t → q ≡ to_view l → t ≡ s
view_same l (borrows p w) h = let z : ◌≡◌ {A = ℕ} 0 1 = cc in absurd (omega arith)
view_same l views h = refl
view_same l alters h = let z : ◌≡◌ {A = ℕ} 0 1 = cc in absurd (omega arith)
view_same l returns h = let z : ◌≡◌ {A = ℕ} 0 1 = cc in absurd (omega arith)
view_same l flushes h = let z : ◌≡◌ {A = ℕ} 0 1 = cc in absurd (omega arith)

viewed_same : {s t : State} {a : Answer} (c : Call) (l : Loan) → Serves c s a t → c.request ≡ to_view l → t ≡ s
viewed_same c l (serves.refuses h) j = refl
viewed_same c l (grants h d) j = view_same l d j

pub carrying : Carrying
carrying = record {
  lent = λ c s t k l r v h d f. loans_after c (to_borrow k) s t (lends l r) v h d f;
  returned = λ c s t l v h d f. loans_after c (to_return l) s t done v h d f;
  altered = λ c s t l offset new v h d f. loans_after c (to_alter l offset new) s t done v h d f;
  flushed = λ c s t a v h d f. loans_after c to_flush s t a v h d f;
  viewed = λ c s t l a h d. viewed_same c l d h;
  denying = λ c s t y n d. denied_same c d y n refl;
  misfit_bytes = λ c s h. serves.refuses (cond-false (eqb c.bytes (s.count * page_size s)) (cond (eqb c.cells (2 * s.count)) (asked c.request s) (Some (denied by_pool 4))) (Some (denied by_pool 3)) h);
  misfit_cells = λ c s h j. serves.refuses
      (cond-true (eqb c.bytes (s.count * page_size s)) (cond (eqb c.cells (2 * s.count)) (asked c.request s) (Some (denied by_pool 4))) (Some (denied by_pool 3)) h
      ∙ cond-false (eqb c.cells (2 * s.count)) (asked c.request s) (Some (denied by_pool 4)) j);
}

-- A LIST OF CALLS

session_always : (calls : List Call) (s : State) → Facts s → (es : List Event) × (t : State) × Session s es t × (map (λ e. e.call) es ≡ calls)
session_always [] s v = ([], s, ends, refl)
session_always (c ∷ rest) s v =
    let x = one_answer.always c s v in
    let y = session_always rest x.1 (one_step.facts c s x.1 x.0 v x.2) in
    (event c x.0 ∷ y.0, y.1, next x.2 y.2, ap (λ r. c ∷ r) y.3)

session_only : {s t u : State} {es ds : List Event} → Session s es t → Session s ds u → map (λ e. e.call) es ≡ map (λ e. e.call) ds → (es ≡ ds) × (t ≡ u)
session_only ends ends h = (refl, refl)
session_only ends (next d y) h = let z : ◌≡◌ {A = ℕ} 0 1 = cc in absurd (omega arith)
session_only (next d x) ends h = let z : ◌≡◌ {A = ℕ} 0 1 = cc in absurd (omega arith)
session_only (next {s = s} {r = r} {t = t} {c = c} {a = a} {rest = es} d x) (next {r = q} {c = b} {a = g} {rest = ds} e y) h =
    let k : c ≡ b = cc in
    let l : map (λ e. e.call) es ≡ map (λ e. e.call) ds = cc in
    let e2 : Serves c s g q = subst (λ z. Serves z s g q) (sym k) e in
    let m = one_answer.only c s r q a g d e2 in
    let w = session_only (subst (λ z. Session z es t) m.1 x) y l in
    (ap₂ (λ u v. u ∷ v) (ap₂ event k m.0) w.0, w.1)

prefix : (o : Opening) (h : List Event) {s t : State} {es : List Event} → Reaches o h s → Session s es t →
    (n : ℕ) → (r : State) × Session s (take n es) r × Session r (drop n es) t × Reaches o (h ++ take n es) r
prefix o h {s} r x zero = (s, ends, x, subst (λ y. Reaches o y s) (sym (append-nil h)) r)
prefix o h {s} r ends (suc n) = (s, ends, ends, subst (λ y. Reaches o y s) (sym (append-nil h)) r)
prefix o h r (next {c = c} {a = a} {rest = es} d x) (suc n) =
    let y = prefix o (h ++ (event c a ∷ [])) (goes_on r d) x n in
    (y.0, next d y.1, y.2, subst (λ z. Reaches o z y.0) (append_assoc h (event c a ∷ []) (take n es)) y.3)

pub whole : Whole
whole = record {
  always = session_always;
  only = λ s t u es ds x y h. session_only x y h;
  prefixes = λ o h s t es r x n. let y = prefix o h r x n in (y.0, y.1, y.2, (y.3, inv_sound (book o (h ++ take n es)) y.0 (reaches_inv o y.3)));
}

-- THE STORE IN A CALL, AND WHAT LASTS

-- a flush leaves the set of held keys
flush_holds : (s : State) (n : ℕ) (k : List ℕ) → Facts s → is_some ((written_below n s).pages k) ≡ is_some (s.store.pages k)
flush_holds s n k v = go (at_or_away k (ring_of s) (inv_unique (seen s) s w))
  where
    w : Inv (seen s) s
    w = facts_inv s v

    go : ((f l : ℕ) × (a : Bool) × At k f l a (ring_of s)) ⊎ Away k (ring_of s) → is_some ((written_below n s).pages k) ≡ is_some (s.store.pages k)
    go (inr y) = ap is_some (written_other n s k (λ f l a j p. y f l a p))
    go (inl (f, l, a, p)) = which (cases_lt f n)
      where
        which : (f < n) ⊎ (n ≤ f) → is_some ((written_below n s).pages k) ≡ is_some (s.store.pages k)
        which (inl j) = ap is_some (written_here (seen s) n s w k f l a j p) ∙ sym (w.known k f l a p).held
        which (inr j) = ap is_some (written_other n s k (λ g x y d q. let z = (one_key k f l a g x y (ring_of s) (inv_unique (seen s) s w) p q).0 in omega arith))

-- and so does a write of what lay in a frame
sent_holds : (s : State) (f : ℕ) (k : List ℕ) → Facts s → is_some ((sent_out (part s f) (occupant f s) s.store).pages k) ≡ is_some (s.store.pages k)
sent_holds s f k v = go (at_or_not k f (ring_of s) u)
  where
    w : Inv (seen s) s
    w = facts_inv s v

    u : Unique (ring_of s)
    u = inv_unique (seen s) s w

    go : ((l : ℕ) × (a : Bool) × At k f l a (ring_of s)) ⊎ ((l : ℕ) (a : Bool) → At k f l a (ring_of s) → ⊥) → is_some ((sent_out (part s f) (occupant f s) s.store).pages k) ≡ is_some (s.store.pages k)
    go (inl (l, a, p)) = ap is_some (sent_here (part s f) f (ring_of s) s.store k l a u p (w.known k f l a p).clean) ∙ sym (w.known k f l a p).held
    go (inr y) = ap is_some (sent_other (part s f) f (ring_of s) s.store k y)

lasts_same : (s : State) → Lasts s s
lasts_same s = record { number = refl; count = refl; size = refl; is_open = refl; held = λ k. refl }

lasts_more : (s t r : State) → Lasts s t → Lasts t r → Lasts s r
lasts_more s t r x y = record { number = y.number ∙ x.number; count = y.count ∙ x.count; size = y.size ∙ x.size; is_open = y.is_open ∙ x.is_open; held = λ k. y.held k ∙ x.held k }

does_lasts : {q : Request} {s t : State} {a : Answer} → Does q s a t → Facts s → Lasts s t
does_lasts (borrows {s = s} {page = page} {f = f} {r = r} {t = t} p w) v = go r.outcome
  where
    fault : Lasts s (record { number = s.number; count = s.count; machine = t; bytes = laid (f * page_size s) page s.bytes; store = sent_out (part s f) (occupant f s) s.store })
    fault = record { number = refl; count = refl; size = sent_size (part s f) (occupant f s) s.store; is_open = sent_open (part s f) (occupant f s) s.store; held = λ k. sent_holds s f k v }

    go : (o : Outcome) → Lasts s (borrowed o f page t s)
    go a_hit = record { number = refl; count = refl; size = refl; is_open = refl; held = λ k. refl }
    go a_test_fault = fault
    go a_cold_fault = fault
does_lasts (views {s = s}) v = lasts_same s
does_lasts alters v = record { number = refl; count = refl; size = refl; is_open = refl; held = λ k. refl }
does_lasts returns v = record { number = refl; count = refl; size = refl; is_open = refl; held = λ k. refl }
does_lasts (flushes {s = s}) v = record { number = refl; count = refl; size = written_size s.count s; is_open = written_open s.count s; held = λ k. flush_holds s s.count k v }

pub serves_lasts : {s t : State} {a : Answer} (c : Call) → Serves c s a t → Facts s → Lasts s t
serves_lasts c (serves.refuses {s = s} h) v = lasts_same s
serves_lasts c (grants h d) v = does_lasts d v

reaches_lasts : (o : Opening) {h : List Event} {s : State} → Reaches o h s → Lasts (begun o) s
reaches_lasts o opens = lasts_same (begun o)
reaches_lasts o (goes_on {h = h} {s = s} {t = t} {c = c} r d) = lasts_more (begun o) s t (reaches_lasts o r) (serves_lasts c d (inv_facts (book o h) s (reaches_inv o r)))

pub lasting : Lasting
lasting o h s r = reaches_lasts o r

-- ANY HISTORY

-- what opening has asked for stays so
limits_of : (o : Opening) (s : State) → Lasts (begun o) s → Limits s
limits_of o s x =
    let e = x.size in let d = x.count in
    let a = o.size_low in let b = o.size_high in let c = o.count_low in let f = o.count_high in
    record { size_low = omega arith; size_high = omega arith; count_low = omega arith; count_high = omega arith }

pub owed : Owed
unfolding Led
owed = record {
  begins = λ o. (o, [], opens);
  facts = λ s l. inv_facts (book l.0 l.1) s (reaches_inv l.0 l.2);
  limits = λ s l. limits_of l.0 s (reaches_lasts l.0 l.2);
  served = λ c s t a l d. record {
    serves = d;
    led = (l.0, l.1 ++ (event c a ∷ []), goes_on l.2 d);
    history = λ o h r. let q = goes_on r d in (q, inv_sound (book o (h ++ (event c a ∷ []))) t (reaches_inv o q));
    kept = λ o h r. serves_kept c (book o h) d (reaches_inv o r);
  };
}

pub storing : Storing
storing = record {
  victim = λ s k f r t v w h. who s k f r t r.outcome (borrow_way s.count k w v.well) h;
  reading = λ s k f r t v w. reads s k f r.victim t r.outcome (borrow_way s.count k w v.well);
  framed = λ s k f r t v w. lies s k f r.victim t r.outcome (borrow_way s.count k w v.well) v.well (borrow_kept s.count k w v.well).well;
  sized = λ s f e v h.
      let b = at_below s.count s.machine e.key f e.loans e.altered v.well (frame_at f (ring_of s) e h) in
      (b, part_length s.count (page_size s) f s.bytes b v.bytes_fit);
  size = λ s n. written_size n s;
  opens = λ s n. written_open n s;
  holding = flush_holds;
}
  where
    who : (s : State) (k : List ℕ) (f : ℕ) (r : Report) (t : Machine) (o : Outcome) → Way k f o r.victim (ring_of s) t.ring → is_fault o ≡ true → r.victim ≡ holds f s
    who s k f r t a_hit x h = differ false h refl
    who s k f r t a_test_fault x h = x.victim
    who s k f r t a_cold_fault x h = x.victim

    lies : (s : State) (k : List ℕ) (f : ℕ) (n : Option (List ℕ)) (t : Machine) (o : Outcome) → Way k f o n (ring_of s) t.ring → Well s.count s.machine → Well s.count t → f < s.count
    lies s k f n t a_hit x w u = at_below s.count s.machine k f x.loans x.mark w x.was
    lies s k f n t a_test_fault x w u = at_below s.count t k f 1 false u x.change.came
    lies s k f n t a_cold_fault x w u = at_below s.count t k f 1 false u x.change.came

    reads : (s : State) (k : List ℕ) (f : ℕ) (n : Option (List ℕ)) (t : Machine) (o : Outcome) → Way k f o n (ring_of s) t.ring → (store_after o f s).pages k ≡ s.store.pages k
    reads s k f n t a_hit x = refl
    reads s k f n t a_test_fault x = sent_other (part s f) f (ring_of s) s.store k (λ l a p. x.new f l a p)
    reads s k f n t a_cold_fault x = sent_other (part s f) f (ring_of s) s.store k (λ l a p. x.new f l a p)
