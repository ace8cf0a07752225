-- From the ring's answer to a borrow to what the pool does with the pages.
use Rattle.std.proofs.Common.{◌≡◌, ℕ, ◌+◌, ◌*◌, ◌≤◌, true, false, cond, List, [], is_some, Some, None, Option, unwrap_or, option_map, sym, refl, ap, ◌∙◌, subst, ap₂}
use Rattle.machine.specs.Entry.{Entry}
use Rattle.machine.specs.Hands.{Machine, Steps}
use Rattle.machine.specs.Borrow as rules
use Rattle.machine.specs.Borrow.{Report, granted, refused, Borrow, refusal, key_of, altered_at, hits, test_faults, cold_faults}
use Rattle.machine.proofs.Counts.{none_some}
use Rattle.stores.specs.Meaning.{Meaning, held, page_of, with_page}
use Rattle.stores.specs.Parts.{part_of, laid}
use Rattle.ring.specs.Answering.{victim_key, told, WrittenAt}
use Rattle.ring.specs.declared.hands.Victim.{Victim}
use Rattle.records.specs.declared.answers.Outcome.{Outcome}
use Rattle.records.specs.declared.answers.Outcome.TheVariants.{Hit, TestFault, ColdFault}
use Rattle.records.specs.declared.answers.Refusal.{Refusal}
use Rattle.records.specs.declared.answers.Refusal.TheVariants.{TooManyLoans, NoFrame}
use Rattle.promise.specs.State.{State, part, occupant, holds}
use Rattle.promise.specs.Serves as serves
use Rattle.promise.specs.Serves.{Answer, lends, loan_of, denied, by_pool, by_store, to_borrow, by_machine, asked_borrow, asked, sent_out, borrows, Serves}
use Rattle.promise.specs.Facts.{Facts}
use Rattle.stores.proofs.Bytes.{row}
use Rattle.promise.proofs.Uses.{storing}
use Rattle.records.specs.Reading.{steps_of, outcome_of, number_of, keyed}
use Rattle.records.specs.declared.answers.Granted.{Granted}
use Rattle.pool.specs.Faults.{denial, from_ring}
use Rattle.records.specs.declared.answers.Report as pool
use Rattle.pool.specs.Moving.{Takes, sent_by, TakesAfter, sent_after, filled_after}
use Rattle.pool.specs.Asked.{Holding, state, sizes_of}
use Rattle.pool.specs.Reading.{call_of, report_in}
use Rattle.pool.proofs.Sizes.{refused_served, granted_served}

pub denial_ring : (e : Refusal) → denial (from_ring e) ≡ denied by_pool (number_of e)
denial_ring TooManyLoans = refl
denial_ring NoFrame = refl

why_granted : (m : ℕ) (k : List ℕ) {s t : Machine} {f : ℕ} {r : Report} → Borrow m k s (granted f r) t → refusal m k s ≡ None
why_granted m k (hits h j i) = h
why_granted m k (test_faults h j i o u) = h
why_granted m k (cold_faults h j o) = h

why_refused : (m : ℕ) (k : List ℕ) {s t : Machine} {n : ℕ} → Borrow m k s (refused n) t → (refusal m k s ≡ Some n) × (t ≡ s)
why_refused m k (rules.refuses h) = (h, refl)

some_page : (o : Option (List ℕ)) → is_some o ≡ true → o ≡ Some (unwrap_or o [])
some_page None h = absurd cc
some_page (Some x) h = refl

no_page : (o : Option (List ℕ)) → is_some o ≡ false → o ≡ None
no_page None h = refl
no_page (Some x) h = absurd cc

-- 9
pub unheld_served : {K : Type 0} (meaning : K → List ℕ) (k : List ℕ) (h : Holding K) → sizes_of h ≡ None → held h.store k ≡ false →
    Serves (call_of (to_borrow k) h.frames h.cells) (state meaning h) (denied by_store 9) (state meaning h)
unheld_served meaning k h e i = refused_served meaning (to_borrow k) h (denied by_store 9) e (ap (λ o. asked_borrow k (state meaning h) o) (no_page (h.store.pages k) i))

-- 10 and 11
pub denied_served : {K : Type 0} (meaning : K → List ℕ) (k : List ℕ) (h : Holding K) (n : ℕ) (t : Machine) → sizes_of h ≡ None → held h.store k ≡ true →
    Borrow h.pool.frames k (state meaning h).machine (refused n) t →
    Serves (call_of (to_borrow k) h.frames h.cells) (state meaning h) (denied by_pool n)
    (record { number = h.pool.number.0; count = h.pool.frames; machine = t; bytes = h.frames; store = h.store })
denied_served meaning k h n t e i b =
    let s = state meaning h in
    let w = why_refused h.pool.frames k b in
    let p = some_page (h.store.pages k) i in
    let a : asked (to_borrow k) s ≡ Some (denied by_pool n) = ap (λ o. asked_borrow k s o) p ∙ ap by_machine w.0 in
    rw w.1 (refused_served meaning (to_borrow k) h (denied by_pool n) e a)

-- the victim that the ring answers is what lay in the frame
same_sent : {K : Type 0} (meaning : K → List ℕ) (v : Option (Victim K)) (o : Option Entry) (page : List ℕ) (store : Meaning) →
    victim_key meaning v ≡ key_of o → ((w : Victim K) → v ≡ Some w → w.altered ≡ altered_at o) → sent_by meaning v page store ≡ sent_out page o store
same_sent meaning None None page store h i = refl
same_sent meaning None (Some e) page store h i = none_some (Some e.key) e.key (sym h) refl
same_sent meaning (Some v) None page store h i = none_some (Some (meaning v.key)) (meaning v.key) h refl
same_sent meaning (Some v) (Some e) page store h i =
    let a : meaning v.key ≡ e.key = cc in
    let b : v.altered ≡ e.altered = i v refl in
    ap₂ (λ x k. cond x (with_page k page store) store) b a

same_takes : {K : Type 0} (meaning : K → List ℕ) (v : Option (Victim K)) (o : Option Entry) (store : Meaning) →
    victim_key meaning v ≡ key_of o → ((w : Victim K) → v ≡ Some w → w.altered ≡ altered_at o) →
    ((e : Entry) → o ≡ Some e → (is_some (store.pages e.key) ≡ true) × (e.altered ≡ true → store.is_open ≡ true)) → Takes meaning v store
same_takes meaning None o store h i j = tt
same_takes meaning (Some v) None store h i j = none_some (Some (meaning v.key)) (meaning v.key) h refl
same_takes meaning (Some v) (Some e) store h i j =
    let a : meaning v.key ≡ e.key = cc in
    λ c. (ap (λ k. is_some (store.pages k)) a ∙ (j e refl).0, (j e refl).1 (sym (i v refl) ∙ c))

written_all : {K : Type 0} (s : Machine) (f : ℕ) (v : Option (Victim K)) → WrittenAt s f v → (w : Victim K) → v ≡ Some w → w.altered ≡ altered_at (rules.occupant f s)
written_all s f None h w e = absurd cc
written_all s f (Some v) h w e = let z : v ≡ w = cc in subst (λ x. x.altered ≡ altered_at (rules.occupant f s)) z h

-- What moving the pages of a granted borrow needs, and what it comes to.
pub record Exchange {K : Type 0} (meaning : K → List ℕ) (h : Holding K) (k : List ℕ) (o : Outcome) (v : Option (Victim K)) (f : ℕ) (r : Report) (t : Machine) : Type 0 where
  pub part : f * h.store.size + h.store.size ≤ h.pool.frames * h.store.size
  pub takes : TakesAfter meaning o v h.store
  pub holds : held (sent_after meaning o v (part_of h.store.size h.frames f) h.store) k ≡ true
  pub serves : (frames : List ℕ) (store : Meaning) →
      frames ≡ filled_after o (f * h.store.size) (page_of (sent_after meaning o v (part_of h.store.size h.frames f) h.store) k) h.frames →
      store ≡ sent_after meaning o v (part_of h.store.size h.frames f) h.store →
      Serves (call_of (to_borrow k) h.frames h.cells) (state meaning h) (lends (loan_of f h.pool.number.0) r)
      (record { number = h.pool.number.0; count = h.pool.frames; machine = t; bytes = frames; store = store })

-- the state after it, by its bytes and its store
abbrev after : {K : Type 0} → Holding K → Machine → List ℕ → Meaning → State
after h t frames store = record { number = h.pool.number.0; count = h.pool.frames; machine = t; bytes = frames; store = store }

swapped : {K : Type 0} (meaning : K → List ℕ) (h : Holding K) (k : List ℕ) (a : Answer) (t : Machine) (x y : List ℕ) (u w : Meaning) → x ≡ y → u ≡ w →
    Serves (call_of (to_borrow k) h.frames h.cells) (state meaning h) a (after h t y w) →
    Serves (call_of (to_borrow k) h.frames h.cells) (state meaning h) a (after h t x u)
swapped meaning h k a t x y u w e i d = rw (e, i) d

abbrev pub reported : {K : Type 0} → (K → List ℕ) → Outcome → Option (Victim K) → Steps → ℕ → Report
reported meaning o v n c = record { outcome = outcome_of o; victim = victim_key meaning v; made = n; cold = c }

pub exchange : {K : Type 0} (meaning : K → List ℕ) (h : Holding K) (k : List ℕ) (o : Outcome) (v : Option (Victim K)) (n : Steps) (c f : ℕ) (t : Machine) →
    sizes_of h ≡ None → Facts (state meaning h) → held h.store k ≡ true →
    Borrow h.pool.frames k (state meaning h).machine (granted f (reported meaning o v n c)) t → WrittenAt (state meaning h).machine f v →
    Exchange meaning h k o v f (reported meaning o v n c) t
exchange {K} meaning h k o v n c f t e facts i b w = go o b
  where
    s : State
    s = state meaning h

    p : ℕ
    p = h.store.size

    page : List ℕ
    page = page_of h.store k

    -- every question had its yes
    yes : (r : Report) → Borrow h.pool.frames k s.machine (granted f r) t → asked (to_borrow k) s ≡ None
    yes r d = ap (λ x. asked_borrow k s x) (some_page (h.store.pages k) i) ∙ ap by_machine (why_granted h.pool.frames k d)

    lies : (r : Report) → Borrow h.pool.frames k s.machine (granted f r) t → f * p + p ≤ h.pool.frames * p
    lies r d = let z = storing.framed s k f r t facts d in row f h.pool.frames p z

    served : (r : Report) → Borrow h.pool.frames k s.machine (granted f r) t →
        Serves (call_of (to_borrow k) h.frames h.cells) s (lends (loan_of f h.pool.number.0) r) (serves.borrowed r.outcome f page t s)
    served r d = granted_served meaning (to_borrow k) h (lends (loan_of f h.pool.number.0) r) (serves.borrowed r.outcome f page t s) e (yes r d) (borrows (some_page (h.store.pages k) i) d)

    all : (x : Victim K) → v ≡ Some x → x.altered ≡ altered_at (occupant f s)
    all = written_all s.machine f v w

    sent : victim_key meaning v ≡ holds f s → sent_by meaning v (part s f) h.store ≡ sent_out (part s f) (occupant f s) h.store
    sent j = same_sent meaning v (occupant f s) (part s f) h.store j all

    takes : victim_key meaning v ≡ holds f s → Takes meaning v h.store
    takes j = same_takes meaning v (occupant f s) h.store j all (λ d q. (facts.held f d q, facts.unsealed f d q))

    -- the page that is read is the one that the store had
    reads : victim_key meaning v ≡ holds f s → (sent_out (part s f) (occupant f s) h.store).pages k ≡ h.store.pages k → (sent_by meaning v (part s f) h.store).pages k ≡ h.store.pages k
    reads j q = ap (λ x. x.pages k) (sent j) ∙ q

    go : (o : Outcome) → Borrow h.pool.frames k s.machine (granted f (reported meaning o v n c)) t → Exchange meaning h k o v f (reported meaning o v n c) t
    go Hit d = record {
      part = lies (reported meaning Hit v n c) d;
      takes = tt;
      holds = i;
      serves = λ x y a q. swapped meaning h k (lends (loan_of f h.pool.number.0) (reported meaning Hit v n c)) t x h.frames y h.store a q (served (reported meaning Hit v n c) d);
    }
    go TestFault d =
        let j = storing.victim s k f (reported meaning TestFault v n c) t facts d refl in
        let q = reads j (storing.reading s k f (reported meaning TestFault v n c) t facts d) in
        record {
          part = lies (reported meaning TestFault v n c) d;
          takes = takes j;
          holds = ap is_some q ∙ i;
          serves = λ x y a u. swapped meaning h k (lends (loan_of f h.pool.number.0) (reported meaning TestFault v n c)) t x (laid (f * p) page h.frames) y (sent_out (part s f) (occupant f s) h.store)
              (a ∙ ap (λ z. laid (f * p) (unwrap_or z []) h.frames) q) (u ∙ sent j) (served (reported meaning TestFault v n c) d);
        }
    go ColdFault d =
        let j = storing.victim s k f (reported meaning ColdFault v n c) t facts d refl in
        let q = reads j (storing.reading s k f (reported meaning ColdFault v n c) t facts d) in
        record {
          part = lies (reported meaning ColdFault v n c) d;
          takes = takes j;
          holds = ap is_some q ∙ i;
          serves = λ x y a u. swapped meaning h k (lends (loan_of f h.pool.number.0) (reported meaning ColdFault v n c)) t x (laid (f * p) page h.frames) y (sent_out (part s f) (occupant f s) h.store)
              (a ∙ ap (λ z. laid (f * p) (unwrap_or z []) h.frames) q) (u ∙ sent j) (served (reported meaning ColdFault v n c) d);
        }

-- the same, by what the ring answers
pub exchange_of : {K : Type 0} (meaning : K → List ℕ) (h : Holding K) (k : List ℕ) (g : Granted (Victim K)) (t : Machine) →
    sizes_of h ≡ None → Facts (state meaning h) → held h.store k ≡ true →
    Borrow h.pool.frames k (state meaning h).machine (granted g.frame.0 (reported meaning g.report.outcome g.report.victim (steps_of g.report.steps) g.report.cold)) t →
    WrittenAt (state meaning h).machine g.frame.0 g.report.victim →
    Exchange meaning h k g.report.outcome g.report.victim g.frame.0 (reported meaning g.report.outcome g.report.victim (steps_of g.report.steps) g.report.cold) t
exchange_of meaning h k g t e facts d b w =
    exchange meaning h k g.report.outcome g.report.victim (steps_of g.report.steps) g.report.cold g.frame.0 t e facts d b w

-- the pool reports what the ring does
keyed-told : {K : Type 0} (meaning : K → List ℕ) (v : Option (Victim K)) → keyed meaning (option_map (λ w. w.key) v) ≡ victim_key meaning v
keyed-told meaning None = refl
keyed-told meaning (Some v) = refl

pub same_report : {K : Type 0} (meaning : K → List ℕ) (v : pool.Report (Victim K)) (r : pool.Report K) → r ≡ told v →
    report_in meaning r ≡ reported meaning v.outcome v.victim (steps_of v.steps) v.cold
same_report meaning v r e =
    ap (report_in meaning) e
    ∙ ap (λ x. record { outcome = outcome_of v.outcome; victim = x; made = steps_of v.steps; cold = v.cold }) (keyed-told meaning v.victim)
