-- The desk: one order after another, the loans in the hands, and the promise after every first part of a list.
use Rattle.std.proofs.Common.{◌≡◌, ℕ, zero, suc, ◌+◌, ◌-◌, ◌≤◌, Bool, true, false, cond, eqb, List, [], ◌∷◌, ◌++◌, get_or, set, Some, None, Option, sym, refl, ap, ◌∙◌, subst, arith}
use Rattle.std.proofs.lemmas.List.{append-nil, append_assoc}
use Rattle.std.proofs.lemmas.Bool.{eq-eqb}
use Rattle.machine.specs.Entry.{one}
use Rattle.machine.specs.Borrow.{Report, carries}
use Rattle.machine.proofs.Counts.{none_some}
use Rattle.promise.specs.State.{State, Opening}
use Rattle.promise.specs.Serves as serves
use Rattle.promise.specs.Serves.{Loan, Request, to_borrow, to_view, to_alter, to_return, to_flush, Call, Answer, lends, shows, done, wrote, denied, Does, borrows, views, alters, returns, flushes, Serves, grants}
use Rattle.promise.specs.Facts.{Facts}
use Rattle.promise.specs.Book.{Event, event, book}
use Rattle.promise.specs.Promise.{Reaches, goes_on, Kept}
use Rattle.promise.specs.Uses.{Stands}
use Rattle.promise.specs.Desk.{Ask, ask_borrow, ask_view, ask_alter, ask_return, ask_flush, Sizes, Order, Desk, desk, under_loan, request_of, lent_sizes, call_with, calling, handed, handed_borrow, handed_return, Plays, rests, idles, calls, loans_in, Held, Prefix, Whole}
use Rattle.promise.proofs.Histories.{denies, promised}
use Rattle.promise.proofs.Uses.{loans_after, serves_lasts}

-- ONE ORDER MORE

pub plays_idle : {d x : Desk} {os : List Order} {ans : List (Option Answer)} {es : List Event} (o : Order) → Plays d os ans es x → calling o x ≡ None →
    Plays d (os ++ (o ∷ [])) (ans ++ (None ∷ [])) es x
plays_idle o rests h = idles h rests
plays_idle o (idles j p) h = idles j (plays_idle o p h)
plays_idle o (calls j d p) h = calls j d (plays_idle o p h)

pub plays_call : {d x : Desk} {os : List Order} {ans : List (Option Answer)} {es : List Event} (o : Order) (c : Call) (a : Answer) (t : State) → Plays d os ans es x → calling o x ≡ Some c →
    Serves c x.state a t → Plays d (os ++ (o ∷ [])) (ans ++ (Some a ∷ [])) (es ++ (event c a ∷ [])) (desk t (handed o.ask a x.hands))
plays_call o c a t rests h d = calls h d rests
plays_call o c a t (idles j p) h d = idles j (plays_call o c a t p h d)
plays_call o c a t (calls j e p) h d = calls j e (plays_call o c a t p h d)

-- THE WHOLE LIST

prefix : (o : Opening) (h : List Event) {d e : Desk} {os : List Order} {ans : List (Option Answer)} {es : List Event} → Reaches o h d.state → Plays d os ans es e →
    (n : ℕ) → Prefix o h d os ans es e n
prefix o h {d} {e} {os} {ans} {es} r p zero = record {
  at = d;
  past = [];
  rest = es;
  all = refl;
  before = rests;
  after = p;
  stands = let q = subst (λ y. Reaches o y d.state) (sym (append-nil h)) r in (q, promised.sound o (h ++ []) d.state q);
  next = λ c a t s. promised.kept o (h ++ []) d.state t c a (subst (λ y. Reaches o y d.state) (sym (append-nil h)) r) s;
}
prefix o h {d} r rests (suc n) = record {
  at = d;
  past = [];
  rest = [];
  all = refl;
  before = rests;
  after = rests;
  stands = let q = subst (λ y. Reaches o y d.state) (sym (append-nil h)) r in (q, promised.sound o (h ++ []) d.state q);
  next = λ c a t s. promised.kept o (h ++ []) d.state t c a (subst (λ y. Reaches o y d.state) (sym (append-nil h)) r) s;
}
prefix o h r (idles j p) (suc n) =
    let y = prefix o h r p n in
    record { at = y.at; past = y.past; rest = y.rest; all = y.all; before = idles j y.before; after = y.after; stands = y.stands; next = y.next }
prefix o h r (calls {c = c} {a = a} j s p) (suc n) =
    let y = prefix o (h ++ (event c a ∷ [])) (goes_on r s) p n in
    let g = append_assoc h (event c a ∷ []) y.past in
    record {
      at = y.at;
      past = event c a ∷ y.past;
      rest = y.rest;
      all = ap (λ x. event c a ∷ x) y.all;
      before = calls j s y.before;
      after = y.after;
      stands = subst (λ x. Stands o x y.at.state) g y.stands;
      next = λ b f t q. subst (λ x. Kept (book o x) b.request f t) g (y.next b f t q);
    }

pub whole_of : {d e : Desk} {os : List Order} {ans : List (Option Answer)} {es : List Event} → Plays d os ans es e → Whole d os ans e
whole_of {es = es} p = record { events = es; plays = p; promised = λ o h r n. prefix o h r p n }

-- THE LOANS IN THE HANDS

loans_more : (f : ℕ) (hands : List (Option Loan)) (l : Loan) → loans_in f (hands ++ (Some l ∷ [])) ≡ loans_in f hands + one (eqb l.frame f)
loans_more f [] l = omega arith
loans_more f (None ∷ hands) l = loans_more f hands l
loans_more f (Some x ∷ hands) l = let y = loans_more f hands l in omega arith

pub loans_less : (f i : ℕ) (hands : List (Option Loan)) (l : Loan) → get_or hands i None ≡ Some l → loans_in f (set hands i None) + one (eqb l.frame f) ≡ loans_in f hands
loans_less f i [] l h = none_some None l refl h
loans_less f zero (None ∷ hands) l h = none_some None l refl h
loans_less f zero (Some x ∷ hands) l h = let e : x ≡ l = cc in subst (λ y. loans_in f hands + one (eqb l.frame f) ≡ one (eqb y.frame f) + loans_in f hands) (sym e) (omega arith)
loans_less f (suc i) (None ∷ hands) l h = loans_less f i hands l h
loans_less f (suc i) (Some x ∷ hands) l h = let y = loans_less f i hands l h in omega arith

own_more : (n : ℕ) (hands : List (Option Loan)) (l : Loan) → l.pool ≡ n → ((i : ℕ) (x : Loan) → get_or hands i None ≡ Some x → x.pool ≡ n) →
    (i : ℕ) (x : Loan) → get_or (hands ++ (Some l ∷ [])) i None ≡ Some x → x.pool ≡ n
own_more n [] l h k zero x j = let e : l ≡ x = cc in subst (λ y. y.pool ≡ n) e h
own_more n [] l h k (suc i) x j = none_some None x refl j
own_more n (y ∷ hands) l h k zero x j = k 0 x j
own_more n (y ∷ hands) l h k (suc i) x j = own_more n hands l h (λ m z q. k (suc m) z q) i x j

own_less : (n : ℕ) (hands : List (Option Loan)) (m : ℕ) → ((i : ℕ) (x : Loan) → get_or hands i None ≡ Some x → x.pool ≡ n) →
    (i : ℕ) (x : Loan) → get_or (set hands m None) i None ≡ Some x → x.pool ≡ n
own_less n [] m k i x j = none_some None x refl j
own_less n (y ∷ hands) zero k zero x j = none_some None x refl j
own_less n (y ∷ hands) zero k (suc i) x j = k (suc i) x j
own_less n (y ∷ hands) (suc m) k zero x j = k 0 x j
own_less n (y ∷ hands) (suc m) k (suc i) x j = own_less n hands m (λ p z q. k (suc p) z q) i x j

-- a granted borrow's loan has the pool's number
pub own_lends : {s t : State} {a : Answer} (c : Call) → Serves c s a t → (l : Loan) (r : Report) → a ≡ lends l r → l.pool ≡ s.number
own_lends c (serves.refuses {s = s} {a = a} h) l r e = let x = (denies c s a h).is in let z : ◌≡◌ {A = ℕ} 0 1 = cc in absurd (omega arith)
own_lends c (grants h (borrows {s = s} {f = f} p w)) l r e = let z : serves.loan_of f s.number ≡ l = cc in subst (λ y. y.pool ≡ s.number) z refl
own_lends c (grants h views) l r e = let z : ◌≡◌ {A = ℕ} 0 1 = cc in absurd (omega arith)
own_lends c (grants h alters) l r e = let z : ◌≡◌ {A = ℕ} 0 1 = cc in absurd (omega arith)
own_lends c (grants h returns) l r e = let z : ◌≡◌ {A = ℕ} 0 1 = cc in absurd (omega arith)
own_lends c (grants h flushes) l r e = let z : ◌≡◌ {A = ℕ} 0 1 = cc in absurd (omega arith)

-- hands that stay, while every frame carries what it did
held_same : (s t : State) (hands : List (Option Loan)) → Held (desk s hands) → t.number ≡ s.number → ((f : ℕ) → carries f t.machine ≡ carries f s.machine) → Held (desk t hands)
held_same s t hands w n h = record { counted = λ f. w.counted f ∙ sym (h f); own = λ i l e. w.own i l e ∙ sym n }

-- the request under a loan that is in the hand
under_is : (f : Loan → Request) (o : Option Loan) (q : Request) → under_loan f o ≡ Some q → (l : Loan) × (o ≡ Some l) × (q ≡ f l)
under_is f None q h = none_some None q refl h
under_is f (Some l) q h = (l, refl, cc)

-- after an order that made a call the hands hold the loans that the frames carry
held_next : (s t : State) (hands : List (Option Loan)) (ask : Ask) (c : Call) (a : Answer) → Facts s → Held (desk s hands) → request_of ask hands ≡ Some c.request → Serves c s a t →
    Held (desk t (handed ask a hands))
held_next s t hands (ask_borrow k) c a v w h d = go a d
  where
    e : c.request ≡ to_borrow k
    e = cc

    n : t.number ≡ s.number
    n = (serves_lasts c d v).number

    more : (b : Bool) (x y : ℕ) → x ≡ y → x + one b ≡ cond b (y + 1) y
    more true x y i = omega arith
    more false x y i = omega arith

    go : (a : Answer) → Serves c s a t → Held (desk t (handed_borrow a hands))
    go (lends l r) d = record {
      counted = λ f. loans_more f hands l ∙ more (eqb l.frame f) (loans_in f hands) (carries f s.machine) (w.counted f) ∙ sym (loans_after c (to_borrow k) s t (lends l r) v e d f);
      own = λ i x j. own_more s.number hands l (own_lends c d l r refl) w.own i x j ∙ sym n;
    }
    go (shows page) d = held_same s t hands w n (loans_after c (to_borrow k) s t (shows page) v e d)
    go done d = held_same s t hands w n (loans_after c (to_borrow k) s t done v e d)
    go (wrote m) d = held_same s t hands w n (loans_after c (to_borrow k) s t (wrote m) v e d)
    go (denied y m) d = held_same s t hands w n (loans_after c (to_borrow k) s t (denied y m) v e d)
held_next s t hands (ask_view i) c a v w h d =
    let x = under_is to_view (get_or hands i None) c.request h in
    held_same s t hands w (serves_lasts c d v).number (loans_after c (to_view x.0) s t a v x.2 d)
held_next s t hands (ask_alter i offset new) c a v w h d = go a d
  where
    x : (l : Loan) × (get_or hands i None ≡ Some l) × (c.request ≡ to_alter l offset new)
    x = under_is (λ l. to_alter l offset new) (get_or hands i None) c.request h

    go : (a : Answer) → Serves c s a t → Held (desk t hands)
    go (lends l r) d = held_same s t hands w (serves_lasts c d v).number (loans_after c (to_alter x.0 offset new) s t (lends l r) v x.2 d)
    go (shows page) d = held_same s t hands w (serves_lasts c d v).number (loans_after c (to_alter x.0 offset new) s t (shows page) v x.2 d)
    go done d = held_same s t hands w (serves_lasts c d v).number (loans_after c (to_alter x.0 offset new) s t done v x.2 d)
    go (wrote m) d = held_same s t hands w (serves_lasts c d v).number (loans_after c (to_alter x.0 offset new) s t (wrote m) v x.2 d)
    go (denied y m) d = held_same s t hands w (serves_lasts c d v).number (loans_after c (to_alter x.0 offset new) s t (denied y m) v x.2 d)
held_next s t hands (ask_return i) c a v w h d = go a d
  where
    x : (l : Loan) × (get_or hands i None ≡ Some l) × (c.request ≡ to_return l)
    x = under_is to_return (get_or hands i None) c.request h

    less : (b : Bool) (p q r : ℕ) → p + one b ≡ q → q ≡ r → p ≡ cond b (r - 1) r
    less true p q r j k = omega arith
    less false p q r j k = omega arith

    go : (a : Answer) → Serves c s a t → Held (desk t (handed_return i a hands))
    go done d = record {
      counted = λ f. less (eqb x.0.frame f) (loans_in f (set hands i None)) (loans_in f hands) (carries f s.machine) (loans_less f i hands x.0 x.1) (w.counted f)
          ∙ sym (loans_after c (to_return x.0) s t done v x.2 d f);
      own = λ j l k. own_less s.number hands i w.own j l k ∙ sym (serves_lasts c d v).number;
    }
    go (lends l r) d = held_same s t hands w (serves_lasts c d v).number (loans_after c (to_return x.0) s t (lends l r) v x.2 d)
    go (shows page) d = held_same s t hands w (serves_lasts c d v).number (loans_after c (to_return x.0) s t (shows page) v x.2 d)
    go (wrote m) d = held_same s t hands w (serves_lasts c d v).number (loans_after c (to_return x.0) s t (wrote m) v x.2 d)
    go (denied y m) d = held_same s t hands w (serves_lasts c d v).number (loans_after c (to_return x.0) s t (denied y m) v x.2 d)
held_next s t hands ask_flush c a v w h d = let e : c.request ≡ to_flush = cc in held_same s t hands w (serves_lasts c d v).number (loans_after c to_flush s t a v e d)

call_request : (z : Sizes) (o : Option Request) (c : Call) → call_with z o ≡ Some c → o ≡ Some c.request
call_request z None c h = none_some None c refl h
call_request z (Some q) c h = let e : record { bytes = z.bytes; cells = z.cells; request = q } ≡ c = cc in ap (λ x. Some x.request) e

pub held_after : (d : Desk) (o : Order) (c : Call) (a : Answer) (t : State) → Facts d.state → Held d → calling o d ≡ Some c → Serves c d.state a t → Held (desk t (handed o.ask a d.hands))
held_after d o c a t v w h s = held_next d.state t d.hands o.ask c a v w (call_request (lent_sizes d.state o.lent) (request_of o.ask d.hands) c h) s

-- a loan in a hand is one that its frame carries
pub hand_carries : (d : Desk) (i : ℕ) (l : Loan) → Held d → get_or d.hands i None ≡ Some l → 1 ≤ carries l.frame d.state.machine
hand_carries d i l w h =
    let x = loans_less l.frame i d.hands l h in
    let y = w.counted l.frame in
    let z : one (eqb l.frame l.frame) ≡ 1 = ap one (eq-eqb l.frame l.frame refl) in
    omega arith
