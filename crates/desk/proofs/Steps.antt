-- From a call to an order.
use Rattle.std.proofs.Common.{◌≡◌, ℕ, true, ◌&&◌, eqb, List, [], ◌∷◌, length, Some, None, Ok, Err, Option, Result, unwrap_or, sym, refl, ap, ◌∙◌, subst, ap₂}
use Rattle.std.specs.Result.{MatchResult}
use Rattle.std.proofs.lemmas.Bool.{eqb-true, and_parts}
use Rattle.stores.specs.Meaning.{Meaning}
use Rattle.stores.specs.declared.faults.Layer.{Layer}
use Rattle.machine.proofs.Counts.{none_some}
use Rattle.promise.specs.Serves.{Request, Call, denied, by_pool, Serves}
use Rattle.promise.specs.Book.{event}
use Rattle.promise.specs.Desk as model
use Rattle.promise.specs.Desk.{Desk, desk, request_of, handed, calling, call_with, lent_sizes, Plays, rests, idles, calls, Held}
use Rattle.promise.proofs.Desks.{held_after}
use Rattle.promise.proofs.Uses.{owed}
use Rattle.pool.specs.Asked.{Holding, holding, state, sizes, sizes_of, Ready}
use Rattle.pool.specs.Reading.{state_of, call_of}
use Rattle.pool.specs.declared.state.Pool.{Pool}
use Rattle.pool.specs.declared.state.Loan.{Loan}
use Rattle.pool.proofs.Sizes.{fit_frames, fit_cells}
use Rattle.desk.specs.declared.orders.Ask.{Ask}
use Rattle.desk.specs.declared.orders.Sizes.{Sizes}
use Rattle.desk.specs.declared.orders.Order.{Order}
use Rattle.desk.specs.declared.orders.Reply.{Reply}
use Rattle.desk.specs.Reading.{ask_in, sizes_in, order_in, hands_in, desk_of}
use Rattle.desk.specs.Serving.{AtDesk, CalledBy, Called, Turned, Same, Untouched, Ordered}

-- what an order comes to: the desk after it, and the play
pub record Stepped {K : Type 0} (meaning : K → List ℕ) (o : Order K) (h : Holding K) (hands : List (Option Loan)) (r : Reply K) (after : Holding K) (left : List (Option Loan)) : Type 0 where
  pub at : AtDesk meaning after left
  pub made : Ordered meaning o (desk_of meaning h hands) r (desk_of meaning after left)

same-sizes : {K : Type 0} (h after : Holding K) → sizes_of h ≡ None → after.pool.frames ≡ h.pool.frames → after.store.size ≡ h.store.size →
    length after.frames ≡ length h.frames → length after.cells ≡ length h.cells → sizes_of after ≡ None
same-sizes h after e i j k l = rw (i, j, k, l) e

-- an order that the desk's own memory is lent to
pub stepped : {K : Type 0} (meaning : K → List ℕ) (o : Order K) (h : Holding K) (hands : List (Option Loan)) (r : Reply K) (after : Holding K) (left : List (Option Loan)) →
    AtDesk meaning h hands → lent_sizes (state meaning h) (sizes_in o.lent) ≡ record { bytes = length h.frames; cells = length h.cells } →
    length after.frames ≡ length h.frames → length after.cells ≡ length h.cells →
    Called meaning o.ask h hands r after left → Stepped meaning o h hands r after left
stepped {K} meaning o h hands r after left w z k l c = go (request_of (ask_in meaning o.ask) (hands_in hands)) refl c
  where
    d : Desk
    d = desk_of meaning h hands

    say : (q : Option Request) → request_of (ask_in meaning o.ask) (hands_in hands) ≡ q → calling (order_in meaning o) d ≡ call_with (record { bytes = length h.frames; cells = length h.cells }) q
    say q e = ap₂ call_with z e

    go : (q : Option Request) → request_of (ask_in meaning o.ask) (hands_in hands) ≡ q → CalledBy meaning q o.ask h hands r after left → Stepped meaning o h hands r after left
    go None e x =
        let same : desk_of meaning after left ≡ d = ap₂ (λ a b. desk (state meaning a) b) x.same x.in_hands in
        record {
          at = record {
            fits = ap sizes_of x.same ∙ w.fits;
            ready = subst (Ready meaning) (sym x.same) w.ready;
            held = subst Held (sym same) w.held;
          };
          made = record { events = []; plays = rw (same, x.replied) (idles (say None e) rests) };
        }
    go (Some q) e x =
        let a = x.answer in
        let f = x.asked.fits w.fits in
        let call = call_of q h.frames h.cells in
        let s = f.served.serves in
        let t = state meaning after in
        record {
          at = record {
            fits = same-sizes h after w.fits x.asked.same_count x.asked.same_size k l;
            ready = f.ready;
            held = subst (λ y. Held (desk t y)) (sym x.in_hands) (held_after d (order_in meaning o) call a t (owed.facts (state meaning h) w.ready.led) w.held (say (Some q) e) s);
          };
          made = record {
            events = event call a ∷ [];
            plays = rw (x.in_hands, x.replied) (calls (say (Some q) e) s rests);
          };
        }

abbrev pub own : {K : Type 0} → Holding K → Sizes
own h = record { bytes = length h.frames; cells = length h.cells }

-- the memory that an order names, or the desk's own
pub named_sizes : {K : Type 0} (meaning : K → List ℕ) (o : Order K) (h : Holding K) (z : Sizes) → sizes_of h ≡ None → z ≡ unwrap_or o.lent (own h) →
    lent_sizes (state meaning h) (sizes_in o.lent) ≡ record { bytes = z.bytes; cells = z.cells }
named_sizes meaning o h z f e = go o.lent e
  where
    go : (l : Option Sizes) → z ≡ unwrap_or l (own h) → lent_sizes (state meaning h) (sizes_in l) ≡ record { bytes = z.bytes; cells = z.cells }
    go None i = ap₂ (λ x y. record { bytes = x; cells = y }) (sym (fit_frames h f) ∙ ap (λ w. w.bytes) (sym i)) (sym (fit_cells h f) ∙ ap (λ w. w.cells) (sym i))
    go (Some w) i = ap₂ (λ x y. record { bytes = x; cells = y }) (ap (λ v. v.bytes) (sym i)) (ap (λ v. v.cells) (sym i))

-- they are the desk's own
pub own_sizes : {K : Type 0} (meaning : K → List ℕ) (o : Order K) (h : Holding K) (z : Sizes) → sizes_of h ≡ None → z ≡ unwrap_or o.lent (own h) →
    (eqb z.bytes (length h.frames) && eqb z.cells (length h.cells)) ≡ true → lent_sizes (state meaning h) (sizes_in o.lent) ≡ record { bytes = length h.frames; cells = length h.cells }
own_sizes meaning o h z f e t =
    let p = and_parts (eqb z.bytes (length h.frames)) (eqb z.cells (length h.cells)) t in
    named_sizes meaning o h z f e ∙ ap₂ (λ x y. record { bytes = x; cells = y }) (eqb-true z.bytes (length h.frames) p.0) (eqb-true z.cells (length h.cells) p.1)

-- a refusal leaves the hands as they are
kept : (a : model.Ask) (y : Layer) (n : ℕ) (hands : List (Option Loan)) → handed a (denied y n) (hands_in hands) ≡ hands_in hands
kept (model.ask_borrow k) y n hands = refl
kept (model.ask_view i) y n hands = refl
kept (model.ask_alter i offset new) y n hands = refl
kept (model.ask_return i) y n hands = refl
kept model.ask_flush y n hands = refl

-- an order that other memory is lent to
pub turned_step : {K : Type 0} (meaning : K → List ℕ) (o : Order K) (z : Sizes) (h : Holding K) (hands : List (Option Loan)) (r : Reply K) (pool : Pool) (store : Meaning) (left : List (Option Loan)) →
    AtDesk meaning h hands → lent_sizes (state meaning h) (sizes_in o.lent) ≡ record { bytes = z.bytes; cells = z.cells } → Turned meaning o.ask z h.pool h.store hands r pool store left →
    Stepped meaning o h hands r (holding pool h.frames h.cells store) left
turned_step {K} meaning o z h hands r pool store left w e x = record {
  at = record { fits = ap sizes_of same ∙ w.fits; ready = subst (Ready meaning) (sym same) w.ready; held = subst Held (sym there) w.held };
  made = subst (λ y. Ordered meaning o d r y) (sym there) (go (request_of (ask_in meaning o.ask) (hands_in hands)) refl);
}
  where
    d : Desk
    d = desk_of meaning h hands

    same : holding pool h.frames h.cells store ≡ h
    same = ap₂ (λ a b. holding a h.frames h.cells b) x.same_pool x.same_store

    there : desk_of meaning (holding pool h.frames h.cells store) left ≡ d
    there = ap₂ (λ a b. desk (state meaning a) b) same x.in_hands

    say : (q : Option Request) → request_of (ask_in meaning o.ask) (hands_in hands) ≡ q → calling (order_in meaning o) d ≡ call_with (record { bytes = z.bytes; cells = z.cells }) q
    say q i = ap₂ call_with e i

    go : (q : Option Request) → request_of (ask_in meaning o.ask) (hands_in hands) ≡ q → Ordered meaning o d r d
    go None i = record { events = []; plays = subst (λ y. Plays d (order_in meaning o ∷ []) (y ∷ []) [] d) (sym (x.unasked i)) (idles (say None i) rests) }
    go (Some q) i =
        let f = x.refused q i in
        let a = denied f.0 f.1 in
        let call : Call = record { bytes = z.bytes; cells = z.cells; request = q } in
        record {
          events = event call a ∷ [];
          plays = subst (λ y. Plays d (order_in meaning o ∷ []) (y ∷ []) (event call a ∷ []) d) (sym f.2)
              (calls (say (Some q) i) (f.3 h.frames h.cells w.ready)
              (subst (λ y. Plays (desk (state meaning h) y) [] [] [] d) (sym (kept (ask_in meaning o.ask) f.0 f.1 hands)) rests));
        }

-- nothing was done
pub same_at : {K : Type 0} (meaning : K → List ℕ) (h after : Holding K) (hands left : List (Option Loan)) → AtDesk meaning h hands → Same h hands after left → AtDesk meaning after left
same_at meaning h after hands left w s =
    rw (s.same, s.in_hands) w

-- a call with other memory is turned away
pub turned_away : {K : Type 0} (meaning : K → List ℕ) (ask : Ask K) (z : Sizes) (h after : Holding K) (hands left : List (Option Loan)) (r : Reply K) →
    length h.frames ≡ z.bytes → length h.cells ≡ z.cells → (sizes h.pool.frames h.store.size z.bytes z.cells ≡ None → ⊥) →
    Called meaning ask h hands r after left → Turned meaning ask z h.pool h.store hands r after.pool after.store left
turned_away {K} meaning ask z h after hands left r k l u c = go (sizes_of h) refl (request_of (ask_in meaning ask) (hands_in hands)) refl c
  where
    lens : sizes_of h ≡ sizes h.pool.frames h.store.size z.bytes z.cells
    lens = ap₂ (λ x y. sizes h.pool.frames h.store.size x y) k l

    go : (m : Option ℕ) → sizes_of h ≡ m → (q : Option Request) → request_of (ask_in meaning ask) (hands_in hands) ≡ q → CalledBy meaning q ask h hands r after left →
        Turned meaning ask z h.pool h.store hands r after.pool after.store left
    go None e q i x = absurd (u (sym lens ∙ e))
    go (Some n) e None i x = record {
      same_pool = ap (λ y. y.pool) x.same;
      same_store = ap (λ y. y.store) x.same;
      in_hands = x.in_hands;
      unasked = λ _. x.replied;
      refused = λ q j. none_some (request_of (ask_in meaning ask) (hands_in hands)) q i j;
    }
    go (Some n) e (Some q) i x =
        let m = x.asked.misfits n e in
        record {
          same_pool = ap (λ y. y.pool) m.same;
          same_store = ap (λ y. y.store) m.same;
          in_hands = x.in_hands ∙ ap (λ b. handed (ask_in meaning ask) b (hands_in hands)) m.refused ∙ kept (ask_in meaning ask) by_pool n hands;
          unasked = λ j. none_some (request_of (ask_in meaning ask) (hands_in hands)) q j i;
          refused = λ p j.
              let same : q ≡ p = cc in (
                by_pool,
                n,
                x.replied ∙ ap Some m.refused,
                λ frames cells v.
                    let s = state_of meaning h.pool frames cells h.store in
                    let g = subst (λ y. Serves (call_of q h.frames h.cells) s y s) m.refused (m.history frames cells v).serves in
                    subst (λ y. Serves (record { bytes = z.bytes; cells = z.cells; request = y }) s (denied by_pool n) s) same
                    (subst (λ y. Serves (record { bytes = y; cells = z.cells; request = q }) s (denied by_pool n) s) k
                    (subst (λ y. Serves (record { bytes = length h.frames; cells = y; request = q }) s (denied by_pool n) s) l g)),
              );
        }

-- The same of a call that may want memory.

-- an order that the desk's own memory is lent to
pub own_order : {K E : Type 0} (meaning : K → List ℕ) (o : Order K) (h after : Holding K) (hands left : List (Option Loan)) (r : Result (Reply K) E) →
    AtDesk meaning h hands → lent_sizes (state meaning h) (sizes_in o.lent) ≡ record { bytes = length h.frames; cells = length h.cells } →
    length after.frames ≡ length h.frames → length after.cells ≡ length h.cells →
    MatchResult r (λ x. Called meaning o.ask h hands x after left) (λ _. Same h hands after left) →
    (AtDesk meaning after left) × MatchResult r (λ x. Ordered meaning o (desk_of meaning h hands) x (desk_of meaning after left)) (λ _. Same h hands after left)
own_order meaning o h after hands left (Ok r) w z k l c = let s = stepped meaning o h hands r after left w z k l c in (s.at, s.made)
own_order meaning o h after hands left (Err e) w z k l c = (same_at meaning h after hands left w c, c)

-- an order that other memory is lent to
pub other_order : {K E : Type 0} (meaning : K → List ℕ) (o : Order K) (z : Sizes) (h : Holding K) (pool : Pool) (store : Meaning) (hands left : List (Option Loan)) (r : Result (Reply K) E) →
    AtDesk meaning h hands → lent_sizes (state meaning h) (sizes_in o.lent) ≡ record { bytes = z.bytes; cells = z.cells } →
    MatchResult r (λ x. Turned meaning o.ask z h.pool h.store hands x pool store left) (λ _. Untouched h.pool h.store hands pool store left) →
    (AtDesk meaning (holding pool h.frames h.cells store) left)
    × MatchResult r (λ x. Ordered meaning o (desk_of meaning h hands) x (desk_of meaning (holding pool h.frames h.cells store) left)) (λ _. Same h hands (holding pool h.frames h.cells store) left)
other_order meaning o z h pool store hands left (Ok r) w e c = let s = turned_step meaning o z h hands r pool store left w e c in (s.at, s.made)
other_order meaning o z h pool store hands left (Err x) w e c =
    let s : Same h hands (holding pool h.frames h.cells store) left =
    record { same = ap₂ (λ a b. holding a h.frames h.cells b) c.same_pool c.same_store; in_hands = c.in_hands } in (same_at meaning h (holding pool h.frames h.cells store) hands left w s, s)

-- a call with other memory
pub away : {K E : Type 0} (meaning : K → List ℕ) (ask : Ask K) (z : Sizes) (h after : Holding K) (hands left : List (Option Loan)) (r : Result (Reply K) E) →
    length h.frames ≡ z.bytes → length h.cells ≡ z.cells → (sizes h.pool.frames h.store.size z.bytes z.cells ≡ None → ⊥) →
    MatchResult r (λ x. Called meaning ask h hands x after left) (λ _. Same h hands after left) →
    MatchResult r (λ x. Turned meaning ask z h.pool h.store hands x after.pool after.store left) (λ _. Untouched h.pool h.store hands after.pool after.store left)
away meaning ask z h after hands left (Ok r) k l u c = turned_away meaning ask z h after hands left r k l u c
away meaning ask z h after hands left (Err e) k l u c = record { same_pool = ap (λ y. y.pool) c.same; same_store = ap (λ y. y.store) c.same; in_hands = c.in_hands }
