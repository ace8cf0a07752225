-- A flush that goes from frame to frame.
use Rattle.std.proofs.Common.{◌≡◌, ℕ, suc, ◌+◌, ◌≤◌, Bool, true, false, cond, List, is_some, Some, None, Option, sym, refl, ap, ◌∙◌, subst, ap₂, add-one, arith}
use Rattle.machine.specs.Entry.{Entry, one, count}
use Rattle.machine.specs.Hands.{Machine}
use Rattle.machine.specs.Borrow as rules
use Rattle.machine.specs.Borrow.{altered_at, mark_page}
use Rattle.stores.specs.Meaning.{Meaning}
use Rattle.promise.specs.State.{State, page_size, part, occupant}
use Rattle.promise.specs.Serves.{to_flush, wrote, is_altered, sent_out, written_below, unaltered, flushed, flushes, Serves}
use Rattle.promise.specs.Facts.{Facts}
use Rattle.promise.specs.Uses.{clean_below, writes, is_altered_at}
use Rattle.promise.proofs.Uses.{storing}
use Rattle.promise.proofs.Loop.{by_frames}
use Rattle.pool.specs.Moving.{TakesFrom}
use Rattle.pool.specs.Asked.{Holding, state, sizes_of}
use Rattle.pool.specs.Reading.{call_of}
use Rattle.pool.proofs.Sizes.{granted_served}

-- after the first n frames
pub record Flushing (s : State) (n : ℕ) (t : Machine) (store : Meaning) (w : ℕ) : Type 0 where
  pub marks : t ≡ clean_below n s.machine
  pub stored : store ≡ written_below n s
  pub written : w ≡ writes n s.machine
  pub few : w ≤ n

pub start : (s : State) → Facts s → Flushing s 0 s.machine s.store 0
start s v = let x = by_frames.start s v in record { marks = sym x.0; stored = refl; written = sym x.1; few = omega arith }

-- the next frame's own entry is as it was
here : (s : State) (n : ℕ) (t : Machine) (store : Meaning) (w : ℕ) → Facts s → Flushing s n t store w → rules.occupant n t ≡ occupant n s
here s n t store w v f = ap (rules.occupant n) f.marks ∙ by_frames.found s n v

pub takes : (s : State) (n : ℕ) (t : Machine) (store : Meaning) (w : ℕ) → Facts s → Flushing s n t store w → TakesFrom (rules.occupant n t) store
takes s n t store w v f = subst (λ o. TakesFrom o store) (sym (here s n t store w v f)) (go (occupant n s) refl)
  where
    go : (o : Option Entry) → occupant n s ≡ o → TakesFrom o store
    go None h = tt
    go (Some e) h = λ a. (
      ap (λ x. is_some (x.pages e.key)) f.stored ∙ storing.holding s n e.key v ∙ v.held n e h,
      ap (λ x. x.is_open) f.stored ∙ storing.opens s n ∙ v.unsealed n e h a,
    )

pub same_size : (s : State) (n : ℕ) (t : Machine) (store : Meaning) (w : ℕ) → Flushing s n t store w → store.size ≡ page_size s
same_size s n t store w f = ap (λ x. x.size) f.stored ∙ storing.size s n

-- one frame more
pub turn : (s : State) (n : ℕ) (t u : Machine) (store sent : Meaning) (w : ℕ) → Facts s → Flushing s n t store w →
    u ≡ cond (altered_at (rules.occupant n t)) (mark_page n false t) t → sent ≡ sent_out (part s n) (rules.occupant n t) store →
    Flushing s (n + 1) u sent (w + one (altered_at (rules.occupant n t)))
turn s n t u store sent w v f i j =
    subst (λ k. Flushing s k u sent (w + one (altered_at (rules.occupant n t)))) (sym (add-one n)) (go (altered_at (rules.occupant n t)) refl)
  where
    o : rules.occupant n t ≡ occupant n s
    o = here s n t store w v f

    what : altered_at (rules.occupant n t) ≡ is_altered_at (occupant n s)
    what = ap altered_at o ∙ same (occupant n s)
      where
        same : (x : Option Entry) → altered_at x ≡ is_altered_at x
        same None = refl
        same (Some e) = refl

    out : sent ≡ written_below (suc n) s
    out = j ∙ ap₂ (λ x y. sent_out (part s n) x y) o f.stored

    few : (b : Bool) → w + one b ≤ suc n
    few true = let z = f.few in omega arith
    few false = let z = f.few in omega arith

    go : (b : Bool) → altered_at (rules.occupant n t) ≡ b → Flushing s (suc n) u sent (w + one b)
    go true h =
        let x = by_frames.altered s n v (sym what ∙ h) in
        record {
          marks = i ∙ ap (λ b. cond b (mark_page n false t) t) h ∙ ap (mark_page n false) f.marks ∙ sym x.0;
          stored = out;
          written = ap (λ z. z + 1) f.written ∙ sym x.1;
          few = few true;
        }
    go false h =
        let x = by_frames.same s n v (sym what ∙ h) in
        record {
          marks = i ∙ ap (λ b. cond b (mark_page n false t) t) h ∙ f.marks ∙ sym x.0;
          stored = out;
          written = let a = f.written in let b = x.1 in omega arith;
          few = few false;
        }

pub finish : {K : Type 0} (meaning : K → List ℕ) (h : Holding K) (n : ℕ) (t : Machine) (store : Meaning) (w : ℕ) → sizes_of h ≡ None → Facts (state meaning h) → n ≡ h.pool.frames →
    Flushing (state meaning h) n t store w →
    Serves (call_of to_flush h.frames h.cells) (state meaning h) (wrote w)
    (record { number = h.pool.number.0; count = h.pool.frames; machine = t; bytes = h.frames; store = store })
finish meaning h n t store w e v i f =
    let s = state meaning h in
    let x = by_frames.finish s v in
    let a : t ≡ unaltered s.machine = f.marks ∙ ap (λ k. clean_below k s.machine) i ∙ x.0 in
    let b : store ≡ written_below s.count s = f.stored ∙ ap (λ k. written_below k s) i in
    let d : w ≡ count is_altered s.machine.ring = f.written ∙ ap (λ k. writes k s.machine) i ∙ x.1 in
    rw (a, b, d) (granted_served meaning to_flush h (wrote (count is_altered s.machine.ring)) (flushed s) e refl flushes)

-- the same, where the pool is as it was but for its ring
pub finish_of : {K : Type 0} (meaning : K → List ℕ) (h : Holding K) (a b n : ℕ) (t : Machine) (store : Meaning) (w : ℕ) → sizes_of h ≡ None → Facts (state meaning h) →
    a ≡ h.pool.number.0 → b ≡ h.pool.frames → n ≡ h.pool.frames → Flushing (state meaning h) n t store w →
    Serves (call_of to_flush h.frames h.cells) (state meaning h) (wrote w) (record { number = a; count = b; machine = t; bytes = h.frames; store = store })
finish_of meaning h a b n t store w e v i j k f = rw (i, j) (finish meaning h n t store w e v k f)
