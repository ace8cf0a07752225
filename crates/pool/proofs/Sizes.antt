-- The two sizes, and where a frame lies.
use Rattle.std.proofs.Common.{◌≡◌, ℕ, ◌+◌, ◌*◌, ◌<◌, ◌≤◌, true, eqb, ltb, List, length, Some, None, Option, refl, ◌∙◌, arith}
use Rattle.std.proofs.lemmas.Bool.{ltb-true, and_parts}
use Rattle.std.proofs.lemmas.Bool.Decides.{nat_tests}
use Rattle.machine.specs.Entry.{Entry}
use Rattle.machine.specs.Borrow.{loans_at, carries}
use Rattle.promise.specs.State.{State, occupant}
use Rattle.promise.specs.Serves.{Loan, Request, Answer, good, asked, questions, Does, Serves, refuses, grants}
use Rattle.promise.specs.Facts.{Facts}
use Rattle.stores.proofs.Bytes.{row}
use Rattle.promise.proofs.Uses.{storing}
use Rattle.pool.specs.Asked.{Holding, state, sizes, sizes_of}
use Rattle.pool.specs.Reading.{call_of}

-- memory of the right sizes has them
pub fit_parts : (m p b c : ℕ) → sizes m p b c ≡ None → (b ≡ m * p) × (c ≡ 2 * m)
fit_parts m p b c e = (grind (arith, nat_tests), grind (arith, nat_tests))

pub fit_frames : {K : Type 0} (h : Holding K) → sizes_of h ≡ None → length h.frames ≡ h.pool.frames * h.store.size
fit_frames h e = (fit_parts h.pool.frames h.store.size (length h.frames) (length h.cells) e).0

pub fit_cells : {K : Type 0} (h : Holding K) → sizes_of h ≡ None → length h.cells ≡ 2 * h.pool.frames
fit_cells h e = (fit_parts h.pool.frames h.store.size (length h.frames) (length h.cells) e).1

-- a call that was lent memory of its sizes comes to its own questions
pub own_questions : {K : Type 0} (meaning : K → List ℕ) (q : Request) (h : Holding K) → sizes_of h ≡ None →
    questions (call_of q h.frames h.cells) (state meaning h) ≡ asked q (state meaning h)
own_questions meaning q h e =
    let x = fit_frames h e in
    let y = fit_cells h e in
    grind (arith, nat_tests)

pub refused_served : {K : Type 0} (meaning : K → List ℕ) (q : Request) (h : Holding K) (a : Answer) → sizes_of h ≡ None →
    asked q (state meaning h) ≡ Some a → Serves (call_of q h.frames h.cells) (state meaning h) a (state meaning h)
refused_served meaning q h a e i = refuses (own_questions meaning q h e ∙ i)

pub granted_served : {K : Type 0} (meaning : K → List ℕ) (q : Request) (h : Holding K) (a : Answer) (t : State) → sizes_of h ≡ None →
    asked q (state meaning h) ≡ None → Does q (state meaning h) a t → Serves (call_of q h.frames h.cells) (state meaning h) a t
granted_served meaning q h a t e i d = grants (own_questions meaning q h e ∙ i) d

-- a frame that carries a loan is one of the m
pub carried-below : (s : State) (f : ℕ) → Facts s → ltb 0 (carries f s.machine) ≡ true → f < s.count
carried-below s f v h = go (occupant f s) refl h
  where
    go : (o : Option Entry) → occupant f s ≡ o → ltb 0 (loans_at o) ≡ true → f < s.count
    go None i j = let z = ltb-true 0 0 j in absurd (omega arith)
    go (Some e) i j = (storing.sized s f e v i).0

pub good-below : (s : State) (l : Loan) → Facts s → good l s ≡ true → l.frame < s.count
good-below s l v h = carried-below s l.frame v (and_parts (eqb l.pool s.number) (ltb 0 (carries l.frame s.machine)) h).1

-- the frame's part lies within the frame bytes
pub within : (f m p n : ℕ) → f < m → n ≡ m * p → f * p + p ≤ n
within f m p n h e = let r = row f m p h in omega arith
