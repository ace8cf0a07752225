-- What a proof about the pool's own code, or about a program that uses the pool, takes from the promise.
use Rattle.std.specs.Prelude.{◌≡◌, ℕ, suc, ◌+◌, ◌-◌, ◌*◌, ◌<◌, ◌≤◌, Bool, true, false, cond, ◌&&◌, List, [], ◌∷◌, ◌++◌, map, length, take, drop, is_some, Some, None, Option, ◌==◌, nat_lt}
use Rattle.machine.specs.Entry.{Entry, has_bit, marked, in_frame, lies_in, count, first}
use Rattle.machine.specs.Hands.{Machine}
use Rattle.machine.specs.Borrow.{Outcome, a_hit, a_test_fault, a_cold_fault, Report, granted, Borrow, carries, marking, mark_page}
use Rattle.promise.specs.State.{State, Opening, begun, page_size, part, occupant, holds, together}
use Rattle.stores.specs.declared.faults.Layer.{Layer}
use Rattle.promise.specs.Serves.{Loan, to_borrow, to_view, to_alter, to_return, to_flush, Call, by_pool, Answer, lends, done, denied, good, store_after, taken_back, written_below, is_altered, unaltered, Serves}
use Rattle.promise.specs.Book.{Book, Event, event, noted, book}
use Rattle.promise.specs.Facts.{Facts}
use Rattle.promise.specs.Promise.{Reaches, Sound, Kept}

-- ONE CALL

-- The book as it can be read off a state, without a history. (Its sums are the least that the bits and marks of the ring allow.)
abbrev pub seen : State → Book
seen s = record {
  pages = together s;
  keys = λ f. holds f s;
  loans = λ f. carries f s.machine;
  borrows = count has_bit s.machine.ring + count marked s.machine.ring;
  colds = 0;
  tests = 0;
}

-- The facts are kept, and what the call changes is what it would change in that book: of pages, and of loans by frame.
pub record OneStep : Type 0 where
  pub facts : (c : Call) (s t : State) (a : Answer) → Facts s → Serves c s a t → Facts t
  pub sound : (c : Call) (s t : State) (a : Answer) → Facts s → Serves c s a t → Sound (noted (seen s) c.request a) t
  pub kept : (c : Call) (s t : State) (a : Answer) → Facts s → Serves c s a t → Kept (seen s) c.request a t
  -- a return is granted if its loan is good and the memory fits
  pub returning : (s : State) (l : Loan) → good l s ≡ true →
      Serves (record { bytes = s.count * page_size s; cells = 2 * s.count; request = to_return l }) s done (taken_back l s)

-- What it does to the loans that the frames carry, in plain numbers; and when it is refused for its memory.
pub record Carrying : Type 0 where
  pub lent : (c : Call) (s t : State) (k : List ℕ) (l : Loan) (r : Report) → Facts s → c.request ≡ to_borrow k → Serves c s (lends l r) t →
      (f : ℕ) → carries f t.machine ≡ cond (l.frame == f) (carries f s.machine + 1) (carries f s.machine)
  pub returned : (c : Call) (s t : State) (l : Loan) → Facts s → c.request ≡ to_return l → Serves c s done t →
      (f : ℕ) → carries f t.machine ≡ cond (l.frame == f) (carries f s.machine - 1) (carries f s.machine)
  pub altered : (c : Call) (s t : State) (l : Loan) (offset : ℕ) (new : List ℕ) → Facts s → c.request ≡ to_alter l offset new → Serves c s done t →
      (f : ℕ) → carries f t.machine ≡ carries f s.machine
  pub flushed : (c : Call) (s t : State) (a : Answer) → Facts s → c.request ≡ to_flush → Serves c s a t →
      (f : ℕ) → carries f t.machine ≡ carries f s.machine
  -- a view and a refusal alter nothing
  pub viewed : (c : Call) (s t : State) (l : Loan) (a : Answer) → c.request ≡ to_view l → Serves c s a t → t ≡ s
  pub denying : (c : Call) (s t : State) (y : Layer) (n : ℕ) → Serves c s (denied y n) t → t ≡ s
  pub misfit_bytes : (c : Call) (s : State) → (c.bytes == s.count * page_size s) ≡ false → Serves c s (denied by_pool 3) s
  pub misfit_cells : (c : Call) (s : State) → (c.bytes == s.count * page_size s) ≡ true → (c.cells == 2 * s.count) ≡ false → Serves c s (denied by_pool 4) s

-- ANY HISTORY

-- Some history leads to the state. (Shut for callers: they pass it on.)
unfoldable pub Led : State → Type 0
Led s = (o : Opening) × (h : List Event) × Reaches o h s

abbrev pub Stands : Opening → List Event → State → Type 0
Stands o h s = Reaches o h s × Sound (book o h) s

-- What a call owes: it is served; some history leads on; and every history that led to the state before it, with this
-- call and its answer, leads to the state after it, and the promise stands there.
pub record Served (c : Call) (s : State) (a : Answer) (t : State) : Type 0 where
  pub serves : Serves c s a t
  pub led : Led t
  pub history : (o : Opening) (h : List Event) → Reaches o h s → Stands o (h ++ (event c a ∷ [])) t
  pub kept : (o : Opening) (h : List Event) → Reaches o h s → Kept (book o h) c.request a t

-- what opening has asked for stays so
pub record Limits (s : State) : Type 0 where
  pub size_low : 1 ≤ page_size s
  pub size_high : page_size s ≤ 4096
  pub count_low : 2 ≤ s.count
  pub count_high : s.count ≤ 4096

pub record Owed : Type 0 where
  pub begins : (o : Opening) → Led (begun o)
  pub facts : (s : State) → Led s → Facts s
  pub limits : (s : State) → Led s → Limits s
  pub served : (c : Call) (s t : State) (a : Answer) → Led s → Serves c s a t → Served c s a t

-- A LIST OF CALLS

-- From state s, calls with these answers lead to state t.
pub data Session : State → List Event → State → Type 0 where
  ends : {s : State} → Session s [] s
  next : {s r t : State} {c : Call} {a : Answer} {rest : List Event} → Serves c s a r → Session r rest t → Session s (event c a ∷ rest) t

pub record Whole : Type 0 where
  -- every list of calls can be served, in one way only
  pub always : (calls : List Call) (s : State) → Facts s → (es : List Event) × (t : State) × Session s es t × (map (λ e. e.call) es ≡ calls)
  pub only : (s t u : State) (es ds : List Event) → Session s es t → Session s ds u → map (λ e. e.call) es ≡ map (λ e. e.call) ds → (es ≡ ds) × (t ≡ u)
  -- the promise stands after each of its first n calls, for every n and every history before it
  pub prefixes : (o : Opening) (h : List Event) (s t : State) (es : List Event) → Reaches o h s → Session s es t →
      (n : ℕ) → (r : State) × Session s (take n es) r × Session r (drop n es) t × Stands o (h ++ take n es) r

-- THE STORE IN A CALL

abbrev pub is_fault : Outcome → Bool
is_fault a_hit = false
is_fault a_test_fault = true
is_fault a_cold_fault = true

pub record Storing : Type 0 where
  -- on a fault the report's victim is the key that lay in the frame, if one did
  pub victim : (s : State) (k : List ℕ) (f : ℕ) (r : Report) (t : Machine) → Facts s → Borrow s.count k s.machine (granted f r) t →
      is_fault r.outcome ≡ true → r.victim ≡ holds f s
  -- the page that is read after the victim's was written is the one that the store had before
  pub reading : (s : State) (k : List ℕ) (f : ℕ) (r : Report) (t : Machine) → Facts s → Borrow s.count k s.machine (granted f r) t →
      (store_after r.outcome f s).pages k ≡ s.store.pages k
  -- the frame of a granted borrow is one of the m
  pub framed : (s : State) (k : List ℕ) (f : ℕ) (r : Report) (t : Machine) → Facts s → Borrow s.count k s.machine (granted f r) t → f < s.count
  -- a page in a frame has P bytes, so that no write of it is refused for its length
  pub sized : (s : State) (f : ℕ) (e : Entry) → Facts s → occupant f s ≡ Some e → (f < s.count) × (length (part s f) ≡ page_size s)
  -- while a flush goes on, size and openness of the store and the set of held keys stay
  pub size : (s : State) (n : ℕ) → (written_below n s).size ≡ page_size s
  pub opens : (s : State) (n : ℕ) → (written_below n s).is_open ≡ s.store.is_open
  pub holding : (s : State) (n : ℕ) (k : List ℕ) → Facts s → is_some ((written_below n s).pages k) ≡ is_some (s.store.pages k)

-- A FLUSH, FRAME BY FRAME

-- after the first n frames: their marks are cleared, and so many pages were written
abbrev pub below : ℕ → Entry → Bool
below n e = in_frame (λ f. nat_lt f n) e.frame

abbrev pub cleaned_to : ℕ → Entry → Entry
cleaned_to n e = cond (below n e) (marking false e) e

abbrev pub clean_below : ℕ → Machine → Machine
clean_below n t = record { ring = map (cleaned_to n) t.ring; cold = t.cold; used = t.used }

abbrev pub writes : ℕ → Machine → ℕ
writes n t = count (λ e. e.altered && below n e) t.ring

abbrev pub is_altered_at : Option Entry → Bool
is_altered_at None = false
is_altered_at (Some e) = e.altered

pub record ByFrames : Type 0 where
  pub start : (s : State) → Facts s → (clean_below 0 s.machine ≡ s.machine) × (writes 0 s.machine ≡ 0)
  -- the frame's own entry is as it was, until its turn comes
  pub found : (s : State) (n : ℕ) → Facts s → first (lies_in n) (clean_below n s.machine).ring ≡ occupant n s
  -- an altered page: its mark is cleared, and one more was written
  pub altered : (s : State) (n : ℕ) → Facts s → is_altered_at (occupant n s) ≡ true →
      (clean_below (suc n) s.machine ≡ mark_page n false (clean_below n s.machine)) × (writes (suc n) s.machine ≡ writes n s.machine + 1)
  -- any other: nothing changes
  pub same : (s : State) (n : ℕ) → Facts s → is_altered_at (occupant n s) ≡ false →
      (clean_below (suc n) s.machine ≡ clean_below n s.machine) × (writes (suc n) s.machine ≡ writes n s.machine)
  pub finish : (s : State) → Facts s → (clean_below s.count s.machine ≡ unaltered s.machine) × (writes s.count s.machine ≡ count is_altered s.machine.ring)
