-- What a call of a pool supposes and what it owes.
--   Holding, holding   what a caller lends: the pool, frame bytes, cells, and what the store means
--   state              the same as one state of the promise
--   sizes, sizes_of    the two questions before all others
--   Ready              that all is as opening or the call before left it
--   Supposed           what a call supposes: nothing, if it was lent memory of other sizes
--   Asked              what a call owes
--   Opened             what set-up owes
use Rattle.std.specs.Prelude.{◌≡◌, ℕ, ◌*◌, cond, List, [], length, Some, None, Option, ◌==◌}
use Rattle.stores.specs.Meaning.{Meaning}
use Rattle.chains.specs.declared.cell.Cell.{Cell}
use Rattle.records.specs.declared.entry.Entry.{Entry}
use Rattle.rows.specs.Rows.{Stands}
use Rattle.promise.specs.State.{State, Opening}
use Rattle.promise.specs.Serves.{Request, Answer, by_pool, denied}
use Rattle.promise.specs.Uses as promise
use Rattle.promise.specs.Uses.{Led, Served}
use Rattle.pool.specs.declared.state.Pool.{Pool}
use Rattle.pool.specs.Reading.{state_of, call_of}

pub record Holding (K : Type 0) : Type 0 where
  pub pool : Pool
  pub frames : List ℕ
  pub cells : List (Cell (Entry K))
  pub store : Meaning

abbrev pub holding : {K : Type 0} → Pool → List ℕ → List (Cell (Entry K)) → Meaning → Holding K
holding pool frames cells store = record { pool = pool; frames = frames; cells = cells; store = store }

abbrev pub state : {K : Type 0} → (K → List ℕ) → Holding K → State
state meaning h = state_of meaning h.pool h.frames h.cells h.store

-- Are there m × P frame bytes? 3. Are there 2 × m cells? 4.
abbrev pub sizes : ℕ → ℕ → ℕ → ℕ → Option ℕ
sizes m p bytes cells = cond (bytes == m * p) (cond (cells == 2 * m) None (Some 4)) (Some 3)

abbrev pub sizes_of : {K : Type 0} → Holding K → Option ℕ
sizes_of h = sizes h.pool.frames h.store.size (length h.frames) (length h.cells)

-- The cells belong to the pool, and some history of calls since an opening led to this state.
pub record Ready {K : Type 0} (meaning : K → List ℕ) (h : Holding K) : Type 0 where
  pub stands : Stands h.cells h.pool.ring.table
  pub led : Led (state meaning h)

abbrev pub Supposed : {K : Type 0} → (K → List ℕ) → Holding K → Type 0
Supposed meaning h = sizes_of h ≡ None → Ready meaning h

-- A call that was lent memory of its sizes is served: every history that led to the state before it leads on with this call
-- and this answer, and the promise stands there.
pub record Done {K : Type 0} (meaning : K → List ℕ) (q : Request) (h : Holding K) (a : Answer) (after : Holding K) : Type 0 where
  pub ready : Ready meaning after
  pub served : Served (call_of q h.frames h.cells) (state meaning h) a (state meaning after)

-- A call that was lent other memory is refused with 3 or 4 and alters nothing of what it was lent. Whatever the pool's own
-- frame bytes and cells are, the same holds of them: every history leads on with this call and its refusal.
pub record Misfit {K : Type 0} (meaning : K → List ℕ) (q : Request) (n : ℕ) (h : Holding K) (a : Answer) (after : Holding K) : Type 0 where
  pub refused : a ≡ denied by_pool n
  pub same : after ≡ h
  pub history : (frames : List ℕ) (cells : List (Cell (Entry K))) → Ready meaning (holding h.pool frames cells h.store) →
      Served (call_of q h.frames h.cells) (state_of meaning h.pool frames cells h.store) a (state_of meaning h.pool frames cells h.store)

pub record Asked {K : Type 0} (meaning : K → List ℕ) (q : Request) (h : Holding K) (a : Answer) (after : Holding K) : Type 0 where
  pub fits : sizes_of h ≡ None → Done meaning q h a after
  pub misfits : (n : ℕ) → sizes_of h ≡ Some n → Misfit meaning q n h a after
  -- the pool's number, m and P stay
  pub same_number : after.pool.number ≡ h.pool.number
  pub same_count : after.pool.frames ≡ h.pool.frames
  pub same_size : after.store.size ≡ h.store.size

-- Set-up leaves the state of an opening, with no call made yet; the promise stands there.
pub record Opened {K : Type 0} (meaning : K → List ℕ) (number m : ℕ) (frames : List ℕ) (store : Meaning) (after : Holding K) : Type 0 where
  pub opening : Opening
  pub its_number : opening.number ≡ number
  pub its_count : opening.count ≡ m
  pub its_bytes : opening.bytes ≡ frames
  pub its_store : opening.store ≡ store
  pub ready : Ready meaning after
  pub stands : promise.Stands opening [] (state meaning after)
