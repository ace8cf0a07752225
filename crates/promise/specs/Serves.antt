-- The five calls of a pool: what is asked, what is answered, and what they leave.
use Rattle.std.specs.Prelude.{◌≡◌, ℕ, zero, suc, ◌+◌, ◌*◌, Bool, true, false, cond, ◌&&◌, List, map, length, Some, None, Option, ◌==◌, nat_le, nat_lt}
use Rattle.machine.specs.Entry.{Entry, count}
use Rattle.machine.specs.Hands.{Machine}
use Rattle.machine.specs.Borrow.{Outcome, a_hit, a_test_fault, a_cold_fault, Report, granted, refusal, Borrow, carries, returned, marking, mark_page}
use Rattle.stores.specs.declared.faults.Layer.{Layer}
use Rattle.stores.specs.declared.faults.Layer.TheVariants.{Store, Pool}
use Rattle.stores.specs.Meaning.{Meaning, with_page}
use Rattle.stores.specs.Parts.{laid}
use Rattle.promise.specs.State.{State, page_size, part, occupant}

-- A loan carries its frame number and the pool's number.
pub record Loan : Type 0 where
  pub frame : ℕ
  pub pool : ℕ

abbrev pub loan_of : ℕ → ℕ → Loan
loan_of f n = record { frame = f; pool = n }

-- What a call may ask for.
pub data Request : Type 0 where
  to_borrow : List ℕ → Request  -- a key
  to_view : Loan → Request
  to_alter : Loan → ℕ → List ℕ → Request  -- an offset and bytes
  to_return : Loan → Request
  to_flush : Request

-- A call comes with the memory that it was lent: so many frame bytes, and so many cells.
pub record Call : Type 0 where
  pub bytes : ℕ
  pub cells : ℕ
  pub request : Request

-- A refusal has a layer and a number.
abbrev pub by_store : Layer
by_store = Store

abbrev pub by_pool : Layer
by_pool = Pool

pub data Answer : Type 0 where
  lends : Loan → Report → Answer  -- a granted borrow
  shows : List ℕ → Answer  -- a granted view
  done : Answer  -- a granted alteration or return
  wrote : ℕ → Answer  -- a granted flush, with the number of pages written
  denied : Layer → ℕ → Answer  -- a refusal

-- THE QUESTIONS, in their order. The answer is a refusal, or nothing.

-- A borrow's further questions are the machine's: 10 and 11.
abbrev pub by_machine : Option ℕ → Option Answer
by_machine None = None
by_machine (Some n) = Some (denied by_pool n)

-- Does the store hold the key? If not, 9.
abbrev pub asked_borrow : List ℕ → State → Option (List ℕ) → Option Answer
asked_borrow k s None = Some (denied by_store 9)
asked_borrow k s (Some page) = by_machine (refusal s.count k s.machine)

-- Has the loan this pool's number, and does its frame carry a loan? If not, 12.
abbrev pub good : Loan → State → Bool
good l s = l.pool == s.number && nat_lt 0 (carries l.frame s.machine)

abbrev pub asked : Request → State → Option Answer
asked (to_borrow k) s = asked_borrow k s (s.store.pages k)
asked (to_view l) s = cond (good l s) None (Some (denied by_pool 12))
asked (to_alter l offset new) s =
    cond (good l s)
    (cond s.store.is_open  -- is the store open? If not, 13.
    (cond (nat_le (offset + length new) (page_size s)) None (Some (denied by_pool 14)))  -- do the bytes end within the page? If not, 14.
    (Some (denied by_store 13)))
    (Some (denied by_pool 12))
asked (to_return l) s = cond (good l s) None (Some (denied by_pool 12))
asked to_flush s = None

-- Before all others: are there m × P frame bytes? If not, 3. Are there 2 × m cells? If not, 4.
abbrev pub questions : Call → State → Option Answer
questions c s =
    cond (c.bytes == s.count * page_size s)
    (cond (c.cells == 2 * s.count) (asked c.request s) (Some (denied by_pool 4)))
    (Some (denied by_pool 3))

-- WHAT IS LEFT

-- The store, after the page in a frame was written to it if that entry was altered.
abbrev pub sent_out : List ℕ → Option Entry → Meaning → Meaning
sent_out page None store = store
sent_out page (Some e) store = cond e.altered (with_page e.key page store) store

-- After a hit, bytes and store are as before. On a fault the victim is what lay in the frame, if something did: its page
-- is written to the store if it was altered. Then the frame is filled with the page of the key.
abbrev pub store_after : Outcome → ℕ → State → Meaning
store_after a_hit f s = s.store
store_after a_test_fault f s = sent_out (part s f) (occupant f s) s.store
store_after a_cold_fault f s = sent_out (part s f) (occupant f s) s.store

abbrev pub bytes_after : Outcome → ℕ → List ℕ → State → List ℕ
bytes_after a_hit f page s = s.bytes
bytes_after a_test_fault f page s = laid (f * page_size s) page s.bytes
bytes_after a_cold_fault f page s = laid (f * page_size s) page s.bytes

abbrev pub borrowed : Outcome → ℕ → List ℕ → Machine → State → State
borrowed o f page t s = record { number = s.number; count = s.count; machine = t; bytes = bytes_after o f page s; store = store_after o f s }

-- An alteration lays its bytes on the page from the offset and sets the altered mark.
abbrev pub altered : Loan → ℕ → List ℕ → State → State
altered l offset new s = record {
  number = s.number;
  count = s.count;
  machine = mark_page l.frame true s.machine;
  bytes = laid (l.frame * page_size s + offset) new s.bytes;
  store = s.store;
}

-- A return takes one loan off the frame.
abbrev pub taken_back : Loan → State → State
taken_back l s = record { number = s.number; count = s.count; machine = returned l.frame s.machine; bytes = s.bytes; store = s.store }

-- A flush writes every altered page to the store in order of frame (here: those in the first n frames) and clears the marks.
abbrev pub written_below : ℕ → State → Meaning
written_below zero s = s.store
written_below (suc n) s = sent_out (part s n) (occupant n s) (written_below n s)

abbrev pub is_altered : Entry → Bool
is_altered e = e.altered

abbrev pub unaltered : Machine → Machine
unaltered t = record { ring = map (marking false) t.ring; cold = t.cold; used = t.used }

abbrev pub flushed : State → State
flushed s = record { number = s.number; count = s.count; machine = unaltered s.machine; bytes = s.bytes; store = written_below s.count s }

-- WHAT EACH REQUEST DOES, once every question had its yes
pub data Does : Request → State → Answer → State → Type 0 where
  borrows : {s : State} {k page : List ℕ} {f : ℕ} {r : Report} {t : Machine} →
      s.store.pages k ≡ Some page →
      Borrow s.count k s.machine (granted f r) t →
      Does (to_borrow k) s (lends (loan_of f s.number) r) (borrowed r.outcome f page t s)
  views : {s : State} {l : Loan} → Does (to_view l) s (shows (part s l.frame)) s
  alters : {s : State} {l : Loan} {offset : ℕ} {new : List ℕ} → Does (to_alter l offset new) s done (altered l offset new s)
  returns : {s : State} {l : Loan} → Does (to_return l) s done (taken_back l s)
  flushes : {s : State} → Does to_flush s (wrote (count is_altered s.machine.ring)) (flushed s)

-- A call is refused and alters nothing, or it is granted.
pub data Serves (c : Call) : State → Answer → State → Type 0 where
  refuses : {s : State} {a : Answer} → questions c s ≡ Some a → Serves c s a s
  grants : {s t : State} {a : Answer} → questions c s ≡ None → Does c.request s a t → Serves c s a t
