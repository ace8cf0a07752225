-- What a desk supposes and what it owes.
--   AtDesk    that all is as opening or the order before left it, and the hands hold the loans that the frames carry
--   Called    what a call from the desk owes, whatever memory it is lent
--   Turned    what it owes where that memory is not of the pool's sizes
--   Ordered   what one order owes
--   Served    what a list of orders owes: the whole promise, after every first part of it
use Rattle.std.specs.Prelude.{◌≡◌, ℕ, List, [], ◌∷◌, map, length, take, Some, None, Option}
use Rattle.stores.specs.Meaning.{Meaning}
use Rattle.stores.specs.declared.faults.Layer.{Layer}
use Rattle.chains.specs.declared.cell.Cell.{Cell}
use Rattle.records.specs.declared.entry.Entry.{Entry}
use Rattle.promise.specs.Serves.{Request, Answer, denied, Serves}
use Rattle.promise.specs.Book.{Event}
use Rattle.promise.specs.Desk.{Desk, request_of, handed, Plays, Held, Whole}
use Rattle.pool.specs.Asked.{Holding, holding, sizes_of, Ready, Asked}
use Rattle.pool.specs.Reading.{state_of}
use Rattle.pool.specs.declared.state.Pool.{Pool}
use Rattle.pool.specs.declared.state.Loan.{Loan}
use Rattle.desk.specs.declared.orders.Ask.{Ask}
use Rattle.desk.specs.declared.orders.Sizes.{Sizes}
use Rattle.desk.specs.declared.orders.Order.{Order}
use Rattle.desk.specs.declared.orders.Reply.{Reply}
use Rattle.desk.specs.Reading.{ask_in, order_in, reply_in, hands_in, desk_of}

pub record AtDesk {K : Type 0} (meaning : K → List ℕ) (h : Holding K) (hands : List (Option Loan)) : Type 0 where
  pub fits : sizes_of h ≡ None
  pub ready : Ready meaning h
  pub held : Held (desk_of meaning h hands)

-- a call that was made
pub record Answered {K : Type 0} (meaning : K → List ℕ) (q : Request) (ask : Ask K) (h : Holding K) (hands : List (Option Loan)) (r : Reply K) (after : Holding K) (left : List (Option Loan)) : Type 0 where
  pub answer : Answer
  pub replied : reply_in meaning r ≡ Some answer
  pub asked : Asked meaning q h answer after
  pub in_hands : hands_in left ≡ handed (ask_in meaning ask) answer (hands_in hands)

-- no call was made
pub record Unasked {K : Type 0} (meaning : K → List ℕ) (h : Holding K) (hands : List (Option Loan)) (r : Reply K) (after : Holding K) (left : List (Option Loan)) : Type 0 where
  pub replied : reply_in meaning r ≡ None
  pub same : after ≡ h
  pub in_hands : hands_in left ≡ hands_in hands

abbrev pub CalledBy : {K : Type 0} → (K → List ℕ) → Option Request → Ask K → Holding K → List (Option Loan) → Reply K → Holding K → List (Option Loan) → Type 0
CalledBy meaning None ask h hands r after left = Unasked meaning h hands r after left
CalledBy meaning (Some q) ask h hands r after left = Answered meaning q ask h hands r after left

abbrev pub Called : {K : Type 0} → (K → List ℕ) → Ask K → Holding K → List (Option Loan) → Reply K → Holding K → List (Option Loan) → Type 0
Called meaning ask h hands r after left = CalledBy meaning (request_of (ask_in meaning ask) (hands_in hands)) ask h hands r after left

-- want of memory: nothing was done
pub record Same {K : Type 0} (h : Holding K) (hands : List (Option Loan)) (after : Holding K) (left : List (Option Loan)) : Type 0 where
  pub same : after ≡ h
  pub in_hands : left ≡ hands

-- The same where the call was lent other memory, of sizes that are not the pool's: it is refused, and nothing changes. Whatever
-- the desk's own memory is, the call is served so.
pub record Turned {K : Type 0} (meaning : K → List ℕ) (ask : Ask K) (z : Sizes) (pool : Pool) (store : Meaning) (hands : List (Option Loan)) (r : Reply K) (pool2 : Pool) (store2 : Meaning) (left : List (Option Loan)) : Type 0 where
  pub same_pool : pool2 ≡ pool
  pub same_store : store2 ≡ store
  pub in_hands : hands_in left ≡ hands_in hands
  pub unasked : request_of (ask_in meaning ask) (hands_in hands) ≡ None → reply_in meaning r ≡ None
  pub refused : (q : Request) → request_of (ask_in meaning ask) (hands_in hands) ≡ Some q → (y : Layer) × (n : ℕ) × (reply_in meaning r ≡ Some (denied y n)) × (
      (frames : List ℕ) (cells : List (Cell (Entry K))) → Ready meaning (holding pool frames cells store) →
      Serves (record { bytes = z.bytes; cells = z.cells; request = q }) (state_of meaning pool frames cells store) (denied y n) (state_of meaning pool frames cells store))

pub record Untouched (pool : Pool) (store : Meaning) (hands : List (Option Loan)) (pool2 : Pool) (store2 : Meaning) (left : List (Option Loan)) : Type 0 where
  pub same_pool : pool2 ≡ pool
  pub same_store : store2 ≡ store
  pub in_hands : left ≡ hands

-- one order: at most one call, and its answer
pub record Ordered {K : Type 0} (meaning : K → List ℕ) (o : Order K) (before : Desk) (r : Reply K) (after : Desk) : Type 0 where
  pub events : List Event
  pub plays : Plays before (order_in meaning o ∷ []) (reply_in meaning r ∷ []) events after

-- a list of orders, as many as there are replies
abbrev pub Served : {K : Type 0} → (K → List ℕ) → List (Order K) → Desk → List (Reply K) → Desk → Type 0
Served meaning orders before replies after = Whole before (map (order_in meaning) (take (length replies) orders)) (map (reply_in meaning) replies) after
