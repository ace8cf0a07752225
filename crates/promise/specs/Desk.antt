-- A desk: a pool whose loans are kept in hands. The loan of the n-th granted borrow is in the n-th hand, until it is returned.
--   Ask, Order       what may be asked for, with a loan named by its hand (from 0); and the memory that the call is lent
--   Desk             the state of a pool, and the hands
--   calling, handed  the call that an order makes, if it makes one; and the hands after its answer
--   Plays            orders, one after another: their answers, and the calls with their answers
--   Held             that the hands hold exactly the loans that the frames carry
--   Prefix, Whole    the promise after every first part of a list of orders
use Rattle.std.specs.Prelude.{◌≡◌, ℕ, ◌+◌, ◌*◌, List, [], ◌∷◌, ◌++◌, take, drop, Some, None, Option, ◌==◌, slice_index_or, slice_set}
use Rattle.machine.specs.Entry.{one}
use Rattle.machine.specs.Borrow.{carries}
use Rattle.promise.specs.State.{State, Opening, page_size}
use Rattle.promise.specs.Serves.{Loan, Request, to_borrow, to_view, to_alter, to_return, to_flush, Call, Answer, lends, shows, done, wrote, denied, Serves}
use Rattle.promise.specs.Book.{Event, event, book}
use Rattle.promise.specs.Promise.{Reaches, Kept}
use Rattle.promise.specs.Uses.{Stands}

pub data Ask : Type 0 where
  ask_borrow : List ℕ → Ask  -- a key
  ask_view : ℕ → Ask  -- a hand
  ask_alter : ℕ → ℕ → List ℕ → Ask  -- a hand, an offset, bytes
  ask_return : ℕ → Ask  -- a hand
  ask_flush : Ask

-- so many frame bytes, and so many cells
pub record Sizes : Type 0 where
  pub bytes : ℕ
  pub cells : ℕ

pub record Order : Type 0 where
  pub ask : Ask
  pub lent : Option Sizes  -- other memory than the pool's own, if any

pub record Desk : Type 0 where
  pub state : State
  pub hands : List (Option Loan)

abbrev pub desk : State → List (Option Loan) → Desk
desk s hands = record { state = s; hands = hands }

-- THE CALL THAT AN ORDER MAKES: none, if the hand that it names has no loan

abbrev pub under_loan : (Loan → Request) → Option Loan → Option Request
under_loan f None = None
under_loan f (Some l) = Some (f l)

abbrev pub request_of : Ask → List (Option Loan) → Option Request
request_of (ask_borrow k) hands = Some (to_borrow k)
request_of (ask_view n) hands = under_loan to_view (slice_index_or hands n None)
request_of (ask_alter n offset new) hands = under_loan (λ l. to_alter l offset new) (slice_index_or hands n None)
request_of (ask_return n) hands = under_loan to_return (slice_index_or hands n None)
request_of ask_flush hands = Some to_flush

abbrev pub own_sizes : State → Sizes
own_sizes s = record { bytes = s.count * page_size s; cells = 2 * s.count }

abbrev pub lent_sizes : State → Option Sizes → Sizes
lent_sizes s None = own_sizes s
lent_sizes s (Some z) = z

abbrev pub call_with : Sizes → Option Request → Option Call
call_with z None = None
call_with z (Some q) = Some (record { bytes = z.bytes; cells = z.cells; request = q })

abbrev pub calling : Order → Desk → Option Call
calling o d = call_with (lent_sizes d.state o.lent) (request_of o.ask d.hands)

-- THE HANDS AFTER ITS ANSWER

-- a granted borrow puts its loan into a new hand
abbrev pub handed_borrow : Answer → List (Option Loan) → List (Option Loan)
handed_borrow (lends l r) hands = hands ++ (Some l ∷ [])
handed_borrow (shows page) hands = hands
handed_borrow done hands = hands
handed_borrow (wrote n) hands = hands
handed_borrow (denied y n) hands = hands

-- a granted return empties the hand
abbrev pub handed_return : ℕ → Answer → List (Option Loan) → List (Option Loan)
handed_return i done hands = slice_set hands i None
handed_return i (lends l r) hands = hands
handed_return i (shows page) hands = hands
handed_return i (wrote n) hands = hands
handed_return i (denied y n) hands = hands

abbrev pub handed : Ask → Answer → List (Option Loan) → List (Option Loan)
handed (ask_borrow k) a hands = handed_borrow a hands
handed (ask_view i) a hands = hands
handed (ask_alter i offset new) a hands = hands
handed (ask_return i) a hands = handed_return i a hands
handed ask_flush a hands = hands

-- From a desk, orders with these answers lead to a desk; the calls that were made, with their answers, are the events. An order
-- that makes no call has no answer of the pool, and changes nothing.
pub data Plays : Desk → List Order → List (Option Answer) → List Event → Desk → Type 0 where
  rests : {d : Desk} → Plays d [] [] [] d
  idles : {d e : Desk} {o : Order} {os : List Order} {ans : List (Option Answer)} {es : List Event} →
      calling o d ≡ None → Plays d os ans es e → Plays d (o ∷ os) (None ∷ ans) es e
  calls : {d e : Desk} {o : Order} {os : List Order} {ans : List (Option Answer)} {es : List Event} {c : Call} {a : Answer} {t : State} →
      calling o d ≡ Some c → Serves c d.state a t → Plays (desk t (handed o.ask a d.hands)) os ans es e →
      Plays d (o ∷ os) (Some a ∷ ans) (event c a ∷ es) e

-- THE LOANS IN THE HANDS

-- how many loans of a frame the hands hold
abbrev pub loans_in : ℕ → List (Option Loan) → ℕ
loans_in f [] = 0
loans_in f (None ∷ hands) = loans_in f hands
loans_in f (Some l ∷ hands) = one (l.frame == f) + loans_in f hands

pub record Held (d : Desk) : Type 0 where
  pub counted : (f : ℕ) → loans_in f d.hands ≡ carries f d.state.machine
  pub own : (i : ℕ) (l : Loan) → slice_index_or d.hands i None ≡ Some l → l.pool ≡ d.state.number

-- THE WHOLE LIST

-- after the first n orders: the desk is as their answers say, the others lead on from it, and the promise stands there, whatever
-- history was before; and it stands of every call that follows
pub record Prefix (o : Opening) (h : List Event) (d : Desk) (os : List Order) (ans : List (Option Answer)) (es : List Event) (e : Desk) (n : ℕ) : Type 0 where
  pub at : Desk
  pub past : List Event
  pub rest : List Event
  pub all : es ≡ past ++ rest
  pub before : Plays d (take n os) (take n ans) past at
  pub after : Plays at (drop n os) (drop n ans) rest e
  pub stands : Stands o (h ++ past) at.state
  pub next : (c : Call) (a : Answer) (t : State) → Serves c at.state a t → Kept (book o (h ++ past)) c.request a t

pub record Whole (d : Desk) (os : List Order) (ans : List (Option Answer)) (e : Desk) : Type 0 where
  pub events : List Event
  pub plays : Plays d os ans events e
  pub promised : (o : Opening) (h : List Event) → Reaches o h d.state → (n : ℕ) → Prefix o h d os ans events e n
