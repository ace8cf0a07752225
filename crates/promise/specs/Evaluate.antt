-- An evaluator of calls, with fuel for the hands, and a sample session over a work file.
use Rattle.std.specs.Prelude.{◌≡◌, ℕ, true, cond, List, [], ◌∷◌, map, Some, None, Option, nat_lt}
use Rattle.machine.specs.Entry.{count}
use Rattle.machine.specs.Hands.{Machine, steps}
use Rattle.machine.specs.Borrow.{a_hit, a_test_fault, a_cold_fault, Outcome, Report, granted, refused}
use Rattle.machine.specs.Borrow as machine
use Rattle.machine.specs.Evaluate.{eval_borrow, onward}
use Rattle.stores.specs.Meaning.{Meaning}
use Rattle.promise.specs.State.{State, Opening, begun, part}
use Rattle.stores.specs.Parts.{part_of}
use Rattle.promise.specs.Serves.{loan_of, Request, to_borrow, to_view, to_alter, to_return, to_flush, Call, by_store, by_pool, Answer, lends, shows, done, wrote, denied, questions, borrowed, altered, taken_back, is_altered, flushed, Serves}
use Rattle.promise.specs.Book.{Event, event}
use Rattle.promise.specs.Uses.{Session}

pub record Result : Type 0 where
  pub answer : Answer
  pub after : State

abbrev pub result : Answer → State → Option Result
result a t = Some (record { answer = a; after = t })

abbrev pub eval_lent : State → List ℕ → Machine → machine.Answer → Option Result
eval_lent s page t (granted f r) = result (lends (loan_of f s.number) r) (borrowed r.outcome f page t s)
eval_lent s page t (refused n) = None

abbrev pub eval_borrowing : ℕ → List ℕ → State → Option (List ℕ) → Option Result
eval_borrowing fuel k s None = None
eval_borrowing fuel k s (Some page) = onward (λ d. eval_lent s page d.after d.answer) (eval_borrow s.count fuel k s.machine)

abbrev pub eval_does : ℕ → Request → State → Option Result
eval_does fuel (to_borrow k) s = eval_borrowing fuel k s (s.store.pages k)
eval_does fuel (to_view l) s = result (shows (part s l.frame)) s
eval_does fuel (to_alter l offset new) s = result done (altered l offset new s)
eval_does fuel (to_return l) s = result done (taken_back l s)
eval_does fuel to_flush s = result (wrote (count is_altered s.machine.ring)) (flushed s)

abbrev pub eval_asked : ℕ → Call → State → Option Answer → Option Result
eval_asked fuel c s (Some a) = result a s
eval_asked fuel c s None = eval_does fuel c.request s

abbrev pub eval_call : ℕ → Call → State → Option Result
eval_call fuel c s = eval_asked fuel c s (questions c s)

-- A list of calls: the calls with their answers, and the state after them.
pub record Played : Type 0 where
  pub events : List Event
  pub after : State

abbrev pub played : Call → Answer → Played → Option Played
played c a p = Some (record { events = event c a ∷ p.events; after = p.after })

abbrev pub eval_session : ℕ → List Call → State → Option Played
eval_session fuel [] s = Some (record { events = []; after = s })
eval_session fuel (c ∷ rest) s = onward (λ r. onward (played c r.answer) (eval_session fuel rest r.after)) (eval_call fuel c s)

-- What the evaluator gives is so.
pub record Evaluates : Type 0 where
  pub call : (fuel : ℕ) (c : Call) (s t : State) (a : Answer) → eval_call fuel c s ≡ Some (record { answer = a; after = t }) → Serves c s a t
  pub session : (fuel : ℕ) (calls : List Call) (s t : State) (es : List Event) → eval_session fuel calls s ≡ Some (record { events = es; after = t }) → Session s es t

-- A SAMPLE SESSION: two frames of two bytes over a work file of four pages.

-- a work file: key n is the n-th page
abbrev pub file_pages : ℕ → ℕ → List ℕ → List ℕ → Option (List ℕ)
file_pages p n bytes [] = None
file_pages p n bytes (i ∷ []) = cond (nat_lt i n) (Some (part_of p bytes i)) None
file_pages p n bytes (i ∷ (j ∷ rest)) = None

abbrev pub work_file : ℕ → ℕ → List ℕ → Meaning
work_file p n bytes = record { size = p; is_open = true; pages = file_pages p n bytes }

abbrev pub file : Meaning
file = work_file 2 4 (0 ∷ 1 ∷ 2 ∷ 3 ∷ 4 ∷ 5 ∷ 6 ∷ 7 ∷ [])

abbrev pub asks : Request → Call
asks q = record { bytes = 4; cells = 4; request = q }

abbrev pub page : ℕ → List ℕ
page n = n ∷ []

abbrev pub told : Outcome → Option (List ℕ) → ℕ → ℕ → ℕ → ℕ → Report
told o v x y z c = record { outcome = o; victim = v; made = steps x y z; cold = c }

abbrev pub sample : List Event
sample =
    event (asks (to_borrow (page 0))) (lends (loan_of 0 7) (told a_cold_fault None 0 0 0 1)) ∷
    event (asks (to_alter (loan_of 0 7) 1 (170 ∷ []))) done ∷
    event (asks (to_view (loan_of 0 7))) (shows (0 ∷ 170 ∷ [])) ∷
    event (asks (to_return (loan_of 0 7))) done ∷
    event (asks (to_return (loan_of 0 7))) (denied by_pool 12) ∷
    event (asks (to_borrow (page 1))) (lends (loan_of 1 7) (told a_cold_fault None 0 0 0 1)) ∷
    event (asks (to_borrow (page 2))) (lends (loan_of 0 7) (told a_cold_fault (Some (page 0)) 1 0 0 1)) ∷  -- page 0 was altered: it is written
    event (asks (to_view (loan_of 0 7))) (shows (4 ∷ 5 ∷ [])) ∷
    event (asks (to_borrow (page 3))) (denied by_pool 11) ∷
    event (asks (to_borrow (page 9))) (denied by_store 9) ∷
    event (asks (to_alter (loan_of 1 7) 0 (187 ∷ 204 ∷ []))) done ∷
    event (asks (to_alter (loan_of 1 7) 1 (1 ∷ 2 ∷ []))) (denied by_pool 14) ∷
    event (asks (to_alter (loan_of 1 7) 2 [])) done ∷  -- no bytes at offset P
    event (asks (to_return (loan_of 0 7))) done ∷
    event (asks (to_borrow (page 0))) (lends (loan_of 0 7) (told a_test_fault (Some (page 2)) 1 0 0 1)) ∷
    event (asks (to_view (loan_of 0 7))) (shows (0 ∷ 170 ∷ [])) ∷
    event (asks (to_view (loan_of 0 8))) (denied by_pool 12) ∷  -- another pool's number
    event (record { bytes = 3; cells = 4; request = to_flush }) (denied by_pool 3) ∷
    event (record { bytes = 4; cells = 5; request = to_flush }) (denied by_pool 4) ∷
    event (asks to_flush) (wrote 1) ∷
    event (asks to_flush) (wrote 0) ∷
    event (asks (to_borrow (page 1))) (lends (loan_of 1 7) (told a_hit None 0 0 0 1)) ∷
    []

pub record Sample : Type 0 where
  pub opening : Opening
  pub number : opening.number ≡ 7
  pub frames : opening.count ≡ 2
  pub bytes : opening.bytes ≡ 0 ∷ 0 ∷ 0 ∷ 0 ∷ []
  pub store : opening.store ≡ file
  pub after : State
  pub session : Session (begun opening) sample after
  pub stored : map (λ n. after.store.pages (page n)) (0 ∷ 1 ∷ 2 ∷ 3 ∷ 4 ∷ []) ≡
      Some (0 ∷ 170 ∷ []) ∷ Some (187 ∷ 204 ∷ []) ∷ Some (4 ∷ 5 ∷ []) ∷ Some (6 ∷ 7 ∷ []) ∷ None ∷ []
