-- Any list of calls: borrows, returns, and changes of altered marks.
--   Calls                              one call after another leads from state to state
--   sum_of                              a number of each answer, added up
--   grants, colds_of, hots_of, tests_of   1 for a granted borrow; its cold, hot and test steps
use Rattle.std.specs.Prelude.{ℕ, ◌+◌, Bool, List, [], ◌∷◌}
use Rattle.machine.specs.Hands.{Machine}
use Rattle.machine.specs.Borrow.{Answer, granted, refused, Borrow, give_back, mark_page}

-- From state s, one call after another leads to state t; the list has the answers of the borrows, in their order.
pub data Calls (m : ℕ) : Machine → List Answer → Machine → Type 0 where
  no_call : {s : Machine} → Calls m s [] s
  a_borrow : {s r t : Machine} {a : Answer} {rest : List Answer} (k : List ℕ) →
      Borrow m k s a r → Calls m r rest t → Calls m s (a ∷ rest) t
  a_return : {s t : Machine} {rest : List Answer} (f : ℕ) →
      Calls m (give_back f s) rest t → Calls m s rest t
  a_mark : {s t : Machine} {rest : List Answer} (f : ℕ) (b : Bool) →
      Calls m (mark_page f b s) rest t → Calls m s rest t

-- One number of each answer, added up.
abbrev pub sum_of : (Answer → ℕ) → List Answer → ℕ
sum_of f [] = 0
sum_of f (a ∷ rest) = f a + sum_of f rest

-- What an answer adds to the sums: of granted borrows, and of cold, hot and test steps.
abbrev pub grants : Answer → ℕ
grants (granted f r) = 1
grants (refused n) = 0

abbrev pub colds_of : Answer → ℕ
colds_of (granted f r) = r.made.colds
colds_of (refused n) = 0

abbrev pub hots_of : Answer → ℕ
hots_of (granted f r) = r.made.hots
hots_of (refused n) = 0

abbrev pub tests_of : Answer → ℕ
tests_of (granted f r) = r.made.tests
tests_of (refused n) = 0
