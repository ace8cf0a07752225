-- The sample runs, as data, and what it means that a row holds.
--   Word, Plays          what a run does before its last borrow, and that it leads from state to state
--   Reply, Seen, Row     what the table shows of an answer, of an entry, and a row of it
--   table                the lettered rows
--   Holds                that a row is so
use Rattle.std.specs.Prelude.{◌≡◌, ℕ, Bool, true, false, cond, ◌&&◌, List, [], ◌∷◌, ◌++◌, map, Some, None}
use Rattle.machine.specs.Entry.{Entry, resident, named, first}
use Rattle.machine.specs.Hands.{Machine, opened, steps}
use Rattle.machine.specs.Borrow.{a_hit, a_test_fault, a_cold_fault, Report, Answer, granted, refused, Borrow, give_back}

-- What a run does before its last borrow. A key is a page number.
pub data Word : Type 0 where
  once : ℕ → Word  -- borrow the key and return the loan
  keep : ℕ → Word  -- borrow the key and keep the loan
  back : ℕ → Word  -- return a loan of the key

abbrev pub page : ℕ → List ℕ
page n = n ∷ []

pub data Plays (m : ℕ) : Machine → List Word → Machine → Type 0 where
  ends : {s : Machine} → Plays m s [] s
  borrows_once : {s r t : Machine} {n f : ℕ} {q : Report} {ws : List Word} →
      Borrow m (page n) s (granted f q) r → Plays m (give_back f r) ws t → Plays m s (once n ∷ ws) t
  borrows_kept : {s r t : Machine} {n f : ℕ} {q : Report} {ws : List Word} →
      Borrow m (page n) s (granted f q) r → Plays m r ws t → Plays m s (keep n ∷ ws) t
  gives_back : {s t : Machine} {n f : ℕ} {e : Entry} {ws : List Word} →
      first (named (page n)) s.ring ≡ Some e → e.frame ≡ Some f → Plays m (give_back f s) ws t → Plays m s (back n ∷ ws) t

-- What the table shows of an answer: all but the frame.
pub data Reply : Type 0 where
  reports : Report → Reply
  refuses_with : ℕ → Reply

abbrev pub reply : Answer → Reply
reply (granted f r) = reports r
reply (refused n) = refuses_with n

-- What the table shows of an entry: H hot, C resident cold, N remembered, t the test mark of a resident, * the bit.
pub data Letter : Type 0 where
  hot_letter : Letter
  cold_letter : Letter
  away_letter : Letter

pub record Seen : Type 0 where
  pub key : List ℕ
  pub letter : Letter
  pub t : Bool
  pub star : Bool

abbrev pub seen : Entry → Seen
seen e = record { key = e.key; letter = cond e.hot hot_letter (cond (resident e) cold_letter away_letter); t = resident e && e.test; star = e.bit }

abbrev pub shows_hot : ℕ → Seen
shows_hot n = record { key = page n; letter = hot_letter; t = false; star = false }

abbrev pub shows_cold : ℕ → Seen
shows_cold n = record { key = page n; letter = cold_letter; t = false; star = false }

abbrev pub shows_tested : ℕ → Seen
shows_tested n = record { key = page n; letter = cold_letter; t = true; star = false }

abbrev pub shows_tested_set : ℕ → Seen
shows_tested_set n = record { key = page n; letter = cold_letter; t = true; star = true }

abbrev pub shows_remembered : ℕ → Seen
shows_remembered n = record { key = page n; letter = away_letter; t = false; star = false }

-- A row: m, the run, the last borrow, what it answers, and the ring after it.
pub record Row : Type 0 where
  pub m : ℕ
  pub run : List Word
  pub last : ℕ
  pub answer : Reply
  pub ring : List Seen

-- What a borrow answers, as the table has it: the victim, the cold, hot and test steps, c after.
abbrev pub test_fault : ℕ → ℕ → ℕ → ℕ → ℕ → Reply
test_fault v x y z c = reports (record { outcome = a_test_fault; victim = Some (page v); made = steps x y z; cold = c })

abbrev pub cold_fault : ℕ → ℕ → ℕ → ℕ → ℕ → Reply
cold_fault v x y z c = reports (record { outcome = a_cold_fault; victim = Some (page v); made = steps x y z; cold = c })

abbrev pub cold_fault_fresh : ℕ → ℕ → ℕ → ℕ → Reply  -- a cold fault without a victim
cold_fault_fresh x y z c = reports (record { outcome = a_cold_fault; victim = None; made = steps x y z; cold = c })

abbrev pub bare_hit : ℕ → Reply
bare_hit c = reports (record { outcome = a_hit; victim = None; made = steps 0 0 0; cold = c })

-- The run of a row goes on where that of the row above ended.
abbrev pub run_a : List Word
run_a = once 1 ∷ once 2 ∷ []

abbrev pub run_b : List Word
run_b = run_a ++ (once 3 ∷ [])

abbrev pub run_c : List Word
run_c = run_b ++ (once 1 ∷ [])

abbrev pub run_d : List Word
run_d = run_c ++ (once 4 ∷ [])

abbrev pub run_e : List Word
run_e = run_d ++ (once 2 ∷ [])

abbrev pub run_g : List Word
run_g = run_e ++ (once 5 ∷ [])

abbrev pub run_f : List Word
run_f = run_g ++ (once 1 ∷ [])

abbrev pub table : List Row
table =
    record { m = 3; run = run_a; last = 3; answer = cold_fault_fresh 0 0 0 2; ring = shows_tested 1 ∷ shows_tested 2 ∷ shows_tested 3 ∷ [] }  -- A
    ∷ record { m = 3; run = run_b; last = 1; answer = bare_hit 2; ring = shows_tested_set 1 ∷ shows_tested 2 ∷ shows_tested 3 ∷ [] }  -- B
    ∷ record { m = 3; run = run_c; last = 4; answer = cold_fault 2 2 0 0 2; ring = shows_remembered 2 ∷ shows_tested 3 ∷ shows_hot 1 ∷ shows_tested 4 ∷ [] }  -- C
    ∷ record { m = 3; run = run_d; last = 2; answer = test_fault 3 1 1 0 1; ring = shows_hot 1 ∷ shows_tested 4 ∷ shows_hot 2 ∷ [] }  -- D
    ∷ record { m = 3; run = run_e; last = 5; answer = cold_fault 4 1 0 0 1; ring = shows_hot 1 ∷ shows_remembered 4 ∷ shows_hot 2 ∷ shows_tested 5 ∷ [] }  -- E
    ∷ record { m = 3; run = run_f; last = 4; answer = test_fault 5 1 3 0 1; ring = shows_hot 4 ∷ shows_hot 1 ∷ shows_cold 2 ∷ [] }  -- F
    ∷ record { m = 3; run = run_g; last = 4; answer = test_fault 5 1 2 0 2; ring = shows_remembered 5 ∷ shows_hot 4 ∷ shows_cold 1 ∷ shows_cold 2 ∷ [] }  -- G
    ∷ record { m = 2; run = once 1 ∷ once 2 ∷ once 3 ∷ once 4 ∷ []; last = 5; answer = cold_fault 3 1 0 1 1; ring = shows_remembered 2 ∷ shows_remembered 3 ∷ shows_tested 4 ∷ shows_tested 5 ∷ [] }  -- H
    ∷ record { m = 2; run = keep 1 ∷ keep 2 ∷ []; last = 3; answer = refuses_with 11; ring = shows_tested 1 ∷ shows_tested 2 ∷ [] }  -- I
    ∷ record { m = 2; run = keep 1 ∷ keep 2 ∷ back 2 ∷ []; last = 3; answer = cold_fault 2 1 0 0 1; ring = shows_tested 1 ∷ shows_remembered 2 ∷ shows_tested 3 ∷ [] }  -- J
    ∷ record { m = 2; run = once 1 ∷ once 2 ∷ once 1 ∷ keep 3 ∷ []; last = 4; answer = cold_fault 1 1 2 0 1; ring = shows_tested 3 ∷ shows_tested 4 ∷ [] }  -- K
    ∷ []

-- A row holds: from opening, its run leads to a state in which the last borrow has that answer and leaves that ring.
pub record Holds (r : Row) : Type 0 where
  pub before : Machine
  pub given : Answer
  pub after : Machine
  pub plays : Plays r.m (opened r.m) r.run before
  pub borrows : Borrow r.m (page r.last) before given after
  pub answers : reply given ≡ r.answer
  pub leaves : map seen after.ring ≡ r.ring
