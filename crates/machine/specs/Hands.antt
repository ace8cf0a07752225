-- The list machine: its state, the three hands, and their runs.
-- A step is a function of the state. A run is a relation that repeats a step: it holds between the state before,
-- the number of steps, and the state after. Its constructors say when the run rests and when it goes on.
--   Machine, opened            the state, and the state at opening
--   raised, lowered            the cold allocation c, one more or one less within its limits
--   hot_step                    what the hot hand does at the tail
--   test_step                   what the test hand does at the first entry with the test mark
--   promote, retest, evict     what the cold hand does at the candidate
--   too_hot, HotRun             a hot run, and the question on which it goes on
--   too_many, TestRun           a test run, and the question on which it goes on
--   Steps, ColdRun             the steps of the three hands, and a cold run
use Rattle.std.specs.Prelude.{◌≡◌, ℕ, suc, ◌+◌, ◌-◌, Bool, true, false, cond, List, [], ◌∷◌, ◌++◌, Some, None, nat_lt}
use Rattle.machine.specs.Entry.{Entry, is_hot, marked, resident, remembered, free, count, first, replaced, without}

-- m, the number of frames, never changes; it stands beside the state as a number of its own.
pub record Machine : Type 0 where
  pub ring : List Entry  -- from the tail to the head
  pub cold : ℕ  -- c, the cold allocation
  pub used : ℕ  -- u, the number of frames in use

-- At opening the list is empty, c is m - 1, and no frame is in use.
abbrev pub opened : ℕ → Machine
opened m = record { ring = []; cold = m - 1; used = 0 }

-- c never leaves the range 1 to m - 1: raising adds 1 below m - 1, lowering takes 1 above 1.
abbrev pub raised : ℕ → ℕ → ℕ
raised m c = cond (nat_lt c (m - 1)) (c + 1) c

abbrev pub lowered : ℕ → ℕ
lowered c = cond (nat_lt 1 c) (c - 1) c

-- What a step does to an entry.
abbrev pub cleared : Entry → Entry  -- the bit is cleared
cleared e = record { key = e.key; hot = e.hot; frame = e.frame; test = e.test; bit = false; loans = e.loans; altered = e.altered }

abbrev pub cooled : Entry → Entry  -- it becomes cold without a test mark
cooled e = record { key = e.key; hot = false; frame = e.frame; test = false; bit = e.bit; loans = e.loans; altered = e.altered }

abbrev pub unmarked : Entry → Entry  -- it loses the test mark
unmarked e = record { key = e.key; hot = e.hot; frame = e.frame; test = false; bit = e.bit; loans = e.loans; altered = e.altered }

abbrev pub promoted : Entry → Entry  -- it becomes hot and loses bit and test mark
promoted e = record { key = e.key; hot = true; frame = e.frame; test = false; bit = false; loans = e.loans; altered = e.altered }

abbrev pub retested : Entry → Entry  -- the bit is cleared and the test mark is given
retested e = record { key = e.key; hot = e.hot; frame = e.frame; test = true; bit = false; loans = e.loans; altered = e.altered }

abbrev pub evicted : Entry → Entry  -- its page has left: it is remembered
evicted e = record { key = e.key; hot = false; frame = None; test = true; bit = false; loans = 0; altered = false }

-- The hot step looks at the entry at the tail. It is asked: is it hot, is its bit set, is it resident? The entry leaves
-- the tail, and this stands at the head in its stead:
abbrev pub turned_by : Entry → Bool → Bool → Bool → List Entry
turned_by e true true r = cleared e ∷ []  -- H1, hot with its bit set: the bit is cleared
turned_by e true false r = cooled e ∷ []  -- H2, hot with its bit clear: it becomes cold without a test mark
turned_by e false b true = unmarked e ∷ []  -- H3, resident cold: if it had the test mark, it loses it
turned_by e false b false = []  -- H4, remembered: it is removed

abbrev pub turned : Entry → List Entry
turned e = turned_by e e.hot e.bit (resident e)

-- And this becomes of c. It is asked: is the entry hot, is it resident, has it the test mark?
abbrev pub turned_cold_by : ℕ → Bool → Bool → Bool → ℕ
turned_cold_by c true r t = c  -- hot
turned_cold_by c false true true = lowered c  -- resident cold with the test mark
turned_cold_by c false true false = c  -- resident cold without it
turned_cold_by c false false t = lowered c  -- remembered

abbrev pub turned_cold : Entry → ℕ → ℕ
turned_cold e c = turned_cold_by c e.hot (resident e) e.test

abbrev pub hot_ring : List Entry → List Entry
hot_ring [] = []
hot_ring (e ∷ rest) = rest ++ turned e

abbrev pub hot_cold : List Entry → ℕ → ℕ
hot_cold [] c = c
hot_cold (e ∷ rest) c = turned_cold e c

abbrev pub hot_step : Machine → Machine
hot_step s = record { ring = hot_ring s.ring; cold = hot_cold s.ring s.cold; used = s.used }

-- The test step takes the first entry with the test mark: the mark goes, and c is lowered. T1, a remembered entry is
-- removed; T2, a resident one keeps its place. (A run makes this step only where some entry has the mark: every remembered one has.)
abbrev pub tested : Entry → List Entry
tested e = cond (resident e) (unmarked e ∷ []) []

abbrev pub test_step : Machine → Machine
test_step s = record { ring = replaced marked tested s.ring; cold = lowered s.cold; used = s.used }

-- The cold step looks at the candidate e, the first free entry. Its three ways; the runs that follow are in ColdRun.
-- C1, bit and test mark: it becomes hot, loses both, moves to the head, and c is raised.
abbrev pub promote : ℕ → Entry → Machine → Machine
promote m e s = record { ring = without free s.ring ++ (promoted e ∷ []); cold = raised m s.cold; used = s.used }

-- C2, bit only: the bit is cleared, the test mark is given, and it moves to the head.
abbrev pub retest : Entry → Machine → Machine
retest e s = record { ring = without free s.ring ++ (retested e ∷ []); cold = s.cold; used = s.used }

-- C3, no bit: it is the victim. With the test mark it stays in its place, remembered; without it the entry is removed.
abbrev pub left : Entry → List Entry
left e = cond e.test (evicted e ∷ []) []

abbrev pub evict : Machine → Machine
evict s = record { ring = replaced free left s.ring; cold = s.cold; used = s.used }

-- More than m - c entries are hot.
abbrev pub too_hot : ℕ → Machine → Bool
too_hot m s = nat_lt (m - s.cold) (count is_hot s.ring)

-- A hot run repeats the hot step while more than m - c entries are hot.
pub data HotRun (m : ℕ) : Machine → ℕ → Machine → Type 0 where
  hot_rests : {s : Machine} → too_hot m s ≡ false → HotRun m s 0 s
  hot_goes : {s t : Machine} {n : ℕ} → too_hot m s ≡ true → HotRun m (hot_step s) n t → HotRun m s (suc n) t

-- More than m entries are remembered.
abbrev pub too_many : ℕ → Machine → Bool
too_many m s = nat_lt m (count remembered s.ring)

-- A test run repeats the test step while more than m entries are remembered.
pub data TestRun (m : ℕ) : Machine → ℕ → Machine → Type 0 where
  test_rests : {s : Machine} → too_many m s ≡ false → TestRun m s 0 s
  test_goes : {s t : Machine} {n : ℕ} → too_many m s ≡ true → TestRun m (test_step s) n t → TestRun m s (suc n) t

-- The steps of the three hands.
pub record Steps : Type 0 where
  pub colds : ℕ
  pub hots : ℕ
  pub tests : ℕ

abbrev pub steps : ℕ → ℕ → ℕ → Steps
steps a b c = record { colds = a; hots = b; tests = c }

abbrev pub plus : Steps → Steps → Steps
plus a b = steps (a.colds + b.colds) (a.hots + b.hots) (a.tests + b.tests)

-- A cold run repeats this: hot steps while there is no candidate, then one cold step. It ends with a victim:
-- the entry as it stood before it left its frame.
pub data ColdRun (m : ℕ) : Machine → Steps → Entry → Machine → Type 0 where
  -- no candidate: a hot step, and the run goes on
  no_candidate : {s t : Machine} {n : Steps} {v : Entry} →
      first free s.ring ≡ None →
      ColdRun m (hot_step s) n v t →
      ColdRun m s (plus (steps 0 1 0) n) v t
  -- the candidate has bit and test mark: a cold step, a hot run, and the run goes on
  promotes : {s h t : Machine} {k : ℕ} {n : Steps} {e v : Entry} →
      first free s.ring ≡ Some e → e.bit ≡ true → e.test ≡ true →
      HotRun m (promote m e s) k h →
      ColdRun m h n v t →
      ColdRun m s (plus (steps 1 k 0) n) v t
  -- the candidate has the bit only: a cold step, and the run goes on
  retests : {s t : Machine} {n : Steps} {e v : Entry} →
      first free s.ring ≡ Some e → e.bit ≡ true → e.test ≡ false →
      ColdRun m (retest e s) n v t →
      ColdRun m s (plus (steps 1 0 0) n) v t
  -- the candidate has no bit: the last cold step, and a test run
  evicts : {s t : Machine} {k : ℕ} {e : Entry} →
      first free s.ring ≡ Some e → e.bit ≡ false →
      TestRun m (evict s) k t →
      ColdRun m s (steps 1 0 k) e t
