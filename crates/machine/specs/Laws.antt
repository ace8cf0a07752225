-- The laws of the machine, each as one statement. The functions of this crate promise them.
--   OneResult   1. each run and each borrow has at most one result
--   Ends        2. every run ends, and its steps fit 32 bits
--   Standing    3. the standing facts, and what holds inside a call
--   Refusals    4. when a borrow is refused, and that a victim is found where it is not
--   Paid        5. cold and test steps add up to at most the borrows granted
--   Table       6. the lettered rows of the sample runs
--   Turnover, Pages   7. what becomes of the pages in a borrow
--   Exact       8. the evaluator gives exactly what the relations say
use Rattle.std.specs.Prelude.{◌≡◌, ℕ, ◌+◌, ◌*◌, ◌^◌, ◌<◌, ◌≤◌, Bool, true, false, ◌&&◌, ◌⊎◌, List, length, Some, None, Option}
use Rattle.std.specs.List.{AllByRecursion}
use Rattle.keys.specs.Same.{same_list}
use Rattle.machine.specs.Entry.{Entry, resident, remembered, named, idle, on_page, one, one_of, count, first, free, marked, has_bit}
use Rattle.machine.specs.Hands.{Machine, opened, HotRun, TestRun, Steps, ColdRun, hot_step, test_step, promote, retest, evict}
use Rattle.machine.specs.Borrow.{was_hit, Report, Answer, granted, refused, Borrow, refusal, recalled, grown, enter, key_of, occupant, loans_at, altered_at, give_back, mark_page}
use Rattle.machine.specs.Facts.{Mid, Well}
use Rattle.machine.specs.Calls.{Calls, sum_of, grants, colds_of, hots_of, tests_of}
use Rattle.machine.specs.Evaluate.{eval_borrow}
use Rattle.machine.specs.Rows.{table, Holds}

-- 1. Each run and each borrow has at most one result.
pub record OneResult : Type 0 where
  pub hot : (m : ℕ) (s t u : Machine) (n k : ℕ) → HotRun m s n t → HotRun m s k u → (n ≡ k) × (t ≡ u)
  pub test : (m : ℕ) (s t u : Machine) (n k : ℕ) → TestRun m s n t → TestRun m s k u → (n ≡ k) × (t ≡ u)
  pub cold : (m : ℕ) (s t u : Machine) (n k : Steps) (v w : Entry) → ColdRun m s n v t → ColdRun m s k w u → (n ≡ k) × (v ≡ w) × (t ≡ u)
  pub borrow : (m : ℕ) (k : List ℕ) (s t u : Machine) (a b : Answer) → Borrow m k s a t → Borrow m k s b u → (a ≡ b) × (t ≡ u)

-- 2. Every run ends: a hot and a test run from each state that has the facts of a moment inside a call, a cold run if
-- some resident page has no loan, and a borrow from each state that has the standing facts. The steps fit 32 bits.
pub record Ends : Type 0 where
  pub hot : (m : ℕ) (g : Option ℕ) (s : Machine) → Mid m g s → (n : ℕ) × (t : Machine) × HotRun m s n t
  pub test : (m : ℕ) (g : Option ℕ) (s : Machine) → Mid m g s → (n : ℕ) × (t : Machine) × TestRun m s n t
  pub cold : (m : ℕ) (s : Machine) → Mid m None s → 1 ≤ count idle s.ring → (n : Steps) × (v : Entry) × (t : Machine) × ColdRun m s n v t
  pub borrow : (m : ℕ) (k : List ℕ) (s : Machine) → Well m s → (a : Answer) × (t : Machine) × Borrow m k s a t
  pub fits : (m : ℕ) (k : List ℕ) (s t : Machine) (a : Answer) → m ≤ 4096 → Well m s → Borrow m k s a t →
      (colds_of a + hots_of a < 2 ^ 28) × (tests_of a < 2 ^ 28)

-- no move of a hand adds an entry with some key
pub record NoNewKey : Type 0 where
  pub at_hot_step : (s : Machine) (k : List ℕ) → count (named k) (hot_step s).ring ≤ count (named k) s.ring
  pub at_test_step : (s : Machine) (e : Entry) (k : List ℕ) → first marked s.ring ≡ Some e → count (named k) (test_step s).ring ≤ count (named k) s.ring
  pub promoting : (m : ℕ) (s : Machine) (e : Entry) (k : List ℕ) → first free s.ring ≡ Some e → count (named k) (promote m e s).ring ≤ count (named k) s.ring
  pub retesting : (s : Machine) (e : Entry) (k : List ℕ) → first free s.ring ≡ Some e → e.bit ≡ true → count (named k) (retest e s).ring ≤ count (named k) s.ring
  pub evicting : (s : Machine) (e : Entry) (k : List ℕ) → first free s.ring ≡ Some e → count (named k) (evict s).ring ≤ count (named k) s.ring

-- 3. The standing facts hold at opening and after each call: keys differ, resident frames differ and are exactly those
-- below u, at most m entries are remembered, at most m - c are hot, c lies within 1 to m - 1, and each entry is proper.
-- Each move inside a call keeps what holds inside, so there are never more than 2 m entries, also in the middle of a call;
-- and no move of a hand adds an entry with some key, so that keys differ inside a call too.
pub record Standing : Type 0 where
  pub opening : (m : ℕ) → 2 ≤ m → Well m (opened m)
  pub borrow : (m : ℕ) (k : List ℕ) (s t : Machine) (a : Answer) → Well m s → Borrow m k s a t → Well m t
  pub giving_back : (m f : ℕ) (s : Machine) → Well m s → Well m (give_back f s)
  pub marking_page : (m f : ℕ) (b : Bool) (s : Machine) → Well m s → Well m (mark_page f b s)
  pub reached : (m : ℕ) (answers : List Answer) (s : Machine) → 2 ≤ m → Calls m (opened m) answers s → Well m s
  pub at_hot_step : (m : ℕ) (g : Option ℕ) (s : Machine) → Mid m g s → Mid m g (hot_step s)
  pub at_test_step : (m : ℕ) (g : Option ℕ) (s : Machine) (e : Entry) → Mid m g s → first marked s.ring ≡ Some e → Mid m g (test_step s)
  pub promoting : (m : ℕ) (g : Option ℕ) (s : Machine) (e : Entry) → Mid m g s → first free s.ring ≡ Some e → Mid m g (promote m e s)
  pub retesting : (m : ℕ) (g : Option ℕ) (s : Machine) (e : Entry) → Mid m g s → first free s.ring ≡ Some e → e.bit ≡ true → Mid m g (retest e s)
  pub evicting : (m f : ℕ) (s : Machine) (e : Entry) → Mid m None s → first free s.ring ≡ Some e → e.frame ≡ Some f → Mid m (Some f) (evict s)
  pub recalling : (m : ℕ) (k : List ℕ) (s : Machine) (e : Entry) → Mid m None s → first (named k) s.ring ≡ Some e → e.frame ≡ None → Mid m None (recalled m k s)
  pub growing : (m : ℕ) (s : Machine) → Mid m None s → s.used < m → Mid m (Some s.used) (grown s)
  pub entering : (m : ℕ) (k : List ℕ) (h : Bool) (f : ℕ) (s : Machine) → Mid m (Some f) s → count remembered s.ring ≤ m → Mid m None (enter k h f s)
  pub no_new_key : NoNewKey
  pub size : (m : ℕ) (g : Option ℕ) (s : Machine) → Mid m g s → length s.ring ≤ 2 * m

-- 4. There are two refusals. An 11 is given only where every frame is in use, every resident page has a loan and the key
-- is not resident, a 10 only where the key is resident with 255 loans. Where a frame is wanted, none is unused and some
-- resident page has no loan, a cold run finds a victim that has no loan.
pub record Refusals : Type 0 where
  pub two : (m : ℕ) (k : List ℕ) (s : Machine) (n : ℕ) → refusal m k s ≡ Some n → (n ≡ 10) ⊎ (n ≡ 11)
  pub eleven : (m : ℕ) (k : List ℕ) (s : Machine) → Well m s → refusal m k s ≡ Some 11 →
      (s.used ≡ m) × (count idle s.ring ≡ 0) × ((e : Entry) → first (named k) s.ring ≡ Some e → resident e ≡ false)
  pub ten : (m : ℕ) (k : List ℕ) (s : Machine) → Well m s → refusal m k s ≡ Some 10 →
      (e : Entry) × (first (named k) s.ring ≡ Some e) × (resident e ≡ true) × (e.loans ≡ 255)
  pub found : (m : ℕ) (s : Machine) → Mid m None s → 1 ≤ count idle s.ring →
      (n : Steps) × (v : Entry) × (t : Machine) × ColdRun m s n v t × (v.loans ≡ 0)
  pub victim : (m : ℕ) (s t : Machine) (n : Steps) (v : Entry) → Mid m None s → 1 ≤ count idle s.ring → ColdRun m s n v t → v.loans ≡ 0

-- 5. Over any list of calls the cold steps reported add up to at most the borrows granted, and so do the test steps.
-- A borrow may set one bit or give one mark; each cold step but the last takes a bit, and each test step takes a mark.
pub record Paid : Type 0 where
  pub colds : (m : ℕ) (answers : List Answer) (t : Machine) → 2 ≤ m → Calls m (opened m) answers t → sum_of colds_of answers ≤ sum_of grants answers
  pub tests : (m : ℕ) (answers : List Answer) (t : Machine) → 2 ≤ m → Calls m (opened m) answers t → sum_of tests_of answers ≤ sum_of grants answers
  pub colds_each : (m : ℕ) (k : List ℕ) (s t : Machine) (a : Answer) → Well m s → Borrow m k s a t →
      count has_bit t.ring + colds_of a ≤ count has_bit s.ring + grants a
  pub tests_each : (m : ℕ) (k : List ℕ) (s t : Machine) (a : Answer) → Well m s → Borrow m k s a t →
      count has_bit t.ring + count marked t.ring + tests_of a ≤ count has_bit s.ring + count marked s.ring + grants a

-- 6. Each lettered row of the sample runs holds.
abbrev pub Table : Type 0
Table = AllByRecursion Holds table

-- 7. What becomes of the pages in a borrow of key k that is granted with frame f and report r. One entry comes into the
-- frame (after a hit it is the old one, with one loan more), and at most one goes out of it; whatever can be said of the
-- other pages by key, frame, loans and altered mark is as before. What goes lay in the frame before the call.
pub record Turnover (k : List ℕ) (f : ℕ) (r : Report) (s t : Machine) : Type 0 where
  pub goes : Option Entry
  pub comes : Entry
  pub pages : (p : List ℕ → ℕ → ℕ → Bool → Bool) →
      count (on_page p) t.ring + one_of (on_page p) goes ≡ count (on_page p) s.ring + one (on_page p comes)
  pub came_key : comes.key ≡ k
  pub came_frame : comes.frame ≡ Some f
  pub came_loans : comes.loans ≡ loans_at goes + 1
  pub came_altered : comes.altered ≡ (was_hit r.outcome && altered_at goes)  -- a page that was read in is unaltered
  pub went_frame : (e : Entry) → goes ≡ Some e → e.frame ≡ Some f
  pub went_key : key_of goes ≡ key_of (occupant f s)
  pub went_loans : loans_at goes ≡ loans_at (occupant f s)
  pub went_altered : altered_at goes ≡ altered_at (occupant f s)
  -- after a hit what goes has the borrowed key, and there is no victim
  pub hit_went : was_hit r.outcome ≡ true → key_of goes ≡ Some k
  pub hit_victim : was_hit r.outcome ≡ true → r.victim ≡ None
  -- after a fault no resident page had the borrowed key; what goes has another key and no loan, and it is the victim
  pub fault_new : was_hit r.outcome ≡ false → count (on_page (λ i g l a. same_list k i)) s.ring ≡ 0
  pub fault_went : was_hit r.outcome ≡ false → (e : Entry) → goes ≡ Some e → (same_list k e.key ≡ false) × (e.loans ≡ 0)
  pub fault_victim : was_hit r.outcome ≡ false → r.victim ≡ key_of goes

pub record Pages : Type 0 where
  pub granting : (m : ℕ) (k : List ℕ) (s t : Machine) (f : ℕ) (r : Report) → Well m s → Borrow m k s (granted f r) t → Turnover k f r s t
  pub refusing : (m : ℕ) (k : List ℕ) (s t : Machine) (n : ℕ) → Borrow m k s (refused n) t → t ≡ s

-- 8. The evaluator gives what the relation says, and with more fuel than steps it gives something.
pub record Exact : Type 0 where
  pub so : (m fuel : ℕ) (k : List ℕ) (s t : Machine) (a : Answer) → eval_borrow m fuel k s ≡ Some (record { answer = a; after = t }) → Borrow m k s a t
  pub all : (m fuel : ℕ) (k : List ℕ) (s t : Machine) (a : Answer) → Borrow m k s a t → colds_of a + hots_of a + tests_of a < fuel →
      eval_borrow m fuel k s ≡ Some (record { answer = a; after = t })
