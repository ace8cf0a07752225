-- The standing facts of the machine. "Differ" is said by counting: no key is counted twice, and no frame.
--   Proper   what holds of each entry
--   Mid      what holds at every moment, also inside a call
--   Well     what holds before and after each call
use Rattle.std.specs.Prelude.{◌≡◌, ℕ, ◌+◌, ◌-◌, ◌<◌, ◌≤◌, true, false, List, Some, None, Option, nat_eq, nat_lt}
use Rattle.std.specs.List.{AllByRecursion}
use Rattle.machine.specs.Entry.{Entry, is_hot, resident, remembered, named, lies_in, one, count, in_frame}
use Rattle.machine.specs.Hands.{Machine}

-- What holds of each entry.
pub record Proper (e : Entry) : Type 0 where
  pub hot_unmarked : e.hot ≡ true → e.test ≡ false  -- only cold entries have the test mark
  pub hot_resident : e.hot ≡ true → resident e ≡ true  -- a hot entry is resident
  pub marked_away : resident e ≡ false → e.test ≡ true  -- a remembered entry has the test mark,
  pub still_away : resident e ≡ false → e.bit ≡ false  -- and no bit,
  pub unlent_away : resident e ≡ false → e.loans ≡ 0  -- no loan
  pub same_away : resident e ≡ false → e.altered ≡ false  -- and no altered mark
  pub loans_fit : e.loans ≤ 255  -- a page has at most 255 loans

-- What holds at every moment, also inside a call; it does not ask what the keys are. A frame that is in use and that no
-- page has entered yet, as the one that a cold run has freed, is `gap`; outside a call there is none.
abbrev pub gaps : Option ℕ → ℕ
gaps None = 0
gaps (Some g) = 1

pub record Mid (m : ℕ) (gap : Option ℕ) (s : Machine) : Type 0 where
  pub entries : AllByRecursion Proper s.ring
  -- one page in each frame below u but the gap, and none in another
  pub frames : (f : ℕ) → count (lies_in f) s.ring + one (in_frame (nat_eq f) gap) ≡ one (nat_lt f s.used)
  pub pages : count resident s.ring + gaps gap ≡ s.used  -- as many pages as frames in use
  pub memory : count remembered s.ring ≤ m + gaps gap  -- at most m are remembered; m + 1 while a test run has yet to take one
  pub frames_fit : s.used ≤ m
  pub cold_low : 1 ≤ s.cold  -- c lies within 1 to m - 1
  pub cold_high : s.cold < m

-- What holds before and after each call.
pub record Well (m : ℕ) (s : Machine) : Type 0 where
  pub mid : Mid m None s
  pub keys : (k : List ℕ) → count (named k) s.ring ≤ 1  -- keys differ
  pub few_hot : count is_hot s.ring ≤ m - s.cold  -- at most m - c entries are hot
