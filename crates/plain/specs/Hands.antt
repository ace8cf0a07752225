-- The simulator's state and answers, read as the list machine's.
--   machine_of          the state
--   Sound              what holds of a state between the steps of a call
--   Keeps              what every step leaves as it was: how many frames there are, and the memory
--   TurnsOn, TurnsOut  one turn of a cold run: it goes on, or it ends with the victim
--   Turned             what a turn says of itself is so
--   Roomed             what a fault is told of its frame is so
use Rattle.std.specs.Prelude.{◌≡◌, ℕ, ◌*◌, ◌≤◌, true, false, List, Some, None, vec_items, vec_capacity, Option}
use Rattle.std.specs.declared.ops.ControlFlow.{ControlFlow}
use Rattle.std.specs.declared.ops.ControlFlow.TheVariants.{Continue, Break}
use Rattle.machine.specs.Entry as model
use Rattle.machine.specs.Hands.{Machine, hot_step, promote, retest, evict, HotRun, TestRun}
use Rattle.machine.specs.Borrow as rules
use Rattle.machine.specs.Facts.{Mid}
use Rattle.records.specs.declared.entry.Entry.{Entry}
use Rattle.records.specs.Reading.{entry_of, entries_of, keyed, steps_of}
use Rattle.plain.specs.declared.hands.State.{State}
use Rattle.records.specs.declared.answers.Room.{Room}

abbrev pub machine_of : {K : Type 0} → (K → List ℕ) → State K → Machine
machine_of meaning s = record { ring = entries_of meaning (vec_items s.ring); cold = s.cold; used = s.used }

-- The machine's facts hold, but for a frame that may be empty for the moment.
pub record Sound {K : Type 0} (meaning : K → List ℕ) (gap : Option ℕ) (s : State K) : Type 0 where
  pub few : s.frames ≤ 4096
  pub memory : 2 * s.frames ≤ vec_capacity s.ring
  pub facts : Mid s.frames gap (machine_of meaning s)

pub record Keeps {K : Type 0} (s t : State K) : Type 0 where
  pub frames : t.frames ≡ s.frames
  pub memory : vec_capacity t.ring ≡ vec_capacity s.ring

-- A turn after which the run goes on: its cold and hot steps, and the state after.
pub data TurnsOn (m : ℕ) : Machine → ℕ → ℕ → Machine → Type 0 where
  by_hot_step : {s : Machine} → model.first model.free s.ring ≡ None → TurnsOn m s 0 1 (hot_step s)
  by_promotion : {s t : Machine} {k : ℕ} {e : model.Entry} →
      model.first model.free s.ring ≡ Some e → e.bit ≡ true → e.test ≡ true → HotRun m (promote m e s) k t → TurnsOn m s 1 k t
  by_retest : {s : Machine} {e : model.Entry} →
      model.first model.free s.ring ≡ Some e → e.bit ≡ true → e.test ≡ false → TurnsOn m s 1 0 (retest e s)

-- The last turn: the victim, the test steps, and the state after.
pub data TurnsOut (m : ℕ) : Machine → model.Entry → ℕ → Machine → Type 0 where
  by_eviction : {s t : Machine} {k : ℕ} {e : model.Entry} →
      model.first model.free s.ring ≡ Some e → e.bit ≡ false → TestRun m (evict s) k t → TurnsOut m s e k t

abbrev pub Turned : {K : Type 0} → (K → List ℕ) → ℕ → Machine → ControlFlow (Entry K × ℕ) (ℕ × ℕ) → Machine → Type 0
Turned meaning m s (Continue n) t = TurnsOn m s n.0 n.1 t
Turned meaning m s (Break v) t = TurnsOut m s (entry_of meaning v.0) v.1 t

pub record Roomed {K : Type 0} (meaning : K → List ℕ) (m : ℕ) (s : Machine) (r : Room (Option K)) (t : Machine) : Type 0 where
  pub victim : Option model.Entry
  pub room : rules.Room m s r.frame.0 victim (steps_of r.steps) t
  pub named : rules.key_of victim ≡ keyed meaning r.victim
