-- What the cold hand says of itself is so.
--   Sent             that a victim is this entry
--   Promotes, Retests, Evicts, Stepped   a cold step, by what it answers
--   Frees            a cold run, by what it answers
--   Roomed           the frame for a fault, by what is answered
use Rattle.std.specs.Prelude.{◌≡◌, ℕ, true, false, List, Some, None, Option}
use Rattle.keys.specs.declared.FrameNo.{FrameNo}
use Rattle.machine.specs.Entry as model
use Rattle.machine.specs.Hands.{Machine, promote, retest, evict, ColdRun}
use Rattle.machine.specs.Borrow as rules
use Rattle.ring.specs.declared.hands.Victim.{Victim}
use Rattle.ring.specs.declared.hands.Choice.{Choice}
use Rattle.ring.specs.declared.hands.Choice.TheVariants.{NoCandidate, Promoted, Retested, Evicted}
use Rattle.records.specs.declared.answers.Room.{Room}
use Rattle.records.specs.Reading.{steps_of}

-- the victim is the entry e, as it stood before it left frame f
pub record Sent {K : Type 0} (meaning : K → List ℕ) (e : model.Entry) (f : FrameNo) (v : Victim K) : Type 0 where
  pub lies : e.frame ≡ Some f.0
  pub named : e.key ≡ meaning v.key
  pub altered : e.altered ≡ v.altered

pub record Promotes (m : ℕ) (s t : Machine) : Type 0 where
  pub candidate : model.Entry
  pub first : model.first model.free s.ring ≡ Some candidate
  pub bit : candidate.bit ≡ true
  pub test : candidate.test ≡ true
  pub step : t ≡ promote m candidate s

pub record Retests (s t : Machine) : Type 0 where
  pub candidate : model.Entry
  pub first : model.first model.free s.ring ≡ Some candidate
  pub bit : candidate.bit ≡ true
  pub test : candidate.test ≡ false
  pub step : t ≡ retest candidate s

pub record Evicts {K : Type 0} (meaning : K → List ℕ) (s : Machine) (f : FrameNo) (v : Victim K) (t : Machine) : Type 0 where
  pub candidate : model.Entry
  pub first : model.first model.free s.ring ≡ Some candidate
  pub bit : candidate.bit ≡ false
  pub step : t ≡ evict s
  pub sent : Sent meaning candidate f v

abbrev pub Stepped : {K : Type 0} → (K → List ℕ) → ℕ → Machine → Choice K → Machine → Type 0
Stepped meaning m s NoCandidate t = (model.first model.free s.ring ≡ None) × (t ≡ s)
Stepped meaning m s Promoted t = Promotes m s t
Stepped meaning m s Retested t = Retests s t
Stepped meaning m s (Evicted f v) t = Evicts meaning s f v t

pub record Frees {K : Type 0} (meaning : K → List ℕ) (m : ℕ) (s : Machine) (r : Room (Victim K)) (t : Machine) : Type 0 where
  pub victim : model.Entry
  pub run : ColdRun m s (steps_of r.steps) victim t
  pub sent : Sent meaning victim r.frame r.victim

-- the victim's entry and what is answered of it agree
abbrev pub Gone : {K : Type 0} → (K → List ℕ) → FrameNo → Option model.Entry → Option (Victim K) → Type 0
Gone meaning f None None = Unit {0}
Gone meaning f None (Some v) = ⊥
Gone meaning f (Some e) None = ⊥
Gone meaning f (Some e) (Some v) = Sent meaning e f v

pub record Roomed {K : Type 0} (meaning : K → List ℕ) (m : ℕ) (s : Machine) (r : Room (Option (Victim K))) (t : Machine) : Type 0 where
  pub victim : Option model.Entry
  pub room : rules.Room m s r.frame.0 victim (steps_of r.steps) t
  pub gone : Gone meaning r.frame victim r.victim
