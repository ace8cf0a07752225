-- Opening a simulator, and looking a key up.
--   fair           whether a number of frames is from 2 to 4,096
--   Opened, Opens  what was opened; what opening answers
--   said           why a simulator does not open, in words
--   held_in         the frame of the entry that was found, if there is one and it is resident
use Rattle.std.specs.Prelude.{◌≡◌, ℕ, Bool, true, false, ◌&&◌, List, Some, None, Ok, Err, Option, Result, nat_le, codes}
use Rattle.machine.specs.Entry as model
use Rattle.machine.specs.Hands.{opened}
use Rattle.plain.specs.declared.simulator.Plain.{Plain}
use Rattle.plain.specs.declared.error.OpenError.{OpenError}
use Rattle.plain.specs.declared.error.OpenError.TheVariants.{FrameCount, Memory}
use Rattle.plain.specs.Hands.{machine_of}

abbrev pub fair : ℕ → Bool
fair m = nat_le 2 m && nat_le m 4096

pub record Opened {K : Type 0} (meaning : K → List ℕ) (m : ℕ) (p : Plain K) : Type 0 where
  pub fits : fair m ≡ true
  pub frames : p.state.frames ≡ m
  pub state : machine_of meaning p.state ≡ opened m

abbrev pub Opens : {K : Type 0} → (K → List ℕ) → ℕ → Result (Plain K) OpenError → Type 0
Opens meaning m (Ok p) = Opened meaning m p
Opens meaning m (Err FrameCount) = fair m ≡ false
Opens meaning m (Err Memory) = fair m ≡ true

abbrev pub said : OpenError → List ℕ
said FrameCount = codes "the number of frames is not from 2 to 4096"
said Memory = codes "there is no memory for so many frames"

abbrev pub held_in : Option model.Entry → Option ℕ
held_in None = None
held_in (Some e) = e.frame
