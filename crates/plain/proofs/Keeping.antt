-- What stays from step to step.
use Rattle.std.proofs.Common.{ℕ, ◌*◌, ◌≤◌, List, vec_capacity, Option, sym, ◌∙◌, subst}
use Rattle.machine.specs.Facts.{Mid}
use Rattle.plain.specs.declared.hands.State.{State}
use Rattle.plain.specs.Hands.{machine_of, Sound, Keeps}

pub kept_then : {K : Type 0} {a b c : State K} → Keeps a b → Keeps b c → Keeps a c
kept_then k l = record { frames = l.frames ∙ k.frames; memory = l.memory ∙ k.memory }

-- a state is sound after a step if the machine's facts hold of it
pub sound_then : {K : Type 0} (meaning : K → List ℕ) (gap gap' : Option ℕ) {a b : State K} → Sound meaning gap a → Keeps a b → Mid a.frames gap' (machine_of meaning b) → Sound meaning gap' b
sound_then meaning gap gap' {a = a} {b = b} s k w = record {
  few = subst (λ n. n ≤ 4096) (sym k.frames) s.few;
  memory = subst (λ n. 2 * n ≤ vec_capacity b.ring) (sym k.frames) (subst (λ n. 2 * a.frames ≤ n) (sym k.memory) s.memory);
  facts = subst (λ n. Mid n gap' (machine_of meaning b)) (sym k.frames) w;
}
