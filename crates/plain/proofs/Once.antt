-- What holds of a simulator at every moment: it has one proof at most, and it does not ask what the keys are.
use Rattle.std.proofs.Common.{◌≡◌, ℕ, ◌*◌, ◌≤◌, Bool, List, [], ◌∷◌, None, vec_items, vec_capacity, Option, refl, ap, arith}
use mathlib.Core.Bool.{Bool-set}
use mathlib.Core.HLevel.{→_prop}
use mathlib.Core.Logic.{∥∥₁_elim}
use native.Mathlib.Nat.{ℕ_set}
use native.Mathlib.Bridge.{le_prop}
use Rattle.std.specs.List.{AllByRecursion}
use Rattle.machine.specs.Entry as model
use Rattle.machine.specs.Hands.{Machine}
use Rattle.machine.specs.Facts.{Proper, Mid}
use Rattle.records.specs.declared.entry.Entry.{Entry}
use Rattle.plain.specs.declared.hands.State.{State}
use Rattle.records.specs.Reading.{entry_of, entries_of}
use Rattle.plain.specs.declared.simulator.Plain.{Plain}
use Rattle.plain.specs.Hands.{machine_of, Sound, Keeps}
use Rattle.plain.proofs.Keeping.{sound_then}

proper_once : (e : model.Entry) → IsProp (Proper e)
proper_once e x y = λ i. record {
  hot_unmarked = →_prop (Bool-set _ _) x.hot_unmarked y.hot_unmarked i;
  hot_resident = →_prop (Bool-set _ _) x.hot_resident y.hot_resident i;
  marked_away = →_prop (Bool-set _ _) x.marked_away y.marked_away i;
  still_away = →_prop (Bool-set _ _) x.still_away y.still_away i;
  unlent_away = →_prop (ℕ_set _ _) x.unlent_away y.unlent_away i;
  same_away = →_prop (Bool-set _ _) x.same_away y.same_away i;
  loans_fit = le_prop x.loans_fit y.loans_fit i;
}

all_once : (es : List model.Entry) → IsProp (AllByRecursion Proper es)
all_once [] x y = refl
all_once (e ∷ es) x y = λ i. (proper_once e x.0 y.0 i, all_once es x.1 y.1 i)

pub mid_once : (m : ℕ) (g : Option ℕ) (s : Machine) → IsProp (Mid m g s)
mid_once m g s x y = λ i. record {
  entries = all_once s.ring x.entries y.entries i;
  frames = λ f. ℕ_set _ _ (x.frames f) (y.frames f) i;
  pages = ℕ_set _ _ x.pages y.pages i;
  memory = le_prop x.memory y.memory i;
  frames_fit = le_prop x.frames_fit y.frames_fit i;
  cold_low = le_prop x.cold_low y.cold_low i;
  cold_high = le_prop x.cold_high y.cold_high i;
}

module _ {K : Type 0} (f h : K → List ℕ) where
  all_other : (es : List (Entry K)) → AllByRecursion Proper (entries_of f es) → AllByRecursion Proper (entries_of h es)
  all_other [] a = tt
  all_other (e ∷ es) a =
      let p = a.0 in (
        record { hot_unmarked = p.hot_unmarked; hot_resident = p.hot_resident; marked_away = p.marked_away; still_away = p.still_away; unlent_away = p.unlent_away; same_away = p.same_away; loans_fit = p.loans_fit },
        all_other es a.1,
      )

  count_other : (p : model.Entry → Bool) → ((e : Entry K) → p (entry_of f e) ≡ p (entry_of h e)) → (es : List (Entry K)) → model.count p (entries_of f es) ≡ model.count p (entries_of h es)
  count_other p q [] = refl
  count_other p q (e ∷ es) = let a = ap model.one (q e) in let b = count_other p q es in omega arith

  pub mid_other : (m : ℕ) (g : Option ℕ) (s : State K) → Mid m g (machine_of f s) → Mid m g (machine_of h s)
  mid_other m g s w =
      let es = vec_items s.ring in
      record {
        entries = all_other es w.entries;
        frames = λ i. let a = count_other (model.lies_in i) (λ e. refl) es in let b = w.frames i in omega arith;
        pages = let a = count_other model.resident (λ e. refl) es in let b = w.pages in omega arith;
        memory = let a = count_other model.remembered (λ e. refl) es in let b = w.memory in omega arith;
        frames_fit = w.frames_fit;
        cold_low = w.cold_low;
        cold_high = w.cold_high;
      }

-- what the simulator holds, at the keys' meaning, and back
pub opened_facts : {K : Type 0} (meaning : K → List ℕ) (m : ℕ) (g : Option ℕ) (s : State K) → ∥ Mid m g (machine_of (λ _. []) s) ∥₁ → Mid m g (machine_of meaning s)
opened_facts meaning m g s w = mid_other (λ _. []) meaning m g s (∥∥₁_elim w (mid_once m g (machine_of (λ _. []) s)) (λ x. x))

pub closed_facts : {K : Type 0} (meaning : K → List ℕ) (m : ℕ) (g : Option ℕ) (s : State K) → Mid m g (machine_of meaning s) → ∥ Mid m g (machine_of (λ _. []) s) ∥₁
closed_facts meaning m g s w = ∣ mid_other meaning (λ _. []) m g s w ∣₁

pub opened_sound : {K : Type 0} (meaning : K → List ℕ) (p : Plain K) → Sound meaning None p.state
opened_sound meaning p = record { few = p.few; memory = p.memory; facts = opened_facts meaning p.state.frames None p.state p.facts }

pub record Closed {K : Type 0} (s : State K) : Type 0 where
  pub few : s.frames ≤ 4096
  pub memory : 2 * s.frames ≤ vec_capacity s.ring
  pub facts : ∥ Mid s.frames None (machine_of (λ _. []) s) ∥₁

pub closed_sound : {K : Type 0} (meaning : K → List ℕ) {s t : State K} → Sound meaning None s → Keeps s t → Mid s.frames None (machine_of meaning t) → Closed t
closed_sound meaning {t = t} h k w =
    let z = sound_then meaning None None h k w in record { few = z.few; memory = z.memory; facts = closed_facts meaning t.frames None t z.facts }
