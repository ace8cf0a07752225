-- What a borrow answers, read as the list machine's answer.
--   named, victim_key                   the meaning of a victim's key; of a victim, if there is one
--   told                               a report with the victim's key alone
--   report_of, granted_of, answer_of    a report, a granted borrow and the answer, with the victim's key by its meaning
--   Written                            that it says rightly whether the victim was altered
use Rattle.std.specs.Prelude.{◌≡◌, ℕ, List, Some, None, Ok, Err, Option, Result, option_map}
use Rattle.machine.specs.Hands.{Machine}
use Rattle.machine.specs.Borrow as rules
use Rattle.records.specs.Reading as records
use Rattle.records.specs.declared.answers.Report.{Report}
use Rattle.records.specs.declared.answers.Granted.{Granted}
use Rattle.records.specs.declared.answers.Refusal.{Refusal}
use Rattle.ring.specs.declared.hands.Victim.{Victim}

abbrev pub named : {K : Type 0} → (K → List ℕ) → Victim K → List ℕ
named meaning v = meaning v.key

-- the victim's key, if there is one
abbrev pub victim_key : {K : Type 0} → (K → List ℕ) → Option (Victim K) → Option (List ℕ)
victim_key meaning v = records.keyed (named meaning) v

-- a report with the victim's key alone
abbrev pub told : {K : Type 0} → Report (Victim K) → Report K
told r = record { outcome = r.outcome; victim = option_map (λ v. v.key) r.victim; steps = r.steps; cold = r.cold }

abbrev pub report_of : {K : Type 0} → (K → List ℕ) → Report (Victim K) → rules.Report
report_of meaning r = records.report_of (named meaning) r

abbrev pub granted_of : {K : Type 0} → (K → List ℕ) → Granted (Victim K) → rules.Answer
granted_of meaning g = records.granted_of (named meaning) g

abbrev pub answer_of : {K : Type 0} → (K → List ℕ) → Result (Granted (Victim K)) Refusal → rules.Answer
answer_of meaning r = records.answer_of (named meaning) r

-- whether the victim was altered is what the page in that frame was before the call
abbrev pub WrittenAt : {K : Type 0} → Machine → ℕ → Option (Victim K) → Type 0
WrittenAt s f None = Unit {0}
WrittenAt s f (Some v) = v.altered ≡ rules.altered_at (rules.occupant f s)

abbrev pub Written : {K : Type 0} → Machine → Result (Granted (Victim K)) Refusal → Type 0
Written s (Ok g) = WrittenAt s g.frame.0 g.report.victim
Written s (Err n) = Unit {0}
