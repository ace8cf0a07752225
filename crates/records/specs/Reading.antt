-- How records are read as the list machine's.
--   frame_of, entry_of, entries_of   a frame, an entry and a list of entries, with each key's meaning for the key
--   found_of, listed                an entry, if there is one, as such and as a list
--   keyed                           a victim, if there is one, by the meaning of its key
--   steps_of, outcome_of, spelled    the steps of the three hands; an outcome, and how it is written
--   report_of, granted_of            a report, and a granted borrow
--   number_of, answer_of             the number of a refusal; the answer to a borrow
use Rattle.std.specs.Prelude.{ℕ, List, [], ◌∷◌, map, Some, None, Ok, Err, Option, Result, codes}
use Rattle.keys.specs.declared.FrameNo.{FrameNo}
use Rattle.machine.specs.Entry as model
use Rattle.machine.specs.Hands as hands
use Rattle.machine.specs.Borrow as rules
use Rattle.records.specs.declared.entry.Entry.{Entry}
use Rattle.records.specs.declared.answers.Steps.{Steps}
use Rattle.records.specs.declared.answers.Outcome.{Outcome}
use Rattle.records.specs.declared.answers.Outcome.TheVariants.{Hit, TestFault, ColdFault}
use Rattle.records.specs.declared.answers.Report.{Report}
use Rattle.records.specs.declared.answers.Granted.{Granted}
use Rattle.records.specs.declared.answers.Refusal.{Refusal}
use Rattle.records.specs.declared.answers.Refusal.TheVariants.{TooManyLoans, NoFrame}

abbrev pub frame_of : Option FrameNo → Option ℕ
frame_of None = None
frame_of (Some f) = Some f.0

abbrev pub entry_of : {K : Type 0} → (K → List ℕ) → Entry K → model.Entry
entry_of meaning e = record { key = meaning e.key; hot = e.hot; frame = frame_of e.frame; test = e.test; bit = e.bit; loans = e.loans; altered = e.altered }

abbrev pub entries_of : {K : Type 0} → (K → List ℕ) → List (Entry K) → List model.Entry
entries_of meaning es = map (entry_of meaning) es

abbrev pub found_of : {K : Type 0} → (K → List ℕ) → Option (Entry K) → Option model.Entry
found_of meaning None = None
found_of meaning (Some e) = Some (entry_of meaning e)

abbrev pub listed : {K : Type 0} → (K → List ℕ) → Option (Entry K) → List model.Entry
listed meaning None = []
listed meaning (Some e) = entry_of meaning e ∷ []

abbrev pub keyed : {V : Type 0} → (V → List ℕ) → Option V → Option (List ℕ)
keyed name None = None
keyed name (Some v) = Some (name v)

abbrev pub steps_of : Steps → hands.Steps
steps_of n = hands.steps n.cold n.hot n.test

abbrev pub outcome_of : Outcome → rules.Outcome
outcome_of Hit = rules.a_hit
outcome_of TestFault = rules.a_test_fault
outcome_of ColdFault = rules.a_cold_fault

abbrev pub spelled : Outcome → List ℕ
spelled Hit = codes "hit"
spelled TestFault = codes "test fault"
spelled ColdFault = codes "cold fault"

abbrev pub report_of : {V : Type 0} → (V → List ℕ) → Report V → rules.Report
report_of name r = record { outcome = outcome_of r.outcome; victim = keyed name r.victim; made = steps_of r.steps; cold = r.cold }

abbrev pub granted_of : {V : Type 0} → (V → List ℕ) → Granted V → rules.Answer
granted_of name g = rules.granted g.frame.0 (report_of name g.report)

abbrev pub number_of : Refusal → ℕ
number_of TooManyLoans = 10
number_of NoFrame = 11

abbrev pub answer_of : {V : Type 0} → (V → List ℕ) → Result (Granted V) Refusal → rules.Answer
answer_of name (Ok g) = granted_of name g
answer_of name (Err n) = rules.refused (number_of n)
