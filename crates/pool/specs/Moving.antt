-- Pages between frames and store.
--   HasPart               that a frame's part lies within the frame bytes
--   Takes, TakesAfter     that the store takes a victim's page; and after which outcomes it has to
--   sent_by, sent_after     the store, after a victim's page was written to it if it was altered
--   TakesFrom             that the store takes the page of an entry, if it was altered
--   filled_after           the frame bytes, after a page was laid into a frame
use Rattle.std.specs.Prelude.{◌≡◌, ℕ, ◌+◌, ◌*◌, ◌≤◌, true, cond, List, Some, None, Option}
use Rattle.stores.specs.Meaning.{Meaning, held, with_page}
use Rattle.stores.specs.Parts.{laid}
use Rattle.machine.specs.Entry.{Entry}
use Rattle.ring.specs.declared.hands.Victim.{Victim}
use Rattle.records.specs.declared.answers.Outcome.{Outcome}
use Rattle.records.specs.declared.answers.Outcome.TheVariants.{Hit, TestFault, ColdFault}

-- a frame's part of `size` bytes lies within so many frame bytes
abbrev pub HasPart : ℕ → ℕ → ℕ → Type 0
HasPart size f bytes = f * size + size ≤ bytes

abbrev pub Takes : {K : Type 0} → (K → List ℕ) → Option (Victim K) → Meaning → Type 0
Takes meaning None store = Unit {0}
Takes meaning (Some v) store = v.altered ≡ true → (held store (meaning v.key) ≡ true) × (store.is_open ≡ true)

abbrev pub sent_by : {K : Type 0} → (K → List ℕ) → Option (Victim K) → List ℕ → Meaning → Meaning
sent_by meaning None page store = store
sent_by meaning (Some v) page store = cond v.altered (with_page (meaning v.key) page store) store

-- after a hit no page moves
abbrev pub TakesAfter : {K : Type 0} → (K → List ℕ) → Outcome → Option (Victim K) → Meaning → Type 0
TakesAfter meaning Hit victim store = Unit {0}
TakesAfter meaning TestFault victim store = Takes meaning victim store
TakesAfter meaning ColdFault victim store = Takes meaning victim store

abbrev pub sent_after : {K : Type 0} → (K → List ℕ) → Outcome → Option (Victim K) → List ℕ → Meaning → Meaning
sent_after meaning Hit victim page store = store
sent_after meaning TestFault victim page store = sent_by meaning victim page store
sent_after meaning ColdFault victim page store = sent_by meaning victim page store

abbrev pub filled_after : Outcome → ℕ → List ℕ → List ℕ → List ℕ
filled_after Hit at page frames = frames
filled_after TestFault at page frames = laid at page frames
filled_after ColdFault at page frames = laid at page frames

abbrev pub TakesFrom : Option Entry → Meaning → Type 0
TakesFrom None store = Unit {0}
TakesFrom (Some e) store = e.altered ≡ true → (held store e.key ≡ true) × (store.is_open ≡ true)
