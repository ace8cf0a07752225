-- The list machine's state, read off the cells and the plain numbers.
--   entries_in   the entries of rows, with each key's meaning for the key
--   machine_of   the state
--   Sound        what holds of m frames while hands move: a frame may be out of the list
--   CanBorrow    what a borrow supposes
use Rattle.std.specs.Prelude.{ℕ, ◌*◌, ◌≤◌, List, map, length, Option}
use Rattle.chains.specs.declared.cell.Cell.{Cell}
use Rattle.records.specs.declared.entry.Entry.{Entry}
use Rattle.records.specs.Reading.{entry_of}
use Rattle.rows.specs.declared.Row.{Row}
use Rattle.rows.specs.Rows.{rows_in, Stands}
use Rattle.machine.specs.Entry as model
use Rattle.machine.specs.Hands as hands
use Rattle.machine.specs.Facts.{Mid, Well}
use Rattle.ring.specs.declared.Ring.{Ring}

abbrev pub entries_in : {K : Type 0} → (K → List ℕ) → List (Row K) → List model.Entry
entries_in meaning rows = map (λ r. entry_of meaning r.entry) rows

unfoldable pub machine_of : {K : Type 0} → (K → List ℕ) → List (Cell (Entry K)) → Ring → hands.Machine
machine_of meaning cells ring = record { ring = entries_in meaning (rows_in cells ring.table); cold = ring.cold; used = ring.used }

pub record Sound {K : Type 0} (meaning : K → List ℕ) (gap : Option ℕ) (m : ℕ) (cells : List (Cell (Entry K))) (ring : Ring) : Type 0 where
  pub frames : m ≤ 4096
  pub stands : Stands cells ring.table
  pub facts : Mid m gap (machine_of meaning cells ring)

pub record CanBorrow {K : Type 0} (meaning : K → List ℕ) (m : ℕ) (cells : List (Cell (Entry K))) (ring : Ring) : Type 0 where
  pub frames : m ≤ 4096
  pub memory : 2 * m ≤ length cells
  pub stands : Stands cells ring.table
  pub facts : Well m (machine_of meaning cells ring)
