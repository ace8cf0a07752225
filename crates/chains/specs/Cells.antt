-- What the cells hold: the two links of each cell in each chain, its entry, and the slot of each frame.
--   links_at            the links of one chain in a cell
--   next_of, prev_of     the successor and the predecessor of a cell in a chain
--   entry_of, slot_of    the entry of a cell, and the directory's slot of a frame
--   Put                a function that differs from another at one place
--   Framed             only the links of one chain differ
--   Stored, Slotted    only one entry differs; only one slot does
use Rattle.std.specs.Prelude.{◌≡◌, ℕ, ◌≢◌, List, [], length, get_or, None, Option, slice_index_or}
use Rattle.chains.specs.declared.cell.Links.{Links}
use Rattle.chains.specs.declared.cell.Cell.{Cell}
use Rattle.chains.specs.declared.cell.Chain.{Chain}
use Rattle.chains.specs.declared.cell.Chain.TheVariants.{Ring, Cold, Test, Free}

abbrev pub unlinked : Links
unlinked = record { prev = record { 0 = 0 }; next = record { 0 = 0 } }

abbrev pub vacant : {T : Type 0} → Cell T
vacant = record { entry = None; links = []; slot = record { 0 = 0 } }

-- where a chain's links stand in the array
abbrev pub place : Chain → ℕ
place Ring = 0
place Cold = 1
place Test = 2
place Free = 3

abbrev pub links_at : List Links → Chain → Links
links_at ls w = slice_index_or ls (place w) unlinked

-- the successor, the predecessor and the entry of the cell j
unfoldable pub next_of : {T : Type 0} → List (Cell T) → Chain → ℕ → ℕ
next_of cells w j = (links_at (get_or cells j vacant).links w).next.0

unfoldable pub prev_of : {T : Type 0} → List (Cell T) → Chain → ℕ → ℕ
prev_of cells w j = (links_at (get_or cells j vacant).links w).prev.0

unfoldable pub entry_of : {T : Type 0} → List (Cell T) → ℕ → Option T
entry_of cells j = (get_or cells j vacant).entry

-- the slot of frame f
unfoldable pub slot_of : {T : Type 0} → List (Cell T) → ℕ → ℕ
slot_of cells f = (get_or cells f vacant).slot.0

-- f' is f, but for x at i
pub record Put (f f' : ℕ → ℕ) (i x : ℕ) : Type 0 where
  pub here : f' i ≡ x
  pub there : (j : ℕ) → j ≢ i → f' j ≡ f j

-- only the links of chain w differ
pub record Framed {T : Type 0} (old new : List (Cell T)) (w : Chain) : Type 0 where
  pub size : length new ≡ length old
  pub entries : (j : ℕ) → entry_of new j ≡ entry_of old j
  pub slots : (f : ℕ) → slot_of new f ≡ slot_of old f
  pub nexts : (v : Chain) (j : ℕ) → v ≢ w → next_of new v j ≡ next_of old v j
  pub prevs : (v : Chain) (j : ℕ) → v ≢ w → prev_of new v j ≡ prev_of old v j

-- only the entry of cell i differs: it is e
pub record Stored {T : Type 0} (old new : List (Cell T)) (i : ℕ) (e : Option T) : Type 0 where
  pub size : length new ≡ length old
  pub here : entry_of new i ≡ e
  pub there : (j : ℕ) → j ≢ i → entry_of new j ≡ entry_of old j
  pub slots : (f : ℕ) → slot_of new f ≡ slot_of old f
  pub nexts : (v : Chain) (j : ℕ) → next_of new v j ≡ next_of old v j
  pub prevs : (v : Chain) (j : ℕ) → prev_of new v j ≡ prev_of old v j

-- only the slot of frame f differs: it has x
pub record Slotted {T : Type 0} (old new : List (Cell T)) (f x : ℕ) : Type 0 where
  pub size : length new ≡ length old
  pub put : Put (slot_of old) (slot_of new) f x
  pub entries : (j : ℕ) → entry_of new j ≡ entry_of old j
  pub nexts : (v : Chain) (j : ℕ) → next_of new v j ≡ next_of old v j
  pub prevs : (v : Chain) (j : ℕ) → prev_of new v j ≡ prev_of old v j
