-- All that the layers above know of the cells: the order of each chain, the entry of each cell, the slot of each frame.
--   Shape, shape_of     the shape, and how it is read off the cells and the plain numbers
--   Intact             that every chain is sound
--   pushed, unlinked, turned, followed, stayed   what becomes of one chain
--   stored, slotted    what becomes of one entry, and of one slot
--   head_of, name_of     the first of a list, if there is one; the number of a cell, if there is one
use Rattle.std.specs.Prelude.{ℕ, Bool, cond, List, [], ◌∷◌, ◌++◌, length, Some, None, Option, ◌==◌, slice_index_or}
use Rattle.chains.specs.Cells.{place, entry_of, slot_of}
use Rattle.chains.specs.Orders.{order_of, Sound, without}
use Rattle.chains.specs.declared.cell.Cell.{Cell}
use Rattle.keys.specs.declared.CellNo.{CellNo}
use Rattle.chains.specs.declared.ends.Ends.{Ends}
use Rattle.chains.specs.declared.cell.Chain.{Chain}
use Rattle.chains.specs.declared.Chains.{Chains}

pub record Shape (T : Type 0) : Type 0 where
  pub size : ℕ
  pub order : Chain → List ℕ
  pub entry : ℕ → Option T
  pub slot : ℕ → ℕ

abbrev pub ends_at : Chains → Chain → Option Ends
ends_at cs w = slice_index_or cs.ends (place w) None

unfoldable pub shape_of : {T : Type 0} → List (Cell T) → Chains → Shape T
shape_of cells cs = record { size = length cells; order = λ w. order_of cells w (ends_at cs w); entry = entry_of cells; slot = slot_of cells }

-- every chain is sound
unfoldable pub Intact : {T : Type 0} → List (Cell T) → Chains → Type 0
Intact cells cs = (w : Chain) → Sound cells w (ends_at cs w)

abbrev pub same : Chain → Chain → Bool
same v w = place v == place w

-- i joins chain w at the head
abbrev pub pushed : {T : Type 0} → Chain → ℕ → Shape T → Shape T
pushed w i s = record { size = s.size; order = λ v. cond (same v w) (s.order v ++ i ∷ []) (s.order v); entry = s.entry; slot = s.slot }

-- i leaves chain w
abbrev pub unlinked : {T : Type 0} → Chain → ℕ → Shape T → Shape T
unlinked w i s = record { size = s.size; order = λ v. cond (same v w) (without i (s.order v)) (s.order v); entry = s.entry; slot = s.slot }

-- i goes to the head of chain w
abbrev pub turned : {T : Type 0} → Chain → ℕ → Shape T → Shape T
turned w i s = pushed w i (unlinked w i s)

-- i is to be at the head of chain w, or not in it
abbrev pub followed : {T : Type 0} → Chain → ℕ → Bool → Shape T → Shape T
followed w i is s = record { size = s.size; order = λ v. cond (same v w) (without i (s.order v) ++ cond is (i ∷ []) []) (s.order v); entry = s.entry; slot = s.slot }

-- i stays where it is in chain w, or is not in it
abbrev pub stayed : {T : Type 0} → Chain → ℕ → Bool → Shape T → Shape T
stayed w i is s = record { size = s.size; order = λ v. cond (same v w) (cond is (s.order v) (without i (s.order v))) (s.order v); entry = s.entry; slot = s.slot }

-- the cell i holds e
abbrev pub stored : {T : Type 0} → ℕ → Option T → Shape T → Shape T
stored i e s = record { size = s.size; order = s.order; entry = λ j. cond (j == i) e (s.entry j); slot = s.slot }

-- the slot of frame f has x
abbrev pub slotted : {T : Type 0} → ℕ → ℕ → Shape T → Shape T
slotted f x s = record { size = s.size; order = s.order; entry = s.entry; slot = λ j. cond (j == f) x (s.slot j) }

abbrev pub head_of : List ℕ → Option ℕ
head_of [] = None
head_of (x ∷ xs) = Some x

abbrev pub name_of : Option CellNo → Option ℕ
name_of None = None
name_of (Some i) = Some i.0
