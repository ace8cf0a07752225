-- The ring as a list of rows, and how the cells and the plain numbers hold it.
--   cells_of, entries_of, cells_by, number the cells of rows, their entries, the cells of those that pass a test; how many pass
--   counted, plus, minus, SumsFit, NoneMore  the counts: what one entry adds, and their sums and differences
--   without_cell, replaced               the rows without a cell; with another entry in a cell
--   first_row, first_by                   the row at the tail; the first row that passes a test
--   has_entries, rows_on, ahead, OnWay    a walk along a chain: the rows of the chain, those to come, and where it is
--   rows_in, Stands                      the rows of a ring; that the cells and the numbers hold them
--   Linked, Members                     what holding them is; what it says of one row
--   Slot, Kept, Unnamed                 the directory's clause; what a change may do to an entry's frame
--   belongs, Placed, refiled             which chains a cell belongs to; the shape after its entry is another and the chains followed
--   relinked, rewritten, joined, cut_out what a change does to the shape of the cells
use Rattle.std.specs.Prelude.{◌≡◌, ℕ, ◌+◌, ◌-◌, ◌^◌, ◌<◌, ◌≤◌, Bool, true, false, cond, List, [], ◌∷◌, map, length, drop, slice_index, is_some, is_none, Some, None, MatchBool, filter, Option, ◌==◌}
use Rattle.keys.specs.declared.FrameNo.{FrameNo}
use Rattle.std.specs.List.{ContainsAt, AllByRecursion, find}
use Rattle.chains.specs.Orders.{Misses}
use Rattle.chains.specs.declared.cell.Cell.{Cell}
use Rattle.chains.specs.declared.cell.Chain.{Chain}
use Rattle.chains.specs.declared.cell.Chain.TheVariants.{Ring, Cold, Test, Free}
use Rattle.chains.specs.Shape.{Shape, shape_of, Intact, pushed, unlinked, turned, stored, followed, stayed}
use Rattle.records.specs.declared.entry.Entry.{Entry}
use Rattle.records.specs.Questions.{cold_resident, remembered, idle, lies_in}
use Rattle.rows.specs.declared.Counts.{Counts}
use Rattle.rows.specs.declared.Row.{Row}
use Rattle.rows.specs.declared.Table.{Table}

-- the cells of rows
abbrev pub cells_of : {K : Type 0} → List (Row K) → List ℕ
cells_of rs = map (λ r. r.cell.0) rs

-- the entries of rows
abbrev pub entries_of : {K : Type 0} → List (Row K) → List (Entry K)
entries_of rs = map (λ r. r.entry) rs

-- the cells of the rows whose entries pass
abbrev pub cells_by : {K : Type 0} → (Entry K → Bool) → List (Row K) → List ℕ
cells_by p rs = cells_of (filter (λ r. p r.entry) rs)

-- how many entries pass
abbrev pub number : {K : Type 0} → (Entry K → Bool) → List (Row K) → ℕ
number p [] = 0
number p (r ∷ rs) = cond (p r.entry) 1 0 + number p rs

-- what an entry adds to the counts
abbrev pub counted : {K : Type 0} → Entry K → Counts
counted e = record { hots = cond e.hot 1 0; past = cond (remembered e) 1 0; idles = cond (idle e) 1 0 }

-- counts taken together, and one taken from another; when they may be
abbrev pub plus : Counts → Counts → Counts
plus a b = record { hots = a.hots + b.hots; past = a.past + b.past; idles = a.idles + b.idles }

abbrev pub minus : Counts → Counts → Counts
minus a b = record { hots = a.hots - b.hots; past = a.past - b.past; idles = a.idles - b.idles }

pub record SumsFit (a b : Counts) : Type 0 where
  pub hots : a.hots + b.hots < 2 ^ 64
  pub past : a.past + b.past < 2 ^ 64
  pub idles : a.idles + b.idles < 2 ^ 64

pub record NoneMore (a b : Counts) : Type 0 where
  pub hots : b.hots ≤ a.hots
  pub past : b.past ≤ a.past
  pub idles : b.idles ≤ a.idles

-- the rows but that of cell i
abbrev pub without_cell : {K : Type 0} → ℕ → List (Row K) → List (Row K)
without_cell i [] = []
without_cell i (r ∷ rs) = cond (r.cell.0 == i) (without_cell i rs) (r ∷ without_cell i rs)

-- the rows, with `new` as the entry of cell i
abbrev pub replaced : {K : Type 0} → ℕ → Entry K → List (Row K) → List (Row K)
replaced i new [] = []
replaced i new (r ∷ rs) = cond (r.cell.0 == i) (record { cell = r.cell; entry = new }) r ∷ replaced i new rs

abbrev pub first_row : {K : Type 0} → List (Row K) → Option (Row K)
first_row [] = None
first_row (r ∷ rs) = Some r

-- the first row whose entry passes
abbrev pub first_by : {K : Type 0} → (Entry K → Bool) → List (Row K) → Option (Row K)
first_by p rs = find (λ r. p r.entry) rs

-- the directory has cell i for a frame, if there is one
abbrev pub Slot : (ℕ → ℕ) → ℕ → Option FrameNo → Type 0
Slot slot i None = Unit {0}
Slot slot i (Some f) = slot f.0 ≡ i

-- an entry that is changed keeps its frame or gives it up
abbrev pub Kept : Option FrameNo → Option FrameNo → Type 0
Kept old None = Unit {0}
Kept old (Some f) = old ≡ Some f

-- the frame of an entry that comes in has a slot among n, and no row names it
abbrev pub Unnamed : {K : Type 0} → ℕ → List (Row K) → Option FrameNo → Type 0
Unnamed n rows None = Unit {0}
Unnamed n rows (Some f) = (f.0 < n) × (first_by (lies_in f.0) rows ≡ None)

abbrev pub Fits : ℕ → Option FrameNo → Type 0
Fits n None = Unit {0}
Fits n (Some f) = f.0 < n

-- the rows of cells, read off the entries
abbrev pub join_row : {K : Type 0} → ℕ → Option (Entry K) → List (Row K) → List (Row K)
join_row j None rs = rs
join_row j (Some e) rs = record { cell = record { 0 = j }; entry = e } ∷ rs

abbrev pub gather : {K : Type 0} → (ℕ → Option (Entry K)) → List ℕ → List (Row K)
gather f [] = []
gather f (j ∷ js) = join_row j (f j) (gather f js)

-- the cells and the numbers hold these rows: each chain is the rows, or those that pass its test, in their order; the other cells are unused
pub record Linked {K : Type 0} (counts : Counts) (s : Shape (Entry K)) (rows : List (Row K)) : Type 0 where
  pub ring : s.order Ring ≡ cells_of rows
  pub cold : s.order Cold ≡ cells_by cold_resident rows
  pub test : s.order Test ≡ cells_by (λ e. e.test) rows
  pub entries : AllByRecursion (λ r. s.entry r.cell.0 ≡ Some r.entry) rows
  pub vacant : AllByRecursion (λ j. s.entry j ≡ None) (s.order Free)
  pub full : length rows + length (s.order Free) ≡ s.size
  pub warm : counts.hots ≡ number (λ e. e.hot) rows
  pub left : counts.past ≡ number remembered rows
  pub unlents : counts.idles ≡ number idle rows
  pub directory : AllByRecursion (λ r. Slot s.slot r.cell.0 r.entry.frame) rows

-- whether the cells of a chain have entries
abbrev pub has_entries : Chain → Bool
has_entries Ring = true
has_entries Cold = true
has_entries Test = true
has_entries Free = false

-- the rows of a chain, of all rows
abbrev pub rows_on : {K : Type 0} → Chain → List (Row K) → List (Row K)
rows_on Ring rows = rows
rows_on Cold rows = filter (λ r. cold_resident r.entry) rows
rows_on Test rows = filter (λ r. r.entry.test) rows
rows_on Free rows = []

-- the rows of the last n cells of a chain: those that a walk along it has still to come to
abbrev pub ahead : {K : Type 0} → Shape (Entry K) → Chain → ℕ → List (Row K)
ahead s w n = gather s.entry (drop (length (s.order w) - n) (s.order w))

-- such a walk is at the first of them
pub record OnWay {K : Type 0} (s : Shape (Entry K)) (w : Chain) (at n : ℕ) : Type 0 where
  pub within : n ≤ length (s.order w)
  pub here : 0 < n → at ≡ slice_index (s.order w) (length (s.order w) - n)
  pub entries : AllByRecursion (λ j. is_some (s.entry j) ≡ true) (s.order w)

-- the rows of a ring, from the tail to the head
unfoldable pub rows_in : {K : Type 0} → List (Cell (Entry K)) → Table → List (Row K)
rows_in cells b = let s = shape_of cells b.chains in gather s.entry (s.order Ring)

pub record Standing {K : Type 0} (cells : List (Cell (Entry K))) (b : Table) : Type 0 where
  pub intact : Intact cells b.chains
  pub linked : Linked b.counts (shape_of cells b.chains) (rows_in cells b)

unfoldable pub Stands : {K : Type 0} → List (Cell (Entry K)) → Table → Type 0
Stands cells b = Standing cells b

-- a row's cell is in the chains that its entry belongs to, and in no other
pub record Members {K : Type 0} (s : Shape (Entry K)) (r : Row K) : Type 0 where
  pub inside : r.cell.0 < s.size
  pub ring : ContainsAt (s.order Ring) r.cell.0
  pub cold : MatchBool (cold_resident r.entry) (ContainsAt (s.order Cold) r.cell.0) (Misses r.cell.0 (s.order Cold))
  pub test : MatchBool r.entry.test (ContainsAt (s.order Test) r.cell.0) (Misses r.cell.0 (s.order Test))
  pub used : Misses r.cell.0 (s.order Free)

abbrev pub from_entry : {K : Type 0} → (Entry K → Bool) → Option (Entry K) → Bool
from_entry p None = false
from_entry p (Some e) = p e

-- whether a cell with such an entry, or with none, belongs to a chain
abbrev pub belongs : {K : Type 0} → Chain → Option (Entry K) → Bool
belongs Ring o = is_some o
belongs Cold o = from_entry cold_resident o
belongs Test o = from_entry (λ e. e.test) o
belongs Free o = is_none o

-- cell i is in the chains that it belongs to with the entry o, and in no other
abbrev pub Placed : {K : Type 0} → ℕ → Option (Entry K) → Shape (Entry K) → Type 0
Placed i o s = (w : Chain) → MatchBool (belongs w o) (ContainsAt (s.order w) i) (Misses i (s.order w))

-- the shape after cell i took the entry o, and each chain followed
abbrev pub refiled : {K : Type 0} → ℕ → Option (Entry K) → Shape (Entry K) → Shape (Entry K)
refiled i o s =
    followed Free i (belongs Free o)
    (followed Test i (belongs Test o)
    (followed Cold i (belongs Cold o)
    (followed Ring i (belongs Ring o) (stored i o s))))

-- the shape after a row took a new entry and went to the head
abbrev pub relinked : {K : Type 0} → Row K → Entry K → Shape (Entry K) → Shape (Entry K)
relinked r new s =
    followed Test r.cell.0 new.test
    (followed Cold r.cell.0 (cold_resident new)
    (turned Ring r.cell.0 (stored r.cell.0 (Some new) s)))

-- the shape after a row took a new entry where it stands
abbrev pub rewritten : {K : Type 0} → Row K → Entry K → Shape (Entry K) → Shape (Entry K)
rewritten r new s =
    stayed Test r.cell.0 new.test
    (stayed Cold r.cell.0 (cold_resident new)
    (stored r.cell.0 (Some new) s))

-- the shape after the slot of a frame, if there is one, was given cell i
abbrev pub noted_slot : ℕ → Option FrameNo → (ℕ → ℕ) → ℕ → ℕ
noted_slot i None slot = slot
noted_slot i (Some f) slot = λ j. cond (j == f.0) i (slot j)

abbrev pub noted : {T : Type 0} → ℕ → Option FrameNo → Shape T → Shape T
noted i o s = record { size = s.size; order = s.order; entry = s.entry; slot = noted_slot i o s.slot }

-- the shape after the unused cell i took an entry and joined the ring at the head
abbrev pub joined : {K : Type 0} → ℕ → Entry K → Shape (Entry K) → Shape (Entry K)
joined i new s =
    followed Test i new.test
    (followed Cold i (cold_resident new)
    (pushed Ring i
    (unlinked Free i
    (stored i (Some new) (noted i new.frame s)))))

-- the shape after a row was removed
abbrev pub cut_out : {K : Type 0} → Row K → Shape (Entry K) → Shape (Entry K)
cut_out r s =
    pushed Free r.cell.0
    (followed Test r.cell.0 false
    (followed Cold r.cell.0 false
    (unlinked Ring r.cell.0 (stored r.cell.0 None s))))
