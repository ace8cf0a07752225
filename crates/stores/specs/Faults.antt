-- The refusals of the stores, by their numbers.
--   number    the number of a fault
--   refused   the number that a call was refused with, if it was
--   reason    the words of a fault; layer_name, the name of a layer
use Rattle.std.specs.Prelude.{ℕ, List, Some, None, Ok, Err, codes, Option, Result}
use Rattle.stores.specs.declared.faults.Layer.{Layer}
use Rattle.stores.specs.declared.faults.Layer.TheVariants.{Store, Pool, Table}
use Rattle.stores.specs.declared.faults.StoreFault.{StoreFault}
use Rattle.stores.specs.declared.faults.StoreFault.TheVariants.{PageSize, SectionOne, Row, SectionTwo, FileLength, NotHeld, Sealed, BufferLength}

abbrev pub number : StoreFault → ℕ
number PageSize = 1
number SectionOne = 5
number Row = 6
number SectionTwo = 7
number FileLength = 8
number NotHeld = 9
number Sealed = 13
number BufferLength = 15

abbrev pub refused : {T : Type 0} → Result T StoreFault → Option ℕ
refused (Ok x) = None
refused (Err f) = Some (number f)

abbrev pub reason : StoreFault → List ℕ
reason PageSize = codes "the page size is not from 1 to 4096"
reason SectionOne = codes "the rows are not all there, or are more than 256"
reason Row = codes "a row has an unknown unit, too many pages or a delivery listed before"
reason SectionTwo = codes "the pages are not exactly those that the rows count"
reason FileLength = codes "the bytes are not a whole number of pages, or are more than 1048576 pages"
reason NotHeld = codes "the store does not hold the key"
reason Sealed = codes "the store is sealed"
reason BufferLength = codes "the buffer is not as long as a page"

abbrev pub layer_name : Layer → List ℕ
layer_name Store = codes "store"
layer_name Pool = codes "pool"
layer_name Table = codes "table"
