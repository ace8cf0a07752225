-- The refusals of the pool, by their numbers.
--   number, layer_of, reason   the number, the layer and the words of a fault
--   denial                    a fault as an answer of the promise
--   refused                   the number that a call was refused with, if it was
--   from_ring                  what the ring's refusals are to the pool
use Rattle.std.specs.Prelude.{ℕ, List, Some, None, Ok, Err, codes, Option, Result}
use Rattle.stores.specs.Faults as stores
use Rattle.stores.specs.declared.faults.Layer.{Layer}
use Rattle.stores.specs.declared.faults.Layer.TheVariants.{Store, Pool}
use Rattle.records.specs.declared.answers.Refusal.{Refusal}
use Rattle.records.specs.declared.answers.Refusal.TheVariants.{TooManyLoans, NoFrame}
use Rattle.promise.specs.Serves.{Answer, denied}
use Rattle.pool.specs.declared.faults.PoolFault.{PoolFault}
use Rattle.pool.specs.declared.faults.PoolFault.TheVariants.{PageSize, FrameCount, FrameBytes, Cells, LoanLimit, AllOnLoan, NotOnLoan, PastPage, ByStore}

abbrev pub number : PoolFault → ℕ
number PageSize = 1
number FrameCount = 2
number FrameBytes = 3
number Cells = 4
number LoanLimit = 10
number AllOnLoan = 11
number NotOnLoan = 12
number PastPage = 14
number (ByStore f) = stores.number f

-- a fault of the store names the store
abbrev pub layer_of : PoolFault → Layer
layer_of PageSize = Pool
layer_of FrameCount = Pool
layer_of FrameBytes = Pool
layer_of Cells = Pool
layer_of LoanLimit = Pool
layer_of AllOnLoan = Pool
layer_of NotOnLoan = Pool
layer_of PastPage = Pool
layer_of (ByStore f) = Store

abbrev pub reason : PoolFault → List ℕ
reason PageSize = codes "the page size is not from 1 to 4096"
reason FrameCount = codes "the number of frames is not from 2 to 4096"
reason FrameBytes = codes "the frame bytes are not one page for each frame"
reason Cells = codes "the cells are not two for each frame"
reason LoanLimit = codes "the page has 255 loans already"
reason AllOnLoan = codes "every page in the frames is on loan"
reason NotOnLoan = codes "the loan is not one of this pool"
reason PastPage = codes "the bytes do not end within the page"
reason (ByStore f) = stores.reason f

abbrev pub denial : PoolFault → Answer
denial f = denied (layer_of f) (number f)

abbrev pub refused : {T : Type 0} → Result T PoolFault → Option ℕ
refused (Ok x) = None
refused (Err f) = Some (number f)

abbrev pub from_ring : Refusal → PoolFault
from_ring TooManyLoans = LoanLimit
from_ring NoFrame = AllOnLoan
