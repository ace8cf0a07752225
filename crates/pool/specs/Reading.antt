-- How the values of the code are read as those of the promise.
--   state_of           pool, frame bytes, cells and what the store means, as one state
--   loan_in, report_in  a loan and a report
--   call_of            a request with the memory that it was lent
--   lent_by, shown_by, altered_by, returned_by, flushed_by   what a call answers
--   carried           the loans that a frame carries
use Rattle.std.specs.Prelude.{ℕ, List, length, Ok, Err, Result}
use Rattle.std.specs.Borrow.{Bor}
use Rattle.stores.specs.Meaning.{Meaning}
use Rattle.chains.specs.declared.cell.Cell.{Cell}
use Rattle.records.specs.declared.entry.Entry.{Entry}
use Rattle.records.specs.Reading.{report_of}
use Rattle.ring.specs.Model.{machine_of}
use Rattle.machine.specs.Borrow as rules
use Rattle.promise.specs.State.{State}
use Rattle.promise.specs.Serves as model
use Rattle.pool.specs.declared.state.Pool.{Pool}
use Rattle.pool.specs.declared.state.Loan.{Loan}
use Rattle.records.specs.declared.answers.Report.{Report}
use Rattle.pool.specs.declared.faults.PoolFault.{PoolFault}
use Rattle.pool.specs.Faults.{denial}

abbrev pub state_of : {K : Type 0} → (K → List ℕ) → Pool → List ℕ → List (Cell (Entry K)) → Meaning → State
state_of meaning pool frames cells store = record { number = pool.number.0; count = pool.frames; machine = machine_of meaning cells pool.ring; bytes = frames; store = store }

abbrev pub loan_in : Loan → model.Loan
loan_in l = model.loan_of l.frame.0 l.pool.0

abbrev pub report_in : {K : Type 0} → (K → List ℕ) → Report K → rules.Report
report_in meaning r = report_of meaning r

abbrev pub call_of : {K : Type 0} → model.Request → List ℕ → List (Cell (Entry K)) → model.Call
call_of q frames cells = record { bytes = length frames; cells = length cells; request = q }

abbrev pub lent_by : {K : Type 0} → (K → List ℕ) → Result (Loan × Report K) PoolFault → model.Answer
lent_by meaning (Ok p) = model.lends (loan_in p.0) (report_in meaning p.1)
lent_by meaning (Err f) = denial f

abbrev pub shown_by : Result (Bor (List ℕ)) PoolFault → model.Answer
shown_by (Ok r) = model.shows r.now
shown_by (Err f) = denial f

abbrev pub altered_by : Result (Unit {0}) PoolFault → model.Answer
altered_by (Ok _) = model.done
altered_by (Err f) = denial f

abbrev pub returned_by : Result (Unit {0}) (PoolFault × Loan) → model.Answer
returned_by (Ok _) = model.done
returned_by (Err p) = denial p.0

abbrev pub flushed_by : Result ℕ PoolFault → model.Answer
flushed_by (Ok n) = model.wrote n
flushed_by (Err f) = denial f

abbrev pub carried : {K : Type 0} → (K → List ℕ) → Pool → List (Cell (Entry K)) → ℕ → ℕ
carried meaning pool cells f = rules.carries f (machine_of meaning cells pool.ring)
