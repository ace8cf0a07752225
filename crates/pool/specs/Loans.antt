-- The loans that frames carry, in plain numbers, so that a caller can see that its own return is granted.
--   lent_at       a frame's loans after a borrow, by what they were: one more at the frame of the loan that was granted
--   returned_at   and after a return: one less at its loan's frame
--   Own          that a loan which was granted has the pool's number
use Rattle.std.specs.Prelude.{◌≡◌, ℕ, ◌+◌, ◌-◌, cond, Ok, Err, Result, ◌==◌}
use Rattle.pool.specs.declared.state.Pool.{Pool}
use Rattle.pool.specs.declared.state.Loan.{Loan}
use Rattle.records.specs.declared.answers.Report.{Report}
use Rattle.pool.specs.declared.faults.PoolFault.{PoolFault}

abbrev pub lent_at : {K : Type 0} → Result (Loan × Report K) PoolFault → ℕ → ℕ → ℕ
lent_at (Ok p) f n = cond (p.0.frame.0 == f) (n + 1) n
lent_at (Err e) f n = n

abbrev pub returned_at : Loan → Result (Unit {0}) (PoolFault × Loan) → ℕ → ℕ → ℕ
returned_at l (Ok _) f n = cond (l.frame.0 == f) (n - 1) n
returned_at l (Err p) f n = n

abbrev pub Own : {K : Type 0} → Pool → Result (Loan × Report K) PoolFault → Type 0
Own pool (Ok p) = p.0.pool ≡ pool.number
Own pool (Err e) = Unit {0}
