-- Turn after turn of a cold run.
use Rattle.std.proofs.Common.{ℕ, ◌+◌, ◌≤◌, None, refl, subst, add-zero, zero-add, arith}
use Rattle.machine.specs.Entry as model
use Rattle.machine.specs.Hands.{Machine, promoted, retested, steps, ColdRun}
use Rattle.machine.specs.Facts.{Mid}
use Rattle.machine.proofs.Work.{work, hot_work, head_work}
use Rattle.machine.proofs.Eased.{promote_eased}
use Rattle.machine.proofs.Runs.{hot_run_work}
use Rattle.machine.proofs.Cold.{idle_hot}
use Rattle.machine.proofs.Loops.{ColdLoop, cold_turns_hot, cold_promotes, cold_retests, cold_done}
use Rattle.plain.specs.Hands.{TurnsOn, by_hot_step, by_promotion, by_retest, TurnsOut, by_eviction}

-- a turn keeps what is kept from turn to turn
pub turn_kept : (m : ℕ) (s : Machine) (a b : ℕ) {x : Machine} {c h : ℕ} {y : Machine} → ColdLoop m s (steps a b 0) x → TurnsOn m x c h y → ColdLoop m s (steps (a + c) (b + h) 0) y
turn_kept m s a b l (by_hot_step {s = x} f) = cold_turns_hot m s (steps a b 0) x l f
turn_kept m s a b l (by_promotion {s = x} {t = y} {k = k} {e = e} f i j r) = cold_promotes m s (steps a b 0) x y e k l f i j r
turn_kept m s a b l (by_retest {s = x} {e = e} f i j) = cold_retests m s (steps a b 0) x e l f i j

-- and lowers the work that is left by its steps at least
pub turn_falls : (m : ℕ) {x : Machine} {c h : ℕ} {y : Machine} → Mid m None x → 1 ≤ model.count model.idle x.ring → TurnsOn m x c h y → c + h + work y.ring ≤ work x.ring
turn_falls m w u (by_hot_step {s = x} f) = let a = hot_work x.ring (idle_hot x u f) in omega arith
turn_falls m w u (by_promotion {s = x} {e = e} f i j r) =
    let a = head_work x.ring e (promoted e) f i refl in let b = hot_run_work m None r ((promote_eased m x e f).mids None w) in omega arith
turn_falls m w u (by_retest {s = x} {e = e} f i j) = let a = head_work x.ring e (retested e) f i refl in omega arith

-- a turn makes a step
pub turn_steps : (m : ℕ) {x : Machine} {c h : ℕ} {y : Machine} → TurnsOn m x c h y → 1 ≤ c + h
turn_steps m (by_hot_step f) = omega arith
turn_steps m (by_promotion f i j r) = omega arith
turn_steps m (by_retest f i j) = omega arith

-- the last turn ends the run
pub turn_out : (m : ℕ) (s : Machine) (a b : ℕ) {x : Machine} {e : model.Entry} {k : ℕ} {t : Machine} → ColdLoop m s (steps a b 0) x → TurnsOut m x e k t → ColdRun m s (steps (a + 1) b k) e t
turn_out m s a b l (by_eviction {s = x} {t = t} {k = k} {e = e} f i r) =
    subst (λ n. ColdRun m s n e t) (λ i. steps (a + 1) (add-zero b i) (zero-add k i)) (cold_done m s (steps a b 0) x e k t l f i r)
