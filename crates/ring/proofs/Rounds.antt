-- Turn after turn of a cold run.
use Rattle.std.proofs.Common.{◌≡◌, ℕ, suc, ◌+◌, ◌<◌, ◌≤◌, List, Some, None, sym, refl, ◌∙◌, subst, add-zero, zero-add, arith}
use Rattle.keys.specs.declared.FrameNo.{FrameNo}
use Rattle.machine.specs.Entry as model
use Rattle.machine.specs.Hands.{Machine, hot_step, promoted, retest, retested, HotRun, TestRun, steps, Steps, ColdRun}
use Rattle.machine.specs.Facts.{Mid}
use Rattle.machine.proofs.Work.{work, hot_work, head_work}
use Rattle.machine.proofs.Eased.{promote_eased}
use Rattle.machine.proofs.Runs.{hot_run_work}
use Rattle.machine.proofs.Cold.{idle_hot, evict_mid, cold_run_sent}
use Rattle.machine.proofs.Loops.{ColdLoop, cold_turns_hot, cold_promotes, cold_retests, cold_done}
use Rattle.ring.specs.declared.hands.Victim.{Victim}
use Rattle.ring.specs.Turning.{Promotes, Retests, Evicts}

module _ (m : ℕ) (s : Machine) (a b : ℕ) (x : Machine) (l : ColdLoop m s (steps a b 0) x) where
  -- no candidate: a hot step
  pub hot_round : (y z : Machine) → (model.first model.free x.ring ≡ None) × (y ≡ x) → z ≡ hot_step y → ColdLoop m s (steps a (b + 1) 0) z
  hot_round y z f e =
      let h = subst (λ n. ColdLoop m s n (hot_step x)) (λ i. steps (add-zero a i) (b + 1) 0) (cold_turns_hot m s (steps a b 0) x l f.0) in
      subst (ColdLoop m s (steps a (b + 1) 0)) (sym (e ∙ (λ i. hot_step (f.1 i)))) h

  pub hot_less : (y z : Machine) → (model.first model.free x.ring ≡ None) × (y ≡ x) → z ≡ hot_step y → work z.ring < work x.ring
  hot_less y z f e =
      subst (λ w. suc (work w.ring) ≤ work x.ring) (sym (e ∙ (λ i. hot_step (f.1 i)))) (hot_work x.ring (idle_hot x l.unlent f.0))

  -- bit and test mark: the candidate becomes hot, and a hot run follows
  pub promoted_mid : (y : Machine) → Promotes m x y → Mid m None y
  promoted_mid y p = subst (Mid m None) (sym p.step) ((promote_eased m x p.candidate p.first).mids None l.mid)

  pub promote_round : (y z : Machine) (h : ℕ) → Promotes m x y → HotRun m y h z → ColdLoop m s (steps (a + 1) (b + h) 0) z
  promote_round y z h p r = cold_promotes m s (steps a b 0) x z p.candidate h l p.first p.bit p.test (subst (λ w. HotRun m w h z) p.step r)

  pub promote_less : (y z : Machine) (h : ℕ) → Promotes m x y → HotRun m y h z → work z.ring < work x.ring
  promote_less y z h p r =
      let i = head_work x.ring p.candidate (promoted p.candidate) p.first p.bit refl in
      let j = hot_run_work m None (subst (λ w. HotRun m w h z) p.step r) ((promote_eased m x p.candidate p.first).mids None l.mid) in
      omega arith

  -- bit only: a new test period
  pub retest_round : (y : Machine) → Retests x y → ColdLoop m s (steps (a + 1) b 0) y
  retest_round y p =
      let h = subst (λ n. ColdLoop m s n (retest p.candidate x)) (λ i. steps (a + 1) (add-zero b i) 0) (cold_retests m s (steps a b 0) x p.candidate l p.first p.bit p.test) in
      subst (ColdLoop m s (steps (a + 1) b 0)) (sym p.step) h

  pub retest_less : (y : Machine) → Retests x y → work y.ring < work x.ring
  retest_less y p = subst (λ w. suc (work w.ring) ≤ work x.ring) (sym p.step) (head_work x.ring p.candidate (retested p.candidate) p.first p.bit refl)

  -- no bit: the candidate leaves its frame, and a test run follows
  module _ {K : Type 0} (meaning : K → List ℕ) (f : FrameNo) (v : Victim K) (y : Machine) (p : Evicts meaning x f v y) where
    pub evicted_mid : Mid m (Some f.0) y
    evicted_mid = subst (Mid m (Some f.0)) (sym p.step) (evict_mid m f.0 x p.candidate l.mid p.first p.sent.lies)

    pub run_ends : (k : ℕ) (t : Machine) → TestRun m y k t → ColdRun m s (steps (a + 1) b k) p.candidate t
    run_ends k t r =
        subst (λ n. ColdRun m s n p.candidate t) (λ i. steps (a + 1) (add-zero b i) (zero-add k i))
        (cold_done m s (steps a b 0) x p.candidate k t l p.first p.bit (subst (λ w. TestRun m w k t) p.step r))

-- after the run its frame is the gap
pub freed_mid : (m : ℕ) (s : Machine) (n : Steps) (v : model.Entry) (t : Machine) (f : ℕ) → ColdRun m s n v t → Mid m None s → 1 ≤ model.count model.idle s.ring → v.frame ≡ Some f → Mid m (Some f) t
freed_mid m s n v t f r w u e =
    let z = cold_run_sent m r w u in
    let a = z.lies in
    let q : z.freed ≡ f = cc in
    subst (λ i. Mid m (Some i) t) q z.mid
