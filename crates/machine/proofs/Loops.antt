-- For code that makes a run by a loop: what to keep from turn to turn, and what each turn and the end want.
-- The measure of the hot and of the cold loop is `work` of the ring now, that of the test loop is `weight`; `pace` bounds
-- the counters, which stay below 2 ^ 28 with at most 4,096 frames.
use Rattle.std.proofs.Common.{◌≡◌, ℕ, suc, ◌+◌, ◌*◌, ◌^◌, ◌<◌, ◌≤◌, true, false, Some, None, Option, sym, refl, subst, add_assoc, mul-le-mul, zero-add, arith}
use Rattle.machine.specs.Entry.{Entry, has_bit, marked, idle, free, count, first}
use Rattle.machine.specs.Hands.{Machine, hot_step, test_step, promote, promoted, retest, retested, evict, too_hot, too_many, HotRun, hot_rests, hot_goes, TestRun, test_rests, test_goes, Steps, steps, plus, ColdRun, no_candidate, promotes, retests, evicts}
use Rattle.machine.specs.Facts.{Mid}
use Rattle.machine.proofs.Eased.{hot_eased, test_eased, promote_eased, retest_eased}
use Rattle.machine.proofs.Work.{work, hot_work, head_work}
use Rattle.machine.proofs.Runs.{hot_some, test_some, test_tested, hot_run_eased, hot_run_work}
use Rattle.machine.proofs.Counts.{count_le}
use Rattle.machine.proofs.Cold.{idle_hot}
use Rattle.machine.proofs.Calls.{work_fits}
use Rattle.machine.proofs.Laws.{length_fits}

pub work_small : (m : ℕ) (g : Option ℕ) (s : Machine) → m ≤ 4096 → Mid m g s → work s.ring < 2 ^ 28
work_small m g s h w =
    let a = work_fits m g s w in
    let i : m + m ≤ 8192 = omega arith in let j : m + m + 1 ≤ 8193 = omega arith in
    let p : (m + m) * (m + m + 1) ≤ 8192 * 8193 = mul-le-mul i j in
    omega arith

-- n hot steps have led from s to x
pub record HotLoop (m : ℕ) (g : Option ℕ) (s : Machine) (n : ℕ) (x : Machine) : Type 0 where
  pub so_far : (k : ℕ) (t : Machine) → HotRun m x k t → HotRun m s (n + k) t
  pub mid : Mid m g x
  pub pace : n + work x.ring ≤ work s.ring

pub hot_begins : (m : ℕ) (g : Option ℕ) (s : Machine) → Mid m g s → HotLoop m g s 0 s
hot_begins m g s w = record { so_far = λ k t r. rw zero-add r; mid = w; pace = omega arith }

pub hot_turns : (m : ℕ) (g : Option ℕ) (s : Machine) (n : ℕ) (x : Machine) → HotLoop m g s n x → too_hot m x ≡ true → HotLoop m g s (n + 1) (hot_step x)
hot_turns m g s n x l h = record {
  so_far = λ k t r. let e : n + suc k ≡ n + 1 + k = omega arith in rw e at (l.so_far (suc k) t (hot_goes h r));
  mid = (hot_eased m x).mids g l.mid;
  pace = let a = hot_work x.ring (hot_some m g x l.mid h) in let b = l.pace in omega arith;
}

pub hot_falls : (m : ℕ) (g : Option ℕ) (x : Machine) → Mid m g x → too_hot m x ≡ true → suc (work (hot_step x).ring) ≤ work x.ring
hot_falls m g x w h = hot_work x.ring (hot_some m g x w h)

pub hot_done : (m : ℕ) (g : Option ℕ) (s : Machine) (n : ℕ) (x : Machine) → HotLoop m g s n x → too_hot m x ≡ false → HotRun m s n x
hot_done m g s n x l h = let e : n + 0 ≡ n = omega arith in rw e at (l.so_far 0 x (hot_rests h))

pub hot_small : (m : ℕ) (g : Option ℕ) (s : Machine) (n : ℕ) (x : Machine) → m ≤ 4096 → Mid m g s → HotLoop m g s n x → n < 2 ^ 28
hot_small m g s n x h w l = let a = work_small m g s h w in let b = l.pace in omega arith

-- a hot run is that long at most
pub hot_run_small : (m : ℕ) (g : Option ℕ) (s : Machine) (n : ℕ) (x : Machine) → m ≤ 4096 → Mid m g s → HotRun m s n x → n < 2 ^ 28
hot_run_small m g s n x h w r = let a = work_small m g s h w in let b = hot_run_work m g r w in omega arith

-- n test steps have led from s to x. The measure is the bits and marks of x
abbrev pub weight : Machine → ℕ
weight x = count has_bit x.ring + count marked x.ring

pub record TestLoop (m : ℕ) (g : Option ℕ) (s : Machine) (n : ℕ) (x : Machine) : Type 0 where
  pub so_far : (k : ℕ) (t : Machine) → TestRun m x k t → TestRun m s (n + k) t
  pub mid : Mid m g x
  pub pace : n + weight x ≤ weight s

pub test_begins : (m : ℕ) (g : Option ℕ) (s : Machine) → Mid m g s → TestLoop m g s 0 s
test_begins m g s w = record { so_far = λ k t r. rw zero-add r; mid = w; pace = omega arith }

pub test_turns : (m : ℕ) (g : Option ℕ) (s : Machine) (n : ℕ) (x : Machine) → TestLoop m g s n x → too_many m x ≡ true → TestLoop m g s (n + 1) (test_step x)
test_turns m g s n x l h =
    let e = test_some m g x l.mid h in
    record {
      so_far = λ k t r. let e : n + suc k ≡ n + 1 + k = omega arith in rw e at (l.so_far (suc k) t (test_goes h r));
      mid = (test_eased m x e.0 e.1).mids g l.mid;
      pace = let a = (test_tested x e.0 e.1).marks in let b = l.pace in omega arith;
    }

pub test_loop_done : (m : ℕ) (g : Option ℕ) (s : Machine) (n : ℕ) (x : Machine) → TestLoop m g s n x → too_many m x ≡ false → TestRun m s n x
test_loop_done m g s n x l h = let e : n + 0 ≡ n = omega arith in rw e at (l.so_far 0 x (test_rests h))

pub test_falls : (m : ℕ) (g : Option ℕ) (x : Machine) → Mid m g x → too_many m x ≡ true → suc (weight (test_step x)) ≤ weight x
test_falls m g x w h = let e = test_some m g x w h in let a = (test_tested x e.0 e.1).marks in omega arith

pub test_small : (m : ℕ) (g g' : Option ℕ) (s : Machine) (n : ℕ) (x : Machine) → m ≤ 4096 → Mid m g s → TestLoop m g' s n x → n < 2 ^ 28
test_small m g g' s n x h w l =
    let a = length_fits m g s w in let i = count_le has_bit s.ring in let j = count_le marked s.ring in let b = l.pace in omega arith

-- n steps of a cold run have led from s to x
pub record ColdLoop (m : ℕ) (s : Machine) (n : Steps) (x : Machine) : Type 0 where
  pub so_far : (k : Steps) (v : Entry) (t : Machine) → ColdRun m x k v t → ColdRun m s (plus n k) v t
  pub mid : Mid m None x
  pub unlent : 1 ≤ count idle x.ring
  pub pace : n.colds + n.hots + work x.ring ≤ work s.ring

plus_none : (k : Steps) → plus (steps 0 0 0) k ≡ k
plus_none k = λ i. steps (zero-add k.colds i) (zero-add k.hots i) (zero-add k.tests i)

plus_assoc : (a b c : Steps) → plus (plus a b) c ≡ plus a (plus b c)
plus_assoc a b c = λ i. steps (add_assoc a.colds b.colds c.colds i) (add_assoc a.hots b.hots c.hots i) (add_assoc a.tests b.tests c.tests i)

pub cold_begins : (m : ℕ) (s : Machine) → Mid m None s → 1 ≤ count idle s.ring → ColdLoop m s (steps 0 0 0) s
cold_begins m s w i = record { so_far = λ k v t r. subst (λ z. ColdRun m s z v t) (sym (plus_none k)) r; mid = w; unlent = i; pace = omega arith }

pub cold_turns_hot : (m : ℕ) (s : Machine) (n : Steps) (x : Machine) → ColdLoop m s n x → first free x.ring ≡ None → ColdLoop m s (plus n (steps 0 1 0)) (hot_step x)
cold_turns_hot m s n x l h =
    let a = hot_eased m x in let z = a.idles in let u = l.unlent in
    record {
      so_far = λ k v t r. subst (λ z. ColdRun m s z v t) (sym (plus_assoc n (steps 0 1 0) k)) (l.so_far (plus (steps 0 1 0) k) v t (no_candidate h r));
      mid = a.mids None l.mid;
      unlent = omega arith;
      pace = let p = l.pace in let q = hot_work x.ring (idle_hot x l.unlent h) in omega arith;
    }

pub cold_promotes : (m : ℕ) (s : Machine) (n : Steps) (x y : Machine) (e : Entry) (h : ℕ) → ColdLoop m s n x → first free x.ring ≡ Some e → e.bit ≡ true → e.test ≡ true → HotRun m (promote m e x) h y → ColdLoop m s (plus n (steps 1 h 0)) y
cold_promotes m s n x y e h l f b d q =
    let a = promote_eased m x e f in let w = a.mids None l.mid in let z = a.idles in let u = l.unlent in
    let c = hot_run_eased m q in let z' = c.idles in
    record {
      so_far = λ k v t r. subst (λ z. ColdRun m s z v t) (sym (plus_assoc n (steps 1 h 0) k)) (l.so_far (plus (steps 1 h 0) k) v t (promotes f b d q r));
      mid = c.mids None w;
      unlent = omega arith;
      pace = let p = l.pace in let i = head_work x.ring e (promoted e) f b refl in let j = hot_run_work m None q w in omega arith;
    }

pub cold_retests : (m : ℕ) (s : Machine) (n : Steps) (x : Machine) (e : Entry) → ColdLoop m s n x → first free x.ring ≡ Some e → e.bit ≡ true → e.test ≡ false → ColdLoop m s (plus n (steps 1 0 0)) (retest e x)
cold_retests m s n x e l f b d =
    let a = retest_eased m x e f b in let z = a.idles in let u = l.unlent in
    record {
      so_far = λ k v t r. subst (λ z. ColdRun m s z v t) (sym (plus_assoc n (steps 1 0 0) k)) (l.so_far (plus (steps 1 0 0) k) v t (retests f b d r));
      mid = a.mids None l.mid;
      unlent = omega arith;
      pace = let p = l.pace in let i = head_work x.ring e (retested e) f b refl in omega arith;
    }

pub cold_done : (m : ℕ) (s : Machine) (n : Steps) (x : Machine) (e : Entry) (k : ℕ) (t : Machine) → ColdLoop m s n x → first free x.ring ≡ Some e → e.bit ≡ false → TestRun m (evict x) k t → ColdRun m s (plus n (steps 1 0 k)) e t
cold_done m s n x e k t l f b q = l.so_far (steps 1 0 k) e t (evicts f b q)

pub cold_small : (m : ℕ) (s : Machine) (n : Steps) (x : Machine) → m ≤ 4096 → Mid m None s → ColdLoop m s n x → n.colds + n.hots < 2 ^ 28
cold_small m s n x h w l = let a = work_small m None s h w in let b = l.pace in omega arith
