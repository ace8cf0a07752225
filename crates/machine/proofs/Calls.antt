-- The calls: the standing facts before and after each, and what a borrow adds to the sums.
use Rattle.std.proofs.Common.{◌≡◌, ℕ, ◌+◌, ◌-◌, ◌*◌, ◌<◌, ◌≤◌, Bool, true, false, cond, not, eqb, ltb, List, [], ◌∷◌, is_some, Some, None, Option, sym, refl, ap, ◌∙◌, subst, mul-le-mul, arith}
use Rattle.std.proofs.ByRecursion.{All-append}
use Rattle.std.proofs.lemmas.Bool.{ltb-true}
use Rattle.std.proofs.lemmas.Bool.Decides.{nat_tests}
use Rattle.keys.specs.Same.{same_list}
use Rattle.keys.proofs.Compare.{same_list_true}
use Rattle.machine.specs.Entry.{Entry, is_hot, has_bit, marked, resident, remembered, idle, named, lies_in, on_page, one, one_of, count, first, without}
use Rattle.machine.specs.Hands.{Machine, opened, raised, Steps}
use Rattle.machine.specs.Calls.{grants, colds_of, hots_of, tests_of}
use Rattle.machine.specs.Borrow.{Answer, full, refusal_at, refusal, lent, hit, recalled, entered, enter, grown, Room, unused, freed, Borrow, refuses, hits, test_faults, cold_faults}
use Rattle.machine.specs.Facts.{Proper, Mid, Well}
use Rattle.machine.proofs.Counts.{differ, count-++, first_passes, first_none}
use Rattle.machine.proofs.Moves.{moved_place, stands_changed, mid_moved, raised_fits, proper_here}
use Rattle.machine.proofs.Eased.{Eased, eased_moved, eases_gone}
use Rattle.machine.proofs.Work.{work, anyone, lead_le}
use Rattle.machine.proofs.Runs.{count_weaker, hot_run_eased, hot_run_work, hot_run_cool}
use Rattle.machine.proofs.Cold.{cold_run_sent}

-- OPENING

pub opened_well : (m : ℕ) → 2 ≤ m → Well m (opened m)
opened_well m h = record {
  mid = record { entries = tt; frames = λ f. grind (arith, nat_tests); pages = omega arith; memory = omega arith; frames_fit = omega arith; cold_low = omega arith; cold_high = omega arith };
  keys = λ k. omega arith;
  few_hot = omega arith;
}

-- THE FRAME FOR A FAULT

pub record Roomed (m : ℕ) (s : Machine) (f : ℕ) (v : Option Entry) (n : Steps) (r : Machine) : Type 0 where
  pub mid : Mid m (Some f) r
  pub away : count remembered r.ring ≤ m
  pub names : (k : List ℕ) → count (named k) r.ring ≤ count (named k) s.ring
  pub pages : (p : List ℕ → ℕ → ℕ → Bool → Bool) → count (on_page p) r.ring + one_of (on_page p) v ≡ count (on_page p) s.ring
  pub unlent : (e : Entry) → v ≡ Some e → e.loans ≡ 0
  pub lies : (e : Entry) → v ≡ Some e → e.frame ≡ Some f
  pub few : count is_hot s.ring ≤ m - s.cold → count is_hot r.ring ≤ m - r.cold
  pub colds_fit : count has_bit r.ring + n.colds ≤ count has_bit s.ring + 1
  pub tests_fit : count has_bit r.ring + count marked r.ring + n.tests ≤ count has_bit s.ring + count marked s.ring
  pub steps_fit : n.colds + n.hots ≤ work s.ring + 1

-- some frame is unused, or some page has no loan
abbrev pub Fair : ℕ → Machine → Type 0
Fair m s = ltb s.used m ≡ false → 1 ≤ count idle s.ring

pub grown_mid : (m : ℕ) (s : Machine) → Mid m None s → s.used < m → Mid m (Some s.used) (grown s)
grown_mid m s w b =
    let p = w.pages in let a = w.memory in
    record { entries = w.entries; frames = λ j. more j (w.frames j); pages = omega arith; memory = omega arith; frames_fit = omega arith; cold_low = w.cold_low; cold_high = w.cold_high }
  where
    more : (j : ℕ) → count (lies_in j) s.ring + 0 ≡ one (ltb j s.used) → count (lies_in j) s.ring + one (eqb j s.used) ≡ one (ltb j (s.used + 1))
    more j k = grind (arith, nat_tests)

pub room_roomed : (m : ℕ) {s : Machine} {f : ℕ} {v : Option Entry} {n : Steps} {r : Machine} → Room m s f v n r → Mid m None s → count remembered s.ring ≤ m → Fair m s → Roomed m s f v n r
room_roomed m (unused {s = x} h) w a i =
    record {
      mid = grown_mid m x w (ltb-true x.used m h);
      away = a;
      names = λ k. omega arith;
      pages = λ p. omega arith;
      unlent = λ e j. let z : ◌≡◌ {A = ℕ} 0 1 = cc in absurd (omega arith);
      lies = λ e j. let z : ◌≡◌ {A = ℕ} 0 1 = cc in absurd (omega arith);
      few = λ k. k;
      colds_fit = omega arith;
      tests_fit = omega arith;
      steps_fit = omega arith;
    }
room_roomed m (freed {s = x} {t = t} {n = n} {v = v} {f = f} h r l) w a i =
    let z = cold_run_sent m r w (i h) in
    let e : Some z.freed ≡ Some f = sym z.lies ∙ l in
    record { mid = subst (λ o. Mid m o t) e z.mid; away = z.away; names = z.names; pages = z.pages; unlent = λ d j. let p : v ≡ d = cc in rw p at z.unlent; lies = λ d j. let p : v ≡ d = cc in rw p at l; few = z.few; colds_fit = z.colds_fit; tests_fit = z.tests_fit; steps_fit = z.steps_fit }

-- A PAGE ENTERS

pub enter_mid : (m : ℕ) (k : List ℕ) (h : Bool) (f : ℕ) (r : Machine) → Mid m (Some f) r → count remembered r.ring ≤ m → Mid m None (enter k h f r)
enter_mid m k h f r w a = record {
  entries = All-append Proper r.ring (entered k h f ∷ []) w.entries (proper_here (entered k h f) refl (fresh h) (omega arith), tt);
  frames = λ i. let x = count-++ (lies_in i) r.ring (entered k h f ∷ []) in let y = w.frames i in omega arith;
  pages = let x = count-++ resident r.ring (entered k h f ∷ []) in let y = w.pages in omega arith;
  memory = let x = count-++ remembered r.ring (entered k h f ∷ []) in omega arith;
  frames_fit = w.frames_fit;
  cold_low = w.cold_low;
  cold_high = w.cold_high;
}
  where
    fresh : (b : Bool) → b ≡ true → not b ≡ false
    fresh true j = refl
    fresh false j = differ false j refl

-- keys differ still, if the key of the page was nowhere
pub enter_keys : (k : List ℕ) (h : Bool) (f : ℕ) (s r : Machine) → ((i : List ℕ) → count (named i) s.ring ≤ 1) → ((i : List ℕ) → count (named i) r.ring ≤ count (named i) s.ring) → count (named k) r.ring ≡ 0 →
    (i : List ℕ) → count (named i) (enter k h f r).ring ≤ 1
enter_keys k h f s r w n z i = let x = count-++ (named i) r.ring (entered k h f ∷ []) in let y = other (same_list i k) refl in omega arith
  where
    other : (b : Bool) → same_list i k ≡ b → count (named i) r.ring + one b ≤ 1
    other true j = let e = same_list_true i k j in rw e (omega arith)
    other false j = let y = w i in let x = n i in omega arith

-- HOW MUCH WORK THERE CAN BE

abbrev pub most : ℕ → ℕ
most m = (m + m) * (m + m + 1) + 3 * m

all_both : (xs : List Entry) → count resident xs + count remembered xs ≡ count anyone xs
all_both [] = refl
all_both (x ∷ xs) = go (resident x) (all_both xs)
  where
    go : (b : Bool) → count resident xs + count remembered xs ≡ count anyone xs → one b + count resident xs + (one (not b) + count remembered xs) ≡ 1 + count anyone xs
    go true h = omega arith
    go false h = omega arith

-- at every moment there are at most 2 m entries
pub size_fits : (m : ℕ) (g : Option ℕ) (s : Machine) → Mid m g s → count anyone s.ring ≤ m + m
size_fits m g s w = let a = all_both s.ring in let b = w.pages in let c = w.memory in let d = w.frames_fit in omega arith

pub hots_fit : (m : ℕ) (g : Option ℕ) (s : Machine) → Mid m g s → count is_hot s.ring ≤ m
hots_fit m g s w = let a = count_weaker Proper is_hot resident (λ e p h. p.hot_resident h) s.ring w.entries in let b = w.pages in let d = w.frames_fit in omega arith

pub bits_fit : (m : ℕ) (g : Option ℕ) (s : Machine) → Mid m g s → count has_bit s.ring ≤ m
bits_fit m g s w =
    let a = count_weaker Proper has_bit resident (λ e p h. here e p h (resident e) refl) s.ring w.entries in let b = w.pages in let d = w.frames_fit in omega arith
  where
    here : (e : Entry) → Proper e → has_bit e ≡ true → (b : Bool) → resident e ≡ b → b ≡ true
    here e p h true k = refl
    here e p h false k = differ e.bit h (p.still_away k)

pub work_fits : (m : ℕ) (g : Option ℕ) (s : Machine) → Mid m g s → work s.ring ≤ most m
work_fits m g s w =
    let n = size_fits m g s w in let h = hots_fit m g s w in let b = bits_fit m g s w in let l = lead_le s.ring in
    let i : count is_hot s.ring + count has_bit s.ring ≤ m + m = omega arith in
    let j : count anyone s.ring + 1 ≤ m + m + 1 = omega arith in
    let p : (count is_hot s.ring + count has_bit s.ring) * (count anyone s.ring + 1) ≤ (m + m) * (m + m + 1) = mul-le-mul i j in
    omega arith

-- A BORROW

pub full-fair : (m : ℕ) (s : Machine) → full m s ≡ None → Fair m s
full-fair m s h k = go (ltb 0 (count idle s.ring)) refl (rw k at h)
  where
    go : (b : Bool) → ltb 0 (count idle s.ring) ≡ b → cond {A = Option ℕ} b None (Some 11) ≡ None → 1 ≤ count idle s.ring
    go true j i = ltb-true 0 (count idle s.ring) j
    go false j i = let z : ◌≡◌ {A = ℕ} 0 1 = cc in absurd (omega arith)

pub fault_fair : (m : ℕ) (k : List ℕ) (s : Machine) → refusal m k s ≡ None → first (named k) s.ring ≡ None → Fair m s
fault_fair m k s h j = full-fair m s (rw j at h)

pub recall_fair : (m : ℕ) (k : List ℕ) (s : Machine) (e : Entry) → refusal m k s ≡ None → first (named k) s.ring ≡ Some e → e.frame ≡ None → Fair m s
recall_fair m k s e h j f = let a : refusal_at m s (Some e) ≡ None = rw j at h in full-fair m s (rw f at a)

pub hit_fits : (m : ℕ) (k : List ℕ) (s : Machine) (e : Entry) (f : ℕ) → refusal m k s ≡ None → first (named k) s.ring ≡ Some e → e.frame ≡ Some f → e.loans < 255
hit_fits m k s e f h j i = let a : refusal_at m s (Some e) ≡ None = rw j at h in go (ltb e.loans 255) refl (rw i at a)
  where
    go : (b : Bool) → ltb e.loans 255 ≡ b → cond {A = Option ℕ} b None (Some 10) ≡ None → e.loans < 255
    go true q p = ltb-true e.loans 255 q
    go false q p = let z : ◌≡◌ {A = ℕ} 0 1 = cc in absurd (omega arith)

pub record Borrowed (m : ℕ) (s : Machine) (a : Answer) (t : Machine) : Type 0 where
  pub well : Well m t
  pub colds_fit : count has_bit t.ring + colds_of a ≤ count has_bit s.ring + grants a
  pub tests_fit : count has_bit t.ring + count marked t.ring + tests_of a ≤ count has_bit s.ring + count marked s.ring + grants a
  pub steps_fit : colds_of a + hots_of a ≤ 2 * most m + 1

pub recalled_eased : (m : ℕ) (k : List ℕ) (s : Machine) (e : Entry) → first (named k) s.ring ≡ Some e → e.frame ≡ None → Eased m s (recalled m k s)
recalled_eased m k s e h f = eased_moved m s e [] (without (named k) s.ring) (raised m s.cold) (moved_place (named k) (λ _. []) s.ring e h) (eases_gone e f) (raised_fits m s.cold)

-- what holds at every moment holds after a borrow
pub borrow_mid : (m : ℕ) (k : List ℕ) {s : Machine} {a : Answer} {t : Machine} → Borrow m k s a t → Mid m None s → Mid m None t
borrow_mid m k (refuses h) w = w
borrow_mid m k (hits {s = x} {e = e} {f = f} h j i) w =
    let v = moved_place (named k) (λ e. lent e ∷ []) x.ring e j in
    let l = hit_fits m k x e f h j i in
    mid_moved m None x e (lent e ∷ []) (hit k x).ring x.cold w v
    (stands_changed e (lent e) refl refl (λ p. proper_here (lent e) (ap is_some i) p.hot_unmarked (omega arith))) w.cold_low w.cold_high
borrow_mid m k (test_faults {s = x} {r = r} {e = e} {f = f} q j i o u) w =
    let a = recalled_eased m k x e j i in let b = a.mids None w in let c = b.memory in
    let d = room_roomed m o b (omega arith) (λ y. let z = recall_fair m k x e q j i y in let z' = a.idles in omega arith) in
    (hot_run_eased m u).mids None (enter_mid m k true f r d.mid d.away)
borrow_mid m k (cold_faults {s = x} {r = r} {f = f} q j o) w =
    let c = w.memory in
    let d = room_roomed m o w (omega arith) (fault_fair m k x q j) in
    enter_mid m k false f r d.mid d.away

pub borrow_kept : (m : ℕ) (k : List ℕ) {s : Machine} {a : Answer} {t : Machine} → Borrow m k s a t → Well m s → Borrowed m s a t
borrow_kept m k (refuses h) w = record { well = w; colds_fit = omega arith; tests_fit = omega arith; steps_fit = omega arith }
borrow_kept m k (hits {s = x} {e = e} {f = f} h j i) w =
    let v = moved_place (named k) (λ e. lent e ∷ []) x.ring e j in
    let a = v.counts has_bit in let b = v.counts marked in let c = v.counts is_hot in let d = w.few_hot in
    record {
      well = record {
        mid = borrow_mid m k (hits h j i) w.mid;
        keys = λ i. let y = v.counts (named i) in let z = w.keys i in omega arith;
        few_hot = omega arith;
      };
      colds_fit = omega arith;
      tests_fit = omega arith;
      steps_fit = omega arith;
    }
borrow_kept m k (test_faults {s = x} {r = r} {t = t} {e = e} {f = f} {h = h} {v = v} {n = n} q j i o u) w =
    let a = recalled_eased m k x e j i in
    let b = a.mids None w.mid in
    let c = b.memory in
    let d = room_roomed m o b (omega arith) (λ y. let z = recall_fair m k x e q j i y in let z' = a.idles in omega arith) in
    let p = (moved_place (named k) (λ _. []) x.ring e j).counts (named k) in
    let l : one (named k e) ≡ 1 = ap one (first_passes (named k) x.ring e j) in
    let y = w.keys k in let z = d.names k in
    let g = enter_mid m k true f r d.mid d.away in
    let hr = hot_run_eased m u in
    let ks = enter_keys k true f x r w.keys (λ i. let a1 = d.names i in let a2 = a.names i in omega arith) (omega arith) in
    let c1 = count-++ has_bit r.ring (entered k true f ∷ []) in let c2 = count-++ marked r.ring (entered k true f ∷ []) in
    let b1 = hr.bits in let b2 = hr.marks in let b3 = d.colds_fit in let b4 = d.tests_fit in let b5 = a.bits in let b6 = a.marks in
    let w1 = d.steps_fit in let w2 = hot_run_work m None u g in let w3 = work_fits m None (recalled m k x) b in let w4 = work_fits m None (enter k true f r) g in
    record {
      well = record { mid = hr.mids None g; keys = λ i. let a1 = hr.names i in let a2 = ks i in omega arith; few_hot = hot_run_cool m u };
      colds_fit = omega arith;
      tests_fit = omega arith;
      steps_fit = omega arith;
    }
borrow_kept m k (cold_faults {s = x} {r = r} {f = f} {v = v} {n = n} q j o) w =
    let c = w.mid.memory in
    let d = room_roomed m o w.mid (omega arith) (fault_fair m k x q j) in
    let z = d.names k in let y = first_none (named k) x.ring j in
    let g = enter_mid m k false f r d.mid d.away in
    let ks = enter_keys k false f x r w.keys d.names (omega arith) in
    let c1 = count-++ has_bit r.ring (entered k false f ∷ []) in let c2 = count-++ marked r.ring (entered k false f ∷ []) in let c3 = count-++ is_hot r.ring (entered k false f ∷ []) in
    let b3 = d.colds_fit in let b4 = d.tests_fit in let b5 = d.few w.few_hot in
    let w1 = d.steps_fit in let w3 = work_fits m None x w.mid in
    record { well = record { mid = g; keys = ks; few_hot = omega arith }; colds_fit = omega arith; tests_fit = omega arith; steps_fit = omega arith }
