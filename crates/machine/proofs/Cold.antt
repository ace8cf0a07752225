-- The cold run: at most one result, it ends, and what it leaves.
use Rattle.std.proofs.Common.{◌≡◌, ℕ, zero, suc, ◌+◌, ◌-◌, ◌<◌, ◌≤◌, Bool, true, false, cond, not, ◌&&◌, eqb, List, [], ◌∷◌, is_some, Some, None, Option, sym, refl, ap, ◌∙◌, subst, ap₂, arith}
use Rattle.std.specs.List.{AllByRecursion}
use Rattle.std.proofs.lemmas.Bool.Decides.{nat_tests}
use Rattle.machine.specs.Entry.{Entry, is_hot, has_bit, marked, resident, remembered, idle, free, named, in_frame, lies_in, on_page, one, count, first}
use Rattle.machine.specs.Hands.{Machine, promoted, retested, evicted, left, hot_step, promote, retest, evict, HotRun, Steps, steps, plus, ColdRun, no_candidate, promotes, retests, evicts}
use Rattle.machine.specs.Facts.{Proper, Mid}
use Rattle.machine.proofs.Counts.{differ, none_some, first_passes, first_none}
use Rattle.machine.proofs.Moves.{moved_place, moved_head}
use Rattle.machine.proofs.Eased.{Eased, eased_both, hot_eased, promote_eased, retest_eased, free-resident}
use Rattle.machine.proofs.Work.{work, hot_work, head_work}
use Rattle.machine.proofs.Runs.{hot_run_only, hot_run_eased, hot_run_work, hot_run_cool, hot_ends, cooler_few, hot_cooler, test_run_only, test_run_eased, test_run_tested, test_run_few, test_ends}

-- AT MOST ONE RESULT

same_bit : {A : Type 0} (o : Option Entry) (d e : Entry) → o ≡ Some d → o ≡ Some e → d.bit ≡ true → e.bit ≡ false → A
same_bit o d e h k i j = let q : d ≡ e = cc in differ e.bit (rw q at i) j

same_test : {A : Type 0} (o : Option Entry) (d e : Entry) → o ≡ Some d → o ≡ Some e → d.test ≡ true → e.test ≡ false → A
same_test o d e h k i j = let q : d ≡ e = cc in differ e.test (rw q at i) j

pub record Same (n k : Steps) (v w : Entry) (t u : Machine) : Type 0 where
  pub made : n ≡ k
  pub sent : v ≡ w
  pub after : t ≡ u

pub cold_run_only : (m : ℕ) {s : Machine} {n k : Steps} {v w : Entry} {t u : Machine} → ColdRun m s n v t → ColdRun m s k w u → Same n k v w t u
cold_run_only m (no_candidate h r) (no_candidate j q) = let o = cold_run_only m r q in record { made = ap (plus (steps 0 1 0)) o.made; sent = o.sent; after = o.after }
cold_run_only m (no_candidate {s = x} h r) (promotes {e = e} j b i a q) = none_some (first free x.ring) e h j
cold_run_only m (no_candidate {s = x} h r) (retests {e = e} j b i q) = none_some (first free x.ring) e h j
cold_run_only m (no_candidate {s = x} h r) (evicts {e = e} j b q) = none_some (first free x.ring) e h j
cold_run_only m (promotes {s = x} {e = e} h b i a r) (no_candidate j q) = none_some (first free x.ring) e j h
cold_run_only m (promotes {s = x} {e = d} h b i a r) (promotes {h = y} {t = u} {k = k} {n = n} {e = e} {v = w} j b' i' a' q) =
    let p : e ≡ d = cc in
    let o = hot_run_only m a (subst (λ z. HotRun m (promote m z x) k y) p a') in
    let l = cold_run_only m r (subst (λ z. ColdRun m z n w u) (sym o.1) q) in
    record { made = ap₂ (λ c z. plus (steps 1 c 0) z) o.0 l.made; sent = l.sent; after = l.after }
cold_run_only m (promotes {s = x} {e = d} h b i a r) (retests {e = e} j b' i' q) = same_test (first free x.ring) d e h j i i'
cold_run_only m (promotes {s = x} {e = d} h b i a r) (evicts {e = e} j b' q) = same_bit (first free x.ring) d e h j b b'
cold_run_only m (retests {s = x} {e = e} h b i r) (no_candidate j q) = none_some (first free x.ring) e j h
cold_run_only m (retests {s = x} {e = d} h b i r) (promotes {e = e} j b' i' a' q) = same_test (first free x.ring) e d j h i' i
cold_run_only m (retests {s = x} {e = d} h b i r) (retests {t = u} {n = n} {e = e} {v = w} j b' i' q) =
    let p : e ≡ d = cc in
    let l = cold_run_only m r (subst (λ z. ColdRun m (retest z x) n w u) p q) in
    record { made = ap (plus (steps 1 0 0)) l.made; sent = l.sent; after = l.after }
cold_run_only m (retests {s = x} {e = d} h b i r) (evicts {e = e} j b' q) = same_bit (first free x.ring) d e h j b b'
cold_run_only m (evicts {s = x} {e = e} h b r) (no_candidate j q) = none_some (first free x.ring) e j h
cold_run_only m (evicts {s = x} {e = d} h b r) (promotes {e = e} j b' i' a' q) = same_bit (first free x.ring) e d j h b' b
cold_run_only m (evicts {s = x} {e = d} h b r) (retests {e = e} j b' i' q) = same_bit (first free x.ring) e d j h b' b
cold_run_only m (evicts {s = x} {e = d} h b r) (evicts {e = e} j b' q) =
    let o = test_run_only m r q in record { made = ap (steps 1 0) o.0; sent = cc; after = o.1 }

-- THE LAST COLD STEP

free-idle : (e : Entry) → free e ≡ true → idle e ≡ true
free-idle e h = grind (arith, nat_tests)

pub has_frame : (o : Option ℕ) → is_some o ≡ true → (f : ℕ) × (o ≡ Some f)
has_frame None h = differ false h refl
has_frame (Some f) h = (f, refl)

pub evict_mid : (m f : ℕ) (s : Machine) (e : Entry) → Mid m None s → first free s.ring ≡ Some e → e.frame ≡ Some f → Mid m (Some f) (evict s)
evict_mid m f s e w h k =
    let v = moved_place free left s.ring e h in
    let b = left_facts e in
    record {
      entries = v.propers w.entries (λ _. b.propers);
      frames = λ i. let x = v.counts (lies_in i) in let y = b.lies i in let z = w.frames i in let j : one (lies_in i e) ≡ one (eqb i f) = ap (λ o. one (in_frame (eqb i) o)) k in omega arith;
      pages = let x = v.counts resident in let y = b.residents in let z = w.pages in let j : one (resident e) ≡ 1 = ap (λ o. one (is_some o)) k in omega arith;
      memory = let x = v.counts remembered in let y = b.remembereds in let z = w.memory in omega arith;
      frames_fit = w.frames_fit;
      cold_low = w.cold_low;
      cold_high = w.cold_high;
    }
  where
    left_facts : (e : Entry) → record { propers : AllByRecursion Proper (left e); lies : (i : ℕ) → count (lies_in i) (left e) ≡ 0; residents : count resident (left e) ≡ 0; remembereds : count remembered (left e) ≤ 1 }
    left_facts e = go e.test
      where
        go : (b : Bool) → let l : List Entry = cond b (evicted e ∷ []) [] in record { propers : AllByRecursion Proper l; lies : (i : ℕ) → count (lies_in i) l ≡ 0; residents : count resident l ≡ 0; remembereds : count remembered l ≤ 1 }
        go true = record { propers = (record { hot_unmarked = λ j. differ false j refl; hot_resident = λ j. differ false j refl; marked_away = λ _. refl; still_away = λ _. refl; unlent_away = λ _. refl; same_away = λ _. refl; loans_fit = omega arith }, tt); lies = λ i. omega arith; residents = omega arith; remembereds = omega arith }
        go false = record { propers = tt; lies = λ i. omega arith; residents = omega arith; remembereds = omega arith }

pub evict_names : (s : Machine) (e : Entry) (k : List ℕ) → first free s.ring ≡ Some e → count (named k) (evict s).ring ≤ count (named k) s.ring
evict_names s e k h = let y = (moved_place free left s.ring e h).counts (named k) in let z = go e.test in omega arith
  where
    go : (b : Bool) → count (named k) (cond b (evicted e ∷ []) []) ≤ one (named k e)
    go true = omega arith
    go false = omega arith

-- what stays of the victim has no bit, is not hot, and has the mark only if the victim had it
left_counts : (e : Entry) → (count has_bit (left e) ≡ 0) × (count is_hot (left e) ≡ 0) × (count marked (left e) ≡ one (marked e))
left_counts e = go e.test
  where
    go : (b : Bool) → let l : List Entry = cond b (evicted e ∷ []) [] in (count has_bit l ≡ 0) × (count is_hot l ≡ 0) × (count marked l ≡ one b)
    go true = (refl, refl, refl)
    go false = (refl, refl, refl)

left_pages : (e : Entry) (p : List ℕ → ℕ → ℕ → Bool → Bool) → count (on_page p) (left e) ≡ 0
left_pages e p = go e.test
  where
    go : (b : Bool) → count (on_page p) (cond b (evicted e ∷ []) []) ≡ 0
    go true = refl
    go false = refl

-- EVERY COLD RUN ENDS

-- where no candidate stands and some page has no loan, that page is hot
pub idle_hot : (s : Machine) → 1 ≤ count idle s.ring → first free s.ring ≡ None → 1 ≤ count is_hot s.ring
idle_hot s h k = let j = first_none free s.ring k in let i = split s.ring in omega arith
  where
    split : (xs : List Entry) → count idle xs ≤ count is_hot xs + count free xs
    split [] = omega arith
    split (x ∷ xs) = go x.hot (idle x) (split xs)
      where
        go : (a b : Bool) → count idle xs ≤ count is_hot xs + count free xs → one b + count idle xs ≤ one a + count is_hot xs + (one (not a && b) + count free xs)
        go true true h = omega arith
        go true false h = omega arith
        go false true h = omega arith
        go false false h = omega arith

abbrev pub ColdEnd : ℕ → Machine → Type 0
ColdEnd m s = (n : Steps) × (v : Entry) × (t : Machine) × ColdRun m s n v t

pub cold_ends : (m fuel : ℕ) (s : Machine) → Mid m None s → 1 ≤ count idle s.ring → work s.ring < fuel → ColdEnd m s
cold_ends m zero s w i h = absurd (omega arith)
cold_ends m (suc fuel) s w i h = go (first free s.ring) refl (λ x v j k. cold_ends m fuel x v j k)
  where
    More : Type 0
    More = (x : Machine) → Mid m None x → 1 ≤ count idle x.ring → work x.ring < fuel → ColdEnd m x

    at : (e : Entry) → first free s.ring ≡ Some e → (b d : Bool) → e.bit ≡ b → e.test ≡ d → More → ColdEnd m s
    at e k true true b d rec =
        let a = promote_eased m s e k in
        let v = a.mids None w in
        let o = head_work s.ring e (promoted e) k b refl in
        let z = a.idles in
        let r = hot_ends m (suc fuel) None (promote m e s) v (omega arith) in
        let p = hot_run_work m None r.2 v in
        let q = hot_run_eased m r.2 in
        let y = q.idles in
        let c = rec r.1 (q.mids None v) (omega arith) (omega arith) in
        (plus (steps 1 r.0 0) c.0, c.1, c.2, promotes {h = r.1} {t = c.2} {k = r.0} {n = c.0} {e = e} {v = c.1} k b d r.2 c.3)
    at e k true false b d rec =
        let a = retest_eased m s e k b in
        let o = head_work s.ring e (retested e) k b refl in
        let z = a.idles in
        let c = rec (retest e s) (a.mids None w) (omega arith) (omega arith) in
        (plus (steps 1 0 0) c.0, c.1, c.2, retests k b d c.3)
    at e k false d b j rec =
        let f = has_frame e.frame (free-resident e (first_passes free s.ring e k)).0 in
        let r = test_ends m (suc (count has_bit (evict s).ring + count marked (evict s).ring)) (Some f.0) (evict s) (evict_mid m f.0 s e w k f.1) (omega arith) in
        (steps 1 0 r.0, e, r.1, evicts k b r.2)

    go : (o : Option Entry) → first free s.ring ≡ o → More → ColdEnd m s
    go None k rec =
        let a = hot_eased m s in
        let j = hot_work s.ring (idle_hot s i k) in
        let z = a.idles in
        let c = rec (hot_step s) (a.mids None w) (omega arith) (omega arith) in
        (plus (steps 0 1 0) c.0, c.1, c.2, no_candidate k c.3)
    go (Some e) k rec = at e k e.bit e.test refl refl rec

-- WHAT A COLD RUN LEAVES

pub record Sent (m : ℕ) (s : Machine) (n : Steps) (v : Entry) (t : Machine) : Type 0 where
  pub freed : ℕ  -- the frame that it freed
  pub lies : v.frame ≡ Some freed
  pub unlent : v.loans ≡ 0  -- the victim had no loan
  pub mid : Mid m (Some freed) t
  pub away : count remembered t.ring ≤ m
  pub names : (k : List ℕ) → count (named k) t.ring ≤ count (named k) s.ring
  pub useds : t.used ≡ s.used
  pub pages : (p : List ℕ → ℕ → ℕ → Bool → Bool) → count (on_page p) t.ring + one (on_page p v) ≡ count (on_page p) s.ring  -- every other page is as it was
  pub few : count is_hot s.ring ≤ m - s.cold → count is_hot t.ring ≤ m - t.cold
  pub colds_fit : count has_bit t.ring + n.colds ≤ count has_bit s.ring + 1
  pub tests_fit : count has_bit t.ring + count marked t.ring + n.tests ≤ count has_bit s.ring + count marked s.ring
  pub steps_fit : n.colds + n.hots ≤ work s.ring + 1

-- a cold run that begins with an easing move
after_sent : (m : ℕ) (s x : Machine) (c h : ℕ) (n : Steps) (v : Entry) (t : Machine) → Eased m s x → Sent m x n v t →
    (count is_hot s.ring ≤ m - s.cold → count is_hot x.ring ≤ m - x.cold) →
    count has_bit x.ring + c ≤ count has_bit s.ring → c + h + work x.ring ≤ work s.ring →
    Sent m s (plus (steps c h 0) n) v t
after_sent m s x c h n v t a z f b w = record {
  freed = z.freed;
  lies = z.lies;
  unlent = z.unlent;
  mid = z.mid;
  away = z.away;
  names = λ k. let i = a.names k in let j = z.names k in omega arith;
  useds = z.useds ∙ a.useds;
  pages = λ p. let i = a.pages p in let j = z.pages p in omega arith;
  few = λ k. z.few (f k);
  colds_fit = let i = z.colds_fit in omega arith;
  tests_fit = let i = a.marks in let j = z.tests_fit in omega arith;
  steps_fit = let i = z.steps_fit in omega arith;
}

pub cold_run_sent : (m : ℕ) {s : Machine} {n : Steps} {v : Entry} {t : Machine} → ColdRun m s n v t → Mid m None s → 1 ≤ count idle s.ring → Sent m s n v t
cold_run_sent m (no_candidate {s = x} {t = t} {n = n} {v = v} k r) w i =
    let a = hot_eased m x in let z = a.idles in let d = a.bits in
    let j = hot_work x.ring (idle_hot x i k) in
    after_sent m x (hot_step x) 0 1 n v t a (cold_run_sent m r (a.mids None w) (omega arith)) (cooler_few m x (hot_step x) (hot_cooler x)) (omega arith) (omega arith)
cold_run_sent m (promotes {s = x} {h = y} {t = t} {k = h} {n = n} {e = e} {v = v} k b d q r) w i =
    let a = promote_eased m x e k in let z = a.idles in let v' = a.mids None w in
    let o = head_work x.ring e (promoted e) k b refl in
    let c = hot_run_eased m q in let z' = c.idles in let p = hot_run_work m None q v' in
    let l = c.bits in
    let f = (moved_head free (promoted e ∷ []) x.ring e k).counts has_bit in let g : one (has_bit e) ≡ 1 = ap one b in
    after_sent m x y 1 h n v t (eased_both m x (promote m e x) y a c) (cold_run_sent m r (c.mids None v') (omega arith)) (λ _. hot_run_cool m q) (omega arith) (omega arith)
cold_run_sent m (retests {s = x} {t = t} {n = n} {e = e} {v = v} k b d r) w i =
    let a = retest_eased m x e k b in let z = a.idles in
    let o = head_work x.ring e (retested e) k b refl in
    let u = moved_head free (retested e ∷ []) x.ring e k in
    let f = u.counts has_bit in let g : one (has_bit e) ≡ 1 = ap one b in let l = u.counts is_hot in
    after_sent m x (retest e x) 1 0 n v t a (cold_run_sent m r (a.mids None w) (omega arith)) (λ j. omega arith) (omega arith) (omega arith)
cold_run_sent m (evicts {s = x} {t = t} {k = h} {e = e} k b q) w i =
    let p = first_passes free x.ring e k in
    let f = has_frame e.frame (free-resident e p).0 in
    let v = evict_mid m f.0 x e w k f.1 in
    let a = test_run_eased m (Some f.0) q v in
    let d = test_run_tested m (Some f.0) q v in
    let u = moved_place free left x.ring e k in let l = left_counts e in
    let c1 = u.counts has_bit in let c2 = u.counts is_hot in let c3 = u.counts marked in
    let g : one (has_bit e) ≡ 0 = ap one b in
    let o : one (is_hot e) ≡ 0 = ap one (free-resident e p).1 in
    record {
      freed = f.0;
      lies = f.1;
      unlent = (free-resident e p).2;
      mid = a.mids (Some f.0) v;
      away = test_run_few m q;
      names = λ j. let y = a.names j in let z = evict_names x e j k in omega arith;
      useds = a.useds;
      pages = λ p. let y = a.pages p in let z = u.counts (on_page p) in let j = left_pages e p in omega arith;
      few = λ j. let y = d.hots in let z = d.colds in omega arith;
      colds_fit = let y = a.bits in omega arith;
      tests_fit = let y = d.marks in omega arith;
      steps_fit = omega arith;
    }
