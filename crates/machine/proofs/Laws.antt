-- The laws of the calls: returns, lists of calls, one answer to each borrow and no more, and what an 11 means.
use Rattle.std.proofs.Common.{◌≡◌, ℕ, suc, ◌+◌, ◌*◌, ◌^◌, ◌<◌, ◌≤◌, Bool, true, false, cond, not, ◌&&◌, eqb, ltb, ◌⊎◌, List, [], ◌∷◌, ◌++◌, length, is_some, Some, None, Option, sym, refl, ap, ◌∙◌, subst, subst₂, inl, inr, mul-le-mul, arith}
use Rattle.std.specs.List.{AllByRecursion}
use Rattle.std.proofs.lemmas.Bool.{ltb-false, le-ltb, eqb-true, eq-eqb, and_parts, and_from}
use Rattle.keys.specs.Same.{same_list}
use Rattle.keys.proofs.Compare.{same_list_true, same_list_same}
use Rattle.machine.specs.Entry.{Entry, is_hot, has_bit, marked, resident, idle, named, in_frame, lies_in, on_page, one, one_of, count, first, replaced}
use Rattle.machine.specs.Hands.{Machine, opened, HotRun, ColdRun, Steps, steps, plus}
use Rattle.machine.specs.Borrow.{Report, Answer, granted, refused, a_hit, a_test_fault, a_cold_fault, full, refusal_at, refusal, lent, hit, recalled, entered, enter, grown, key_of, Room, unused, freed, Borrow, refuses, hits, test_faults, cold_faults, occupant, loans_at, altered_at, repaid, returned, give_back, marking, mark_page}
use Rattle.machine.specs.Facts.{Proper, Mid, Well}
use Rattle.machine.specs.Calls.{Calls, no_call, a_borrow, a_return, a_mark, sum_of, grants, colds_of, hots_of, tests_of}
use Rattle.machine.specs.Laws.{Turnover}
use Rattle.machine.proofs.Counts.{first_has, differ, none_some, first_passes, first_none, first_some, count-++, count-replaced, count_le}
use Rattle.machine.proofs.Moves.{moved_place, stands_changed, mid_moved, proper_here}
use Rattle.machine.proofs.Work.{work, anyone}
use Rattle.machine.proofs.Runs.{count_weaker, hot_run_only, hot_run_eased, hot_ends}
use Rattle.machine.proofs.Cold.{cold_run_only, cold_run_sent, cold_ends}
use Rattle.machine.proofs.Calls.{Fair, room_roomed, enter_mid, borrow_kept, opened_well, fault_fair, recall_fair, recalled_eased, size_fits}

-- A RETURN

pub record Returned (m : ℕ) (s t : Machine) : Type 0 where
  pub well : Well m t
  pub bits : count has_bit t.ring ≡ count has_bit s.ring
  pub marks : count marked t.ring ≡ count marked s.ring

-- what holds at every moment holds after a return
returned_mid : (m f : ℕ) (s : Machine) (e : Entry) → first (lies_in f) s.ring ≡ Some e → Mid m None s → Mid m None (returned f s)
returned_mid m f s e h w = mid_moved m None s e (repaid e ∷ []) (returned f s).ring s.cold w (moved_place (lies_in f) (λ e. repaid e ∷ []) s.ring e h)
    (stands_changed e (repaid e) refl refl (λ p. let l = p.loans_fit in record { hot_unmarked = p.hot_unmarked; hot_resident = p.hot_resident; marked_away = p.marked_away; still_away = p.still_away; unlent_away = λ j. let q = p.unlent_away j in omega arith; same_away = p.same_away; loans_fit = omega arith }))
    w.cold_low w.cold_high

-- a return takes place only where an entry lies in the frame
return_ways : (P : Machine → Type 0) (f : ℕ) (s : Machine) → P s → ((e : Entry) → first (lies_in f) s.ring ≡ Some e → P (returned f s)) → P (give_back f s)
return_ways P f s w there = go (first (lies_in f) s.ring) refl
  where
    either : (b : Bool) (e : Entry) → first (lies_in f) s.ring ≡ Some e → P (cond b (returned f s) s)
    either true e h = there e h
    either false e h = w

    go : (o : Option Entry) → first (lies_in f) s.ring ≡ o → P (cond (ltb 0 (loans_at (first (lies_in f) s.ring))) (returned f s) s)
    go None h = rw h w
    go (Some e) h = either (ltb 0 (loans_at (first (lies_in f) s.ring))) e h

pub return_mid : (m f : ℕ) (s : Machine) → Mid m None s → Mid m None (give_back f s)
return_mid m f s w = return_ways (λ x. Mid m None x) f s w (λ e h. returned_mid m f s e h w)

pub return_kept : (m f : ℕ) (s : Machine) → Well m s → Returned m s (give_back f s)
return_kept m f s w = return_ways (λ x. Returned m s x) f s (record { well = w; bits = refl; marks = refl }) there
  where
    there : (e : Entry) → first (lies_in f) s.ring ≡ Some e → Returned m s (returned f s)
    there e h =
        let v = moved_place (lies_in f) (λ e. repaid e ∷ []) s.ring e h in
        let a = v.counts has_bit in let b = v.counts marked in let c = v.counts is_hot in let d = w.few_hot in
        record {
          well = record {
            mid = returned_mid m f s e h w.mid;
            keys = λ i. let y = v.counts (named i) in let z = w.keys i in omega arith;
            few_hot = omega arith;
          };
          bits = omega arith;
          marks = omega arith;
        }

-- CHANGING AN ALTERED MARK

lies_here : (f : ℕ) (o : Option ℕ) → in_frame (eqb f) o ≡ true → is_some o ≡ true
lies_here f None h = differ false h refl
lies_here f (Some g) h = refl

pub replaced_none : (p : Entry → Bool) (f : Entry → List Entry) (xs : List Entry) → first p xs ≡ None → replaced p f xs ≡ xs
replaced_none p f [] h = refl
replaced_none p f (x ∷ xs) h = go (p x) (λ k. replaced_none p f xs k) h
  where
    go : (b : Bool) → (first p xs ≡ None → replaced p f xs ≡ xs) → cond b (Some x) (first p xs) ≡ None → cond b (f x ++ xs) (x ∷ replaced p f xs) ≡ x ∷ xs
    go true ih h = let z : ◌≡◌ {A = ℕ} 0 1 = cc in absurd (omega arith)
    go false ih h = ap (λ l. x ∷ l) (ih h)

-- a mark is changed only where an entry lies in the frame
mark_ways : (P : Machine → Type 0) (f : ℕ) (b : Bool) (s : Machine) → P s → ((e : Entry) → first (lies_in f) s.ring ≡ Some e → P (mark_page f b s)) → P (mark_page f b s)
mark_ways P f b s w there = go (first (lies_in f) s.ring) refl
  where
    go : (o : Option Entry) → first (lies_in f) s.ring ≡ o → P (mark_page f b s)
    go None h = subst (λ r. P (record { ring = r; cold = s.cold; used = s.used })) (sym (replaced_none (lies_in f) (λ e. marking b e ∷ []) s.ring h)) w
    go (Some e) h = there e h

marked_mid : (m f : ℕ) (b : Bool) (s : Machine) (e : Entry) → first (lies_in f) s.ring ≡ Some e → Mid m None s → Mid m None (mark_page f b s)
marked_mid m f b s e h w =
    let here : resident e ≡ true = lies_here f e.frame (first_passes (lies_in f) s.ring e h) in
    mid_moved m None s e (marking b e ∷ []) (mark_page f b s).ring s.cold w (moved_place (lies_in f) (λ e. marking b e ∷ []) s.ring e h)
    (stands_changed e (marking b e) refl refl (λ p. proper_here (marking b e) here p.hot_unmarked p.loans_fit)) w.cold_low w.cold_high

pub mark_mid : (m f : ℕ) (b : Bool) (s : Machine) → Mid m None s → Mid m None (mark_page f b s)
mark_mid m f b s w = mark_ways (λ x. Mid m None x) f b s w (λ e h. marked_mid m f b s e h w)

pub mark_kept : (m f : ℕ) (b : Bool) (s : Machine) → Well m s → Returned m s (mark_page f b s)
mark_kept m f b s w = mark_ways (λ x. Returned m s x) f b s (record { well = w; bits = refl; marks = refl }) there
  where
    there : (e : Entry) → first (lies_in f) s.ring ≡ Some e → Returned m s (mark_page f b s)
    there e h =
        let v = moved_place (lies_in f) (λ e. marking b e ∷ []) s.ring e h in
        let a = v.counts has_bit in let d = v.counts marked in let c = v.counts is_hot in let i = w.few_hot in
        record {
          well = record {
            mid = marked_mid m f b s e h w.mid;
            keys = λ j. let y = v.counts (named j) in let z = w.keys j in omega arith;
            few_hot = omega arith;
          };
          bits = omega arith;
          marks = omega arith;
        }

-- LISTS OF CALLS

pub record Kept (m : ℕ) (s : Machine) (xs : List Answer) (t : Machine) : Type 0 where
  pub well : Well m t
  pub colds_fit : count has_bit t.ring + sum_of colds_of xs ≤ count has_bit s.ring + sum_of grants xs
  pub tests_fit : count has_bit t.ring + count marked t.ring + sum_of tests_of xs ≤ count has_bit s.ring + count marked s.ring + sum_of grants xs

pub calls_kept : (m : ℕ) {s : Machine} {xs : List Answer} {t : Machine} → Calls m s xs t → Well m s → Kept m s xs t
calls_kept m no_call w = record { well = w; colds_fit = omega arith; tests_fit = omega arith }
calls_kept m (a_borrow k b r) w =
    let x = borrow_kept m k b w in let y = calls_kept m r x.well in
    let i = x.colds_fit in let j = x.tests_fit in let p = y.colds_fit in let q = y.tests_fit in
    record { well = y.well; colds_fit = omega arith; tests_fit = omega arith }
calls_kept m (a_mark {s = s} f b r) w =
    let x = mark_kept m f b s w in let y = calls_kept m r x.well in
    let i = x.bits in let j = x.marks in let p = y.colds_fit in let q = y.tests_fit in
    record { well = y.well; colds_fit = omega arith; tests_fit = omega arith }
calls_kept m (a_return {s = s} f r) w =
    let x = return_kept m f s w in let y = calls_kept m r x.well in
    let i = x.bits in let j = x.marks in let p = y.colds_fit in let q = y.tests_fit in
    record { well = y.well; colds_fit = omega arith; tests_fit = omega arith }

-- from opening on, cold steps and test steps add up to at most the borrows granted
pub steps_paid : (m : ℕ) (xs : List Answer) (t : Machine) → 2 ≤ m → Calls m (opened m) xs t → (sum_of colds_of xs ≤ sum_of grants xs) × (sum_of tests_of xs ≤ sum_of grants xs)
steps_paid m xs t h c = let k = calls_kept m c (opened_well m h) in let i = k.colds_fit in let j = k.tests_fit in (omega arith, omega arith)

-- no counter of 32 bits runs over in one call
pub counters_fit : (m : ℕ) (k : List ℕ) {s : Machine} {a : Answer} {t : Machine} → m ≤ 4096 → Borrow m k s a t → Well m s → colds_of a + hots_of a < 2 ^ 28
counters_fit m k h b w =
    let x = (borrow_kept m k b w).steps_fit in
    let i : m + m ≤ 8192 = omega arith in let j : m + m + 1 ≤ 8193 = omega arith in
    let p : (m + m) * (m + m + 1) ≤ 8192 * 8193 = mul-le-mul i j in
    omega arith

-- EACH BORROW HAS AN ANSWER

pub room_ends : (m : ℕ) (s : Machine) → Mid m None s → Fair m s → (f : ℕ) × (v : Option Entry) × (n : Steps) × (r : Machine) × Room m s f v n r
room_ends m s w i = go (ltb s.used m) refl
  where
    go : (b : Bool) → ltb s.used m ≡ b → (f : ℕ) × (v : Option Entry) × (n : Steps) × (r : Machine) × Room m s f v n r
    go true h = (s.used, None, steps 0 0 0, grown s, unused h)
    go false h =
        let c = cold_ends m (suc (work s.ring)) s w (i h) (omega arith) in
        let z = cold_run_sent m c.3 w (i h) in
        (z.freed, Some c.1, c.0, c.2, freed {n = c.0} {v = c.1} h c.3 z.lies)

pub borrow_ends : (m : ℕ) (k : List ℕ) (s : Machine) → Well m s → (a : Answer) × (t : Machine) × Borrow m k s a t
borrow_ends m k s w = go (refusal m k s) refl
  where
    End : Type 0
    End = (a : Answer) × (t : Machine) × Borrow m k s a t

    found : refusal m k s ≡ None → (e : Entry) → first (named k) s.ring ≡ Some e → (o : Option ℕ) → e.frame ≡ o → End
    found h e j (Some f) i = (granted f (record { outcome = a_hit; victim = None; made = steps 0 0 0; cold = s.cold }), hit k s, hits h j i)
    found h e j None i =
        let a = recalled_eased m k s e j i in
        let b = a.mids None w.mid in let b' = b.memory in
        let fair : Fair m (recalled m k s) = λ y. let z = recall_fair m k s e h j i y in let z' = a.idles in omega arith in
        let r = room_ends m (recalled m k s) b fair in
        let d = room_roomed m r.4 b (omega arith) fair in
        let g = enter_mid m k true r.0 r.3 d.mid d.away in
        let x = hot_ends m (suc (work (enter k true r.0 r.3).ring)) None (enter k true r.0 r.3) g (omega arith) in (
          granted r.0 (record { outcome = a_test_fault; victim = key_of r.1; made = plus r.2 (steps 0 x.0 0); cold = x.1.cold }),
          x.1,
          test_faults {r = r.3} {t = x.1} {e = e} {f = r.0} {h = x.0} {v = r.1} {n = r.2} h j i r.4 x.2,
        )

    sought : refusal m k s ≡ None → (o : Option Entry) → first (named k) s.ring ≡ o → End
    sought h None j =
        let r = room_ends m s w.mid (fault_fair m k s h j) in (
          granted r.0 (record { outcome = a_cold_fault; victim = key_of r.1; made = r.2; cold = r.3.cold }),
          enter k false r.0 r.3,
          cold_faults {r = r.3} {f = r.0} {v = r.1} {n = r.2} h j r.4,
        )
    sought h (Some e) j = found h e j e.frame refl

    go : (o : Option ℕ) → refusal m k s ≡ o → End
    go (Some n) h = (refused n, s, refuses h)
    go None h = sought h (first (named k) s.ring) refl

-- AND NO MORE THAN ONE

pub record SameRoom (f g : ℕ) (v w : Option Entry) (n k : Steps) (r t : Machine) : Type 0 where
  pub frame : f ≡ g
  pub victim : v ≡ w
  pub made : n ≡ k
  pub after : r ≡ t

pub room_only : (m : ℕ) {s : Machine} {f g : ℕ} {v w : Option Entry} {n k : Steps} {r t : Machine} → Room m s f v n r → Room m s g w k t → SameRoom f g v w n k r t
room_only m (unused h) (unused j) = record { frame = refl; victim = refl; made = refl; after = refl }
room_only m (unused {s = x} h) (freed j r l) = differ (ltb x.used m) h j
room_only m (freed {s = x} h r l) (unused j) = differ (ltb x.used m) j h
room_only m (freed {v = v} {f = f} h r l) (freed {v = w} {f = g} j q i) =
    let o = cold_run_only m r q in
    let p : v ≡ w = o.sent in
    let l' : w.frame ≡ Some f = rw p at l in
    record { frame = cc; victim = ap Some p; made = o.made; after = o.after }

same_frame : {A : Type 0} (o : Option Entry) (d e : Entry) (f : ℕ) → o ≡ Some d → o ≡ Some e → d.frame ≡ None → e.frame ≡ Some f → A
same_frame o d e f h k i j = let q : d ≡ e = cc in none_some e.frame f (rw q at i) j

pub borrow_only : (m : ℕ) (k : List ℕ) {s : Machine} {a b : Answer} {t u : Machine} → Borrow m k s a t → Borrow m k s b u → (a ≡ b) × (t ≡ u)
borrow_only m k (refuses {n = n} h) (refuses {n = c} j) = let e : n ≡ c = cc in (ap refused e, refl)
borrow_only m k (refuses {s = x} {n = n} h) (hits j i f) = none_some (refusal m k x) n j h
borrow_only m k (refuses {s = x} {n = n} h) (test_faults j i f r q) = none_some (refusal m k x) n j h
borrow_only m k (refuses {s = x} {n = n} h) (cold_faults j i r) = none_some (refusal m k x) n j h
borrow_only m k (hits {s = x} h i f) (refuses {n = n} j) = none_some (refusal m k x) n h j
borrow_only m k (hits {s = x} {e = d} {f = f} h i l) (hits {e = e} {f = g} j i' l') =
    let p : d ≡ e = cc in let q : e.frame ≡ Some f = rw p at l in let o : f ≡ g = cc in
    (ap (λ z. granted z (record { outcome = a_hit; victim = None; made = steps 0 0 0; cold = x.cold })) o, refl)
borrow_only m k (hits {s = x} {e = d} {f = f} h i l) (test_faults {e = e} j i' l' r q) = same_frame (first (named k) x.ring) e d f i' i l' l
borrow_only m k (hits {s = x} {e = d} h i l) (cold_faults j i' r) = none_some (first (named k) x.ring) d i' i
borrow_only m k (test_faults {s = x} h i l r q) (refuses {n = n} j) = none_some (refusal m k x) n h j
borrow_only m k (test_faults {s = x} {e = d} h i l r q) (hits {e = e} {f = f} j i' l') = same_frame (first (named k) x.ring) d e f i i' l l'
borrow_only m k (test_faults {s = x} {r = r} {t = t} {f = f} {h = n} {v = v} {n = c} h i l o q) (test_faults {r = r'} {t = t'} {f = f'} {h = n'} {v = v'} {n = c'} h' i' l' o' q') =
    let e = room_only m o o' in
    let z = hot_run_only m q (subst₂ (λ a b. HotRun m (enter k true a b) n' t') (sym e.frame) (sym e.after) q') in
    let e1 = e.frame in let e2 = e.victim in let e3 = e.made in let e4 = z.0 in let e5 = z.1 in
    (cc, z.1)
borrow_only m k (test_faults {s = x} {e = d} h i l r q) (cold_faults j i' o) = none_some (first (named k) x.ring) d i' i
borrow_only m k (cold_faults {s = x} h i r) (refuses {n = n} j) = none_some (refusal m k x) n h j
borrow_only m k (cold_faults {s = x} h i r) (hits {e = e} j i' l) = none_some (first (named k) x.ring) e i i'
borrow_only m k (cold_faults {s = x} h i r) (test_faults {e = e} j i' l o q) = none_some (first (named k) x.ring) e i i'
borrow_only m k (cold_faults h i o) (cold_faults h' i' o') =
    let e = room_only m o o' in
    let e1 = e.frame in let e2 = e.victim in let e3 = e.made in let e4 = e.after in
    (cc, cc)

-- REFUSALS

full_eleven : (m : ℕ) (s : Machine) → full m s ≡ Some 11 → (m ≤ s.used) × (count idle s.ring ≡ 0)
full_eleven m s h = go (ltb s.used m) (ltb 0 (count idle s.ring)) refl refl h
  where
    go : (b c : Bool) → ltb s.used m ≡ b → ltb 0 (count idle s.ring) ≡ c → cond {A = Option ℕ} b None (cond c None (Some 11)) ≡ Some 11 → (m ≤ s.used) × (count idle s.ring ≡ 0)
    go true c i j h = let z : ◌≡◌ {A = ℕ} 0 1 = cc in absurd (omega arith)
    go false true i j h = let z : ◌≡◌ {A = ℕ} 0 1 = cc in absurd (omega arith)
    go false false i j h = let a = ltb-false s.used m i in let b = ltb-false 0 (count idle s.ring) j in (a, omega arith)

pub eleven_only : (m : ℕ) (k : List ℕ) (s : Machine) → Well m s → refusal m k s ≡ Some 11 →
    (s.used ≡ m) × (count idle s.ring ≡ 0) × ((e : Entry) → first (named k) s.ring ≡ Some e → resident e ≡ false)
eleven_only m k s w h = let a = at (first (named k) s.ring) h in let b = w.mid.frames_fit in (omega arith, a.1, λ e j. away e (rw j at h))
  where
    not_ten : {A : Type 0} (b : Bool) → cond {A = Option ℕ} b None (Some 10) ≡ Some 11 → A
    not_ten true h = none_some None 11 refl h
    not_ten false h = let z : ◌≡◌ {A = ℕ} 10 11 = cc in absurd (omega arith)

    away : (e : Entry) → refusal_at m s (Some e) ≡ Some 11 → resident e ≡ false
    away e h = which (resident e) (ltb e.loans 255) h
      where
        which : (b c : Bool) → cond {A = Option ℕ} b (cond c None (Some 10)) (full m s) ≡ Some 11 → b ≡ false
        which true c h = not_ten c h
        which false c h = refl

    or : (b c : Bool) → cond {A = Option ℕ} b (cond c None (Some 10)) (full m s) ≡ Some 11 → (m ≤ s.used) × (count idle s.ring ≡ 0)
    or true c h = not_ten c h
    or false c h = full_eleven m s h

    at : (o : Option Entry) → refusal_at m s o ≡ Some 11 → (m ≤ s.used) × (count idle s.ring ≡ 0)
    at None h = full_eleven m s h
    at (Some e) h = or (resident e) (ltb e.loans 255) h

full-number : (m : ℕ) (s : Machine) (n : ℕ) → full m s ≡ Some n → n ≡ 11
full-number m s n h = go (ltb s.used m) (ltb 0 (count idle s.ring)) h
  where
    go : (b c : Bool) → cond {A = Option ℕ} b None (cond c None (Some 11)) ≡ Some n → n ≡ 11
    go true c h = none_some None n refl h
    go false true h = none_some None n refl h
    go false false h = cc

pub refusals_two : (m : ℕ) (k : List ℕ) (s : Machine) (n : ℕ) → refusal m k s ≡ Some n → (n ≡ 10) ⊎ (n ≡ 11)
refusals_two m k s n h = at (first (named k) s.ring) h
  where
    ten : (b : Bool) → cond {A = Option ℕ} b None (Some 10) ≡ Some n → n ≡ 10
    ten true h = none_some None n refl h
    ten false h = cc

    or : (b c : Bool) → cond {A = Option ℕ} b (cond c None (Some 10)) (full m s) ≡ Some n → (n ≡ 10) ⊎ (n ≡ 11)
    or true c h = inl (ten c h)
    or false c h = inr (full-number m s n h)

    at : (o : Option Entry) → refusal_at m s o ≡ Some n → (n ≡ 10) ⊎ (n ≡ 11)
    at None h = inr (full-number m s n h)
    at (Some e) h = or (resident e) (ltb e.loans 255) h

pub ten_only : (m : ℕ) (k : List ℕ) (s : Machine) → Well m s → refusal m k s ≡ Some 10 →
    (e : Entry) × (first (named k) s.ring ≡ Some e) × (resident e ≡ true) × (e.loans ≡ 255)
ten_only m k s w h = at (first (named k) s.ring) refl h
  where
    Ten : Type 0
    Ten = (e : Entry) × (first (named k) s.ring ≡ Some e) × (resident e ≡ true) × (e.loans ≡ 255)

    or : (e : Entry) → first (named k) s.ring ≡ Some e → (b c : Bool) → resident e ≡ b → ltb e.loans 255 ≡ c → cond {A = Option ℕ} b (cond c None (Some 10)) (full m s) ≡ Some 10 → Ten
    or e j true true i l h = none_some None 10 refl h
    or e j true false i l h = let a = ltb-false e.loans 255 l in let p = first_has Proper (named k) s.ring e j w.mid.entries in let b = p.loans_fit in (e, j, i, omega arith)
    or e j false c i l h = let z = full-number m s 10 h in absurd (omega arith)

    at : (o : Option Entry) → first (named k) s.ring ≡ o → refusal_at m s o ≡ Some 10 → Ten
    at None j h = let z = full-number m s 10 h in absurd (omega arith)
    at (Some e) j h = or e j (resident e) (ltb e.loans 255) refl refl h

pub victim_found : (m : ℕ) (s : Machine) → Mid m None s → 1 ≤ count idle s.ring → (n : Steps) × (v : Entry) × (t : Machine) × ColdRun m s n v t × (v.loans ≡ 0)
victim_found m s w i = let c = cold_ends m (suc (work s.ring)) s w i (omega arith) in (c.0, c.1, c.2, c.3, (cold_run_sent m c.3 w i).unlent)

-- PAGES

no_loans : (o : Option Entry) → ((e : Entry) → o ≡ Some e → e.loans ≡ 0) → loans_at o ≡ 0
no_loans None h = refl
no_loans (Some e) h = h e refl

-- an entry that passes q is counted, and where one passes at most, it is the first
first_counts : (p q : Entry → Bool) (xs : List Entry) (e : Entry) → first p xs ≡ Some e → q e ≡ true → 1 ≤ count q xs
first_counts p q xs e h k = let a = count-replaced p q (λ _. []) xs e h in let b : one (q e) ≡ 1 = ap one k in omega arith

first_only : (p q : Entry → Bool) (xs : List Entry) (e : Entry) → first p xs ≡ Some e → q e ≡ true → count q xs ≤ 1 → first q xs ≡ Some e
first_only p q [] e h k l = let z : ◌≡◌ {A = ℕ} 0 1 = cc in absurd (omega arith)
first_only p q (x ∷ xs) e h k l = go (p x) (q x) refl (λ i j. first_only p q xs e i k j) h l
  where
    go : (b c : Bool) → q x ≡ c → (first p xs ≡ Some e → count q xs ≤ 1 → first q xs ≡ Some e) →
        cond b (Some x) (first p xs) ≡ Some e → one c + count q xs ≤ 1 → cond c (Some x) (first q xs) ≡ Some e
    go true true i ih h l = h
    go true false i ih h l = let z : x ≡ e = cc in differ (q e) k (rw z at i)
    go false true i ih h l = let a = first_counts p q xs e h k in absurd (omega arith)
    go false false i ih h l = ih h (omega arith)

-- a page with this key, these loans and this mark
abbrev alike : Entry → List ℕ → ℕ → ℕ → Bool → Bool
alike v i g l a = same_list v.key i && (eqb v.loans l && cond a v.altered (not v.altered))

alike_self : (v : Entry) (f : ℕ) → v.frame ≡ Some f → on_page (alike v) v ≡ true
alike_self v f h = rw h (and_from (same_list v.key v.key) _ (same_list_same v.key) (and_from (eqb v.loans v.loans) _ (eq-eqb v.loans v.loans refl) (go v.altered)))
  where
    go : (b : Bool) → cond b b (not b) ≡ true
    go true = refl
    go false = refl

record Alike (v e : Entry) : Type 0 where
  key : v.key ≡ e.key
  loans : v.loans ≡ e.loans
  altered : v.altered ≡ e.altered

alike_both : (v e : Entry) → on_page (alike v) e ≡ true → Alike v e
alike_both v e h = go e.frame h
  where
    same : (a b : Bool) → cond b a (not a) ≡ true → a ≡ b
    same true true j = refl
    same true false j = differ false j refl
    same false true j = differ false j refl
    same false false j = refl

    go : (o : Option ℕ) → in_frame (λ f. alike v e.key f e.loans e.altered) o ≡ true → Alike v e
    go None j = differ false j refl
    go (Some g) j =
        let a = and_parts (same_list v.key e.key) _ j in let b = and_parts (eqb v.loans e.loans) _ a.1 in
        record { key = same_list_true v.key e.key a.0; loans = eqb-true v.loans e.loans b.0; altered = same v.altered e.altered b.1 }

-- a test of the page that asks for its frame too
abbrev in_it : ℕ → (List ℕ → ℕ → Bool → Bool) → List ℕ → ℕ → ℕ → Bool → Bool
in_it f p i g l a = eqb f g && p i l a

-- what went lay in the frame before
record Lay (f : ℕ) (s : Machine) (v : Option Entry) : Type 0 where
  key : key_of v ≡ key_of (occupant f s)
  loans : loans_at v ≡ loans_at (occupant f s)
  altered : altered_at v ≡ altered_at (occupant f s)

lay_all : (f : ℕ) (s : Machine) (v : Option Entry) → v ≡ occupant f s → Lay f s v
lay_all f s v h = record { key = ap key_of h; loans = ap loans_at h; altered = ap altered_at h }

frame_once : (m f : ℕ) (s : Machine) → Mid m None s → count (lies_in f) s.ring ≤ 1
frame_once m f s w = let a = w.frames f in let b = go (ltb f s.used) in omega arith
  where
    go : (b : Bool) → one b ≤ 1
    go true = omega arith
    go false = omega arith

lay_some : (m f : ℕ) (s : Machine) (v : Entry) → Mid m None s → v.frame ≡ Some f →
    ((p : List ℕ → ℕ → ℕ → Bool → Bool) → one (on_page p v) ≤ count (on_page p) s.ring) → Lay f s (Some v)
lay_some m f s v w h c =
    let a = c test in let b : one (on_page test v) ≡ 1 = ap one it in
    let e = first_some (on_page test) s.ring (omega arith) in
    let o = other e.0 (first_passes (on_page test) s.ring e.0 e.1) in
    let q = first_only (on_page test) (lies_in f) s.ring e.0 e.1 o.0 (frame_once m f s w) in
    let k = o.1 in
    record { key = ap Some k.key ∙ sym (ap key_of q); loans = k.loans ∙ sym (ap loans_at q); altered = k.altered ∙ sym (ap altered_at q) }
  where
    test : List ℕ → ℕ → ℕ → Bool → Bool
    test = in_it f (λ i l a. alike v i 0 l a)

    it : on_page test v ≡ true
    it = let j : on_page (alike v) v ≡ true = alike_self v f h in rw h (and_from (eqb f f) _ (eq-eqb f f refl) (rw h at j))

    other : (e : Entry) → on_page test e ≡ true → (lies_in f e ≡ true) × Alike v e
    other e j = go e.frame refl j
      where
        go : (o : Option ℕ) → e.frame ≡ o → in_frame (λ g. test e.key g e.loans e.altered) o ≡ true → (in_frame (eqb f) o ≡ true) × Alike v e
        go None i j = differ false j refl
        go (Some g) i j = let a = and_parts (eqb f g) _ j in (a.0, alike_both v e (rw i a.1))

-- the key is nowhere among the pages
abbrev Anew : List ℕ → Machine → Type 0
Anew k s = count (on_page (λ i g l a. same_list k i)) s.ring ≡ 0

page-named : (k : List ℕ) (xs : List Entry) → AllByRecursion Proper xs → count (on_page (λ i g l a. same_list k i)) xs ≤ count (named k) xs
page-named k xs a = count_weaker Proper (on_page (λ i g l a. same_list k i)) (named k) (λ e p h. go e e.frame h) xs a
  where
    go : (e : Entry) (o : Option ℕ) → in_frame (λ f. same_list k e.key) o ≡ true → same_list k e.key ≡ true
    go e None h = differ false h refl
    go e (Some f) h = h

-- what goes after a fault: it lay in the frame, and has another key
record Went (k : List ℕ) (f : ℕ) (s : Machine) (v : Option Entry) : Type 0 where
  lay : Lay f s v
  other : (e : Entry) → v ≡ Some e → same_list k e.key ≡ false

went_some : (m : ℕ) (k : List ℕ) (f : ℕ) (s : Machine) (v : Entry) → Mid m None s → v.frame ≡ Some f → Anew k s →
    ((p : List ℕ → ℕ → ℕ → Bool → Bool) → one (on_page p v) ≤ count (on_page p) s.ring) → Went k f s (Some v)
went_some m k f s v w h n c = record { lay = lay_some m f s v w h c; other = λ e j. let q : v ≡ e = cc in rw q at (go (same_list k v.key) refl) }
  where
    go : (b : Bool) → same_list k v.key ≡ b → b ≡ false
    go true j =
        let a = c (λ i g l x. same_list k i) in
        let p : on_page (λ i g l x. same_list k i) v ≡ true = rw h j in
        let b : one (on_page (λ i g l x. same_list k i) v) ≡ 1 = ap one p in absurd (omega arith)
    go false j = refl

went_room : (m : ℕ) (k : List ℕ) {s : Machine} {f : ℕ} {v : Option Entry} {n : Steps} {r : Machine} → Room m s f v n r → (x : Machine) → Mid m None x → x.used ≡ s.used → Anew k x →
    ((p : List ℕ → ℕ → ℕ → Bool → Bool) → one_of (on_page p) v ≤ count (on_page p) x.ring) → Went k f x v
went_room m k (unused {s = s} h) x w u n c = record { lay = lay_all s.used x None (sym (first_zero (lies_in s.used) x.ring none)); other = λ e j. none_some None e refl j }
  where
    none : count (lies_in s.used) x.ring ≡ 0
    none = let a = w.frames s.used in let b : ltb s.used x.used ≡ false = rw u (le-ltb s.used s.used (omega arith)) in let d : one (ltb s.used x.used) ≡ 0 = ap one b in omega arith

    first_zero : (p : Entry → Bool) (xs : List Entry) → count p xs ≡ 0 → first p xs ≡ None
    first_zero p xs h = go (first p xs) refl
      where
        go : (o : Option Entry) → first p xs ≡ o → o ≡ None
        go None j = refl
        go (Some e) j = let a = first_counts p p xs e j (first_passes p xs e j) in absurd (omega arith)
went_room m k (freed {v = v} {f = f} h r l) x w u n c = went_some m k f x v w l n c

pub borrow_pages : (m : ℕ) (k : List ℕ) {s : Machine} {f : ℕ} {r : Report} {t : Machine} → Borrow m k s (granted f r) t → Well m s → Turnover k f r s t
borrow_pages m k (hits {s = x} {e = e} {f = f} h j i) w =
    let n : e.key ≡ k = sym (same_list_true k e.key (first_passes (named k) x.ring e j)) in
    let there : lies_in f e ≡ true = rw i (eq-eqb f f refl) in
    let lay = lay_all f x (Some e) (sym (first_only (named k) (lies_in f) x.ring e j there (frame_once m f x w.mid))) in
    record {
      goes = Some e;
      comes = lent e;
      pages = λ p. let v = (moved_place (named k) (λ e. lent e ∷ []) x.ring e j).counts (on_page p) in omega arith;
      came_key = n;
      came_frame = i;
      came_loans = refl;
      came_altered = refl;
      went_frame = λ d q. let z : e ≡ d = cc in rw z at i;
      went_key = lay.key;
      went_loans = lay.loans;
      went_altered = lay.altered;
      hit_went = λ _. ap Some n;
      hit_victim = λ _. refl;
      fault_new = λ q. differ true refl q;
      fault_went = λ q d z. differ true refl q;
      fault_victim = λ q. differ true refl q;
    }
borrow_pages m k (test_faults {s = x} {r = r} {e = e} {f = f} {v = v} q j i o u) w =
    let a = recalled_eased m k x e j i in
    let b = a.mids None w.mid in let c = b.memory in
    let d = room_roomed m o b (omega arith) (λ y. let z = recall_fair m k x e q j i y in let z' = a.idles in omega arith) in
    let n : Anew k x =
    let y = a.pages (λ i g l a. same_list k i) in let z = page-named k (recalled m k x).ring b.entries in
    let p = (moved_place (named k) (λ _. []) x.ring e j).counts (named k) in
    let l : one (named k e) ≡ 1 = ap one (first_passes (named k) x.ring e j) in
    let g = w.keys k in omega arith in
    let g = went_room m k o x w.mid refl n (λ p. let y = d.pages p in let z = a.pages p in omega arith) in
    record {
      goes = v;
      comes = entered k true f;
      pages = λ p. let x1 = (hot_run_eased m u).pages p in let x2 = count-++ (on_page p) r.ring (entered k true f ∷ []) in let x3 = d.pages p in let x4 = a.pages p in omega arith;
      came_key = refl;
      came_frame = refl;
      came_loans = let z = no_loans v d.unlent in omega arith;
      came_altered = refl;
      went_frame = d.lies;
      went_key = g.lay.key;
      went_loans = g.lay.loans;
      went_altered = g.lay.altered;
      hit_went = λ q. differ false q refl;
      hit_victim = λ q. differ false q refl;
      fault_new = λ _. n;
      fault_went = λ _ y z. (g.other y z, d.unlent y z);
      fault_victim = λ _. refl;
    }
borrow_pages m k (cold_faults {s = x} {r = r} {f = f} {v = v} q j o) w =
    let c = w.mid.memory in
    let d = room_roomed m o w.mid (omega arith) (fault_fair m k x q j) in
    let n : Anew k x = let y = first_none (named k) x.ring j in let z = page-named k x.ring w.mid.entries in omega arith in
    let g = went_room m k o x w.mid refl n (λ p. let y = d.pages p in omega arith) in
    record {
      goes = v;
      comes = entered k false f;
      pages = λ p. let x2 = count-++ (on_page p) r.ring (entered k false f ∷ []) in let x3 = d.pages p in omega arith;
      came_key = refl;
      came_frame = refl;
      came_loans = let z = no_loans v d.unlent in omega arith;
      came_altered = refl;
      went_frame = d.lies;
      went_key = g.lay.key;
      went_loans = g.lay.loans;
      went_altered = g.lay.altered;
      hit_went = λ q. differ false q refl;
      hit_victim = λ q. differ false q refl;
      fault_new = λ _. n;
      fault_went = λ _ y z. (g.other y z, d.unlent y z);
      fault_victim = λ _. refl;
    }

pub refusal_alters_nothing : (m : ℕ) (k : List ℕ) {s : Machine} {n : ℕ} {t : Machine} → Borrow m k s (refused n) t → t ≡ s
refusal_alters_nothing m k (refuses h) = refl

-- SIZES

pub length_fits : (m : ℕ) (g : Option ℕ) (s : Machine) → Mid m g s → length s.ring ≤ 2 * m
length_fits m g s w = let a = count_any s.ring in let b = size_fits m g s w in omega arith
  where
    count_any : (xs : List Entry) → count anyone xs ≡ length xs
    count_any [] = refl
    count_any (x ∷ xs) = let h = count_any xs in omega arith

pub tests_small : (m : ℕ) (k : List ℕ) {s : Machine} {a : Answer} {t : Machine} → m ≤ 4096 → Borrow m k s a t → Well m s → tests_of a < 2 ^ 28
tests_small m k {s} {a} h b w =
    let x = (borrow_kept m k b w).tests_fit in let l = length_fits m None s w.mid in
    let i = count_le has_bit s.ring in let j = count_le marked s.ring in let g = grants_le a in omega arith
  where
    grants_le : (a : Answer) → grants a ≤ 1
    grants_le (granted f r) = omega arith
    grants_le (refused n) = omega arith
