-- Faults: there is a place for the new entry, and what the fault answers is the machine's answer.
use Rattle.std.proofs.Common.{◌≡◌, ℕ, ◌+◌, ◌*◌, ◌^◌, ◌<◌, ◌≤◌, Bool, true, false, cond, ltb, List, length, is_some, Some, None, vec_items, vec_len, Option, sym, refl, ap, ◌∙◌, subst, add-zero, arith}
use Rattle.std.proofs.lemmas.List.{length-map}
use Rattle.machine.specs.Entry as model
use Rattle.machine.specs.Hands.{Machine, HotRun, Steps, steps}
use Rattle.machine.specs.Borrow.{a_hit, a_test_fault, a_cold_fault, granted, full, refusal_at, refusal, hit, enter, key_of, Room, Borrow, hits, test_faults, cold_faults}
use Rattle.machine.specs.Facts.{Mid}
use Rattle.machine.proofs.Counts.{differ, none_some, count_both}
use Rattle.machine.proofs.Calls.{Fair, Roomed, room_roomed, enter_mid, fault_fair, recall_fair, recalled_eased}
use Rattle.machine.proofs.Loops.{work_small, hot_run_small}
use Rattle.plain.specs.declared.hands.State.{State}
use Rattle.keys.specs.declared.FrameNo.{FrameNo}
use Rattle.records.specs.declared.answers.Outcome.{Outcome}
use Rattle.records.specs.declared.answers.Steps as made
use Rattle.records.specs.Reading.{entry_of, keyed, steps_of, outcome_of}
use Rattle.plain.specs.Hands.{machine_of, Keeps}
use Rattle.plain.specs.Hands as plain
use Rattle.records.specs.declared.answers.Room as hands
use Rattle.plain.specs.Calls.{Away, recalled_if}

-- a place is left for the page that is to enter
room_fits : (m : ℕ) (s : Machine) (f : ℕ) (v : Option model.Entry) (n : Steps) (r : Machine) → Roomed m s f v n r → length r.ring < 2 * m
room_fits m s f v n r d =
    let a = count_both r.ring in let b = d.mid.pages in let c = d.mid.frames_fit in let e = d.away in omega arith

pub place-left : {K : Type 0} (meaning : K → List ℕ) (m : ℕ) (x : State K) (size : ℕ) (s : Machine) (f : ℕ) (v : Option model.Entry) (n : Steps) →
    Roomed m s f v n (machine_of meaning x) → 2 * m ≤ size → vec_len x.ring < size
place-left meaning m x size s f v n d h =
    let a = room_fits m s f v n (machine_of meaning x) d in let b = length-map (vec_items x.ring) (entry_of meaning) in let c = x.ring.ok.0 in omega arith

-- the state in which a frame is looked for: the remembered entry was taken out, if there was one
pub record Ready (m : ℕ) (x : Machine) : Type 0 where
  pub mid : Mid m None x
  pub away : model.count model.remembered x.ring ≤ m
  pub unlent : Fair m x

pub ready : (m : ℕ) (k : List ℕ) (s : Machine) (b : Bool) → Mid m None s → refusal m k s ≡ None → Away k s → b ≡ is_some (model.first (model.named k) s.ring) → Ready m (recalled_if m k b s)
ready m k s b w q a h = go (model.first (model.named k) s.ring) refl b h
  where
    go : (o : Option model.Entry) → model.first (model.named k) s.ring ≡ o → (b : Bool) → b ≡ is_some o → Ready m (recalled_if m k b s)
    go None j true h = differ true refl h
    go None j false h = let c = w.memory in record { mid = w; away = omega arith; unlent = fault_fair m k s q j }
    go (Some e) j false h = differ true refl (sym h)
    go (Some e) j true h =
        let i = a e j in
        let d = recalled_eased m k s e j i in let v = d.mids None w in let c = v.memory in
        record { mid = v; away = omega arith; unlent = λ y. let z = recall_fair m k s e q j i y in let z' = d.idles in omega arith }

pub ready_roomed : (m : ℕ) (x : Machine) (f : ℕ) (v : Option model.Entry) (n : Steps) (r : Machine) → Ready m x → Room m x f v n r → Roomed m x f v n r
ready_roomed m x f v n r w o = room_roomed m o w.mid w.away w.unlent

-- what holds after the page has entered
pub ready_entered : (m : ℕ) (k : List ℕ) (x : Machine) (h : Bool) (f : ℕ) (v : Option model.Entry) (n : Steps) (r : Machine) → Roomed m x f v n r → Mid m None (enter k h f r)
ready_entered m k x h f v n r d = enter_mid m k h f r d.mid d.away

-- the steps of a test fault fit
pub fault_steps : (m : ℕ) (s : Machine) (f : ℕ) (v : Option model.Entry) (n : Steps) (r x t : Machine) (h : ℕ) → m ≤ 4096 → Ready m s → Roomed m s f v n r → Mid m None x → HotRun m x h t → n.hots + h < 2 ^ 30
fault_steps m s f v n r x t h u w d y z = let a = d.steps_fit in let b = work_small m None s u w.mid in let c = hot_run_small m None x h t u y z in omega arith

-- what holds of a fault once its frame is found, from what its two steps said
module _ {K : Type 0} (meaning : K → List ℕ) (k : List ℕ) (b : Bool) (s : State K) where
  abbrev pub asked : Machine
  asked = recalled_if s.frames k b (machine_of meaning s)

  pub record Framed (r : hands.Room (Option K)) (t : State K) : Type 0 where
    pub victim : Option model.Entry
    pub named : key_of victim ≡ keyed meaning r.victim
    pub room : Room s.frames asked r.frame.0 victim (steps_of r.steps) (machine_of meaning t)
    pub roomed : Roomed s.frames asked r.frame.0 victim (steps_of r.steps) (machine_of meaning t)

  pub framed : (r : hands.Room (Option K)) (x t : State K) → Ready s.frames asked → machine_of meaning x ≡ asked → Keeps s x →
      plain.Roomed meaning x.frames (machine_of meaning x) r (machine_of meaning t) → Framed r t
  framed r x t q e c f =
      let o = subst (λ y. Room x.frames y r.frame.0 f.victim (steps_of r.steps) (machine_of meaning t)) e f.room in
      let p = subst (λ n. Room n asked r.frame.0 f.victim (steps_of r.steps) (machine_of meaning t)) c.frames o in
      record { victim = f.victim; named = f.named; room = p; roomed = ready_roomed s.frames asked r.frame.0 f.victim (steps_of r.steps) (machine_of meaning t) q p }

-- WHAT A FAULT ANSWERS

missing_at : (o : Option model.Entry) → false ≡ is_some o → o ≡ None
missing_at None h = refl
missing_at (Some e) h = differ true refl (sym h)

present_at : (o : Option model.Entry) → true ≡ is_some o → (e : model.Entry) × (o ≡ Some e)
present_at None h = differ true refl h
present_at (Some e) h = (e, refl)

pub cold_answer : (m : ℕ) (k : List ℕ) (s : Machine) (b : Bool) (f : ℕ) (v : Option model.Entry) (n : Steps) (r t : Machine) (o : Option (List ℕ)) →
    refusal m k s ≡ None → b ≡ is_some (model.first (model.named k) s.ring) → b ≡ false → Room m (recalled_if m k b s) f v n r → key_of v ≡ o → t ≡ enter k b f r →
    Borrow m k s (granted f (record { outcome = a_cold_fault; victim = o; made = n; cold = t.cold })) t
cold_answer m k s true f v n r t o q j z y e h = differ true refl z
cold_answer m k s false f v n r t o q j z y e h =
    subst (λ x. Borrow m k s (granted f (record { outcome = a_cold_fault; victim = x; made = n; cold = t.cold })) t) e
    (subst (λ x. Borrow m k s (granted f (record { outcome = a_cold_fault; victim = key_of v; made = n; cold = x.cold })) x) (sym h) (cold_faults q (missing_at (model.first (model.named k) s.ring) j) y))

pub test_answer : (m : ℕ) (k : List ℕ) (s : Machine) (b : Bool) (f : ℕ) (v : Option model.Entry) (n : Steps) (r x : Machine) (h : ℕ) (t : Machine) (o : Option (List ℕ)) →
    refusal m k s ≡ None → Away k s → b ≡ is_some (model.first (model.named k) s.ring) → b ≡ true → Room m (recalled_if m k b s) f v n r → key_of v ≡ o → x ≡ enter k b f r → HotRun m x h t →
    Borrow m k s (granted f (record { outcome = a_test_fault; victim = o; made = steps n.colds (n.hots + h) n.tests; cold = t.cold })) t
test_answer m k s false f v n r x h t o q a j i z y d u = differ false i refl
test_answer m k s true f v n r x h t o q a j i z y d u =
    let e = present_at (model.first (model.named k) s.ring) j in
    subst (λ a. Borrow m k s (granted f (record { outcome = a_test_fault; victim = a; made = steps n.colds (n.hots + h) n.tests; cold = t.cold })) t) y
    (subst (λ a. Borrow m k s (granted f (record { outcome = a_test_fault; victim = key_of v; made = a; cold = t.cold })) t) (λ i. steps (add-zero n.colds i) (n.hots + h) (add-zero n.tests i))
    (test_faults q e.1 (a e.0 e.1) z (subst (λ a. HotRun m a h t) d u)))

-- REFUSALS

pub away_outside : (k : List ℕ) (s : Machine) → model.first (model.named k) s.ring ≡ None → Away k s
away_outside k s h e j = none_some (model.first (model.named k) s.ring) e h j

pub away_remembered : (k : List ℕ) (s : Machine) (e : model.Entry) → model.first (model.named k) s.ring ≡ Some e → e.frame ≡ None → Away k s
away_remembered k s e h i d j = let q : e ≡ d = cc in rw q at i

pub refusal_outside : (m : ℕ) (k : List ℕ) (s : Machine) → model.first (model.named k) s.ring ≡ None → refusal m k s ≡ full m s
refusal_outside m k s h = ap (refusal_at m s) h

pub refusal-remembered : (m : ℕ) (k : List ℕ) (s : Machine) (e : model.Entry) → model.first (model.named k) s.ring ≡ Some e → e.frame ≡ None → refusal m k s ≡ full m s
refusal-remembered m k s e h i = ap (refusal_at m s) h ∙ ap (λ o. cond (is_some o) (cond (ltb e.loans 255) None (Some 10)) (full m s)) i

pub refusal-resident : (m : ℕ) (k : List ℕ) (s : Machine) (e : model.Entry) (f : ℕ) (b : Bool) → model.first (model.named k) s.ring ≡ Some e → e.frame ≡ Some f → ltb e.loans 255 ≡ b →
    refusal m k s ≡ cond b None (Some 10)
refusal-resident m k s e f b h i j =
    ap (refusal_at m s) h ∙ ap (λ o. cond (is_some o) (cond (ltb e.loans 255) None (Some 10)) (full m s)) i ∙ ap (λ x. cond x None (Some 10)) j

-- A HIT

pub hit_answer : (m : ℕ) (k : List ℕ) (s : Machine) (e : model.Entry) (f : ℕ) (t : Machine) → refusal m k s ≡ None → model.first (model.named k) s.ring ≡ Some e → e.frame ≡ Some f → t ≡ hit k s →
    Borrow m k s (granted f (record { outcome = a_hit; victim = None; made = steps 0 0 0; cold = t.cold })) t
hit_answer m k s e f t q j i h = subst (λ x. Borrow m k s (granted f (record { outcome = a_hit; victim = None; made = steps 0 0 0; cold = x.cold })) x) (sym h) (hits q j i)

-- the same answer, with its parts named otherwise
pub answer_is : {K : Type 0} (meaning : K → List ℕ) (k : List ℕ) (s : State K) (f : FrameNo) (v : Option (List ℕ)) {o p : Outcome} {n l : made.Steps} {t u : State K} →
    o ≡ p → n ≡ l → t ≡ u →
    Borrow s.frames k (machine_of meaning s) (granted f.0 (record { outcome = outcome_of p; victim = v; made = steps_of l; cold = u.cold })) (machine_of meaning u) →
    Borrow s.frames k (machine_of meaning s) (granted f.0 (record { outcome = outcome_of o; victim = v; made = steps_of n; cold = t.cold })) (machine_of meaning t)
answer_is {K = K} meaning k s f v {o = o} {p = p} {n = n} {l = l} {t = t} {u = u} a b c h =
    let P : Outcome → made.Steps → State K → Type 0 = λ o n t. Borrow s.frames k (machine_of meaning s) (granted f.0 (record { outcome = outcome_of o; victim = v; made = steps_of n; cold = t.cold })) (machine_of meaning t) in
    subst (λ z. P z n t) (sym a) (subst (λ z. P p z t) (sym b) (subst (λ z. P p l z) (sym c) h))
