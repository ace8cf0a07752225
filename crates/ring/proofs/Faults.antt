-- Hits and faults: there is a place for the new entry, and what the code answers is the machine's answer.
use Rattle.std.proofs.Common.{◌≡◌, ℕ, zero, suc, ◌+◌, ◌*◌, ◌^◌, ◌<◌, ◌≤◌, Bool, true, false, cond, not, ◌&&◌, eqb, ltb, List, [], ◌∷◌, length, is_some, Some, None, Option, sym, refl, ap, ◌∙◌, subst, add-zero, arith}
use Rattle.std.proofs.lemmas.Bool.{lt-ltb, le-ltb, ne_eqb, eq-eqb, ltb-true, and_parts, and_from}
use Rattle.keys.specs.declared.FrameNo.{FrameNo}
use Rattle.machine.specs.Entry as model
use Rattle.machine.specs.Hands.{Machine, HotRun, Steps, steps}
use Rattle.machine.specs.Borrow.{a_hit, a_test_fault, a_cold_fault, granted, full, refusal_at, refusal, hit, recalled, enter, key_of, altered_at, occupant, Room, Borrow, hits, test_faults, cold_faults}
use Rattle.machine.specs.Facts.{Mid}
use Rattle.machine.proofs.Counts.{differ, none_some, first_passes, first_some, count_both}
use Rattle.machine.proofs.Calls as calls
use Rattle.machine.proofs.Calls.{Fair, room_roomed, enter_mid, fault_fair, recall_fair, recalled_eased}
use Rattle.machine.proofs.Loops.{work_small, hot_run_small}
use Rattle.ring.specs.declared.hands.Victim.{Victim}
use Rattle.ring.specs.Turning.{Gone}
use Rattle.ring.specs.Answering.{victim_key, WrittenAt}

-- nobody passes
pub none_of : (p : model.Entry → Bool) (xs : List model.Entry) → model.count p xs ≡ 0 → model.first p xs ≡ None
none_of p [] h = refl
none_of p (x ∷ xs) h = go (p x) (λ k. none_of p xs k) h
  where
    go : (b : Bool) → (model.count p xs ≡ 0 → model.first p xs ≡ None) → model.one b + model.count p xs ≡ 0 → cond b (Some x) (model.first p xs) ≡ None
    go true ih h = absurd (omega arith)
    go false ih h = ih (omega arith)

-- a frame that is the gap is in use, and no page lies in it
pub record Open (m f size : ℕ) (r : Machine) : Type 0 where
  pub room : length r.ring < size
  pub slot : f < size
  pub vacant : model.first (model.lies_in f) r.ring ≡ None

pub gap_open : (m f size : ℕ) (r : Machine) → 2 * m ≤ size → Mid m (Some f) r → model.count model.remembered r.ring ≤ m → Open m f size r
gap_open m f size r h w a =
    let b = count_both r.ring in let c = w.pages in let d = w.frames_fit in
    let e : model.one (eqb f f) ≡ 1 = ap model.one (eq-eqb f f refl) in
    let g = go (ltb f r.used) refl (let k = w.frames f in omega arith) in
    let i = g.0 in
    record { room = omega arith; slot = omega arith; vacant = none_of (model.lies_in f) r.ring g.1 }
  where
    go : (b : Bool) → ltb f r.used ≡ b → model.count (model.lies_in f) r.ring + 1 ≡ model.one b → (f < r.used) × (model.count (model.lies_in f) r.ring ≡ 0)
    go true q k = (ltb-true f r.used q, omega arith)
    go false q k = absurd (omega arith)

-- the state in which a frame is looked for
pub record Ready (m : ℕ) (x : Machine) : Type 0 where
  pub mid : Mid m None x
  pub away : model.count model.remembered x.ring ≤ m
  pub unlent : Fair m x

pub ready_outside : (m : ℕ) (k : List ℕ) (s : Machine) → Mid m None s → refusal m k s ≡ None → model.first (model.named k) s.ring ≡ None → Ready m s
ready_outside m k s w q j = let c = w.memory in record { mid = w; away = omega arith; unlent = fault_fair m k s q j }

pub ready_recalled : (m : ℕ) (k : List ℕ) (s : Machine) (e : model.Entry) → Mid m None s → refusal m k s ≡ None → model.first (model.named k) s.ring ≡ Some e → e.frame ≡ None → Ready m (recalled m k s)
ready_recalled m k s e w q j i =
    let d = recalled_eased m k s e j i in let v = d.mids None w in let c = v.memory in
    record { mid = v; away = omega arith; unlent = λ y. let z = recall_fair m k s e q j i y in let z' = d.idles in omega arith }

pub ready_roomed : (m : ℕ) (x : Machine) (f : ℕ) (v : Option model.Entry) (n : Steps) (r : Machine) → Ready m x → Room m x f v n r → calls.Roomed m x f v n r
ready_roomed m x f v n r w o = room_roomed m o w.mid w.away w.unlent

-- what holds after the page has entered
pub ready_entered : (m : ℕ) (k : List ℕ) (x : Machine) (h : Bool) (f : ℕ) (v : Option model.Entry) (n : Steps) (r : Machine) → calls.Roomed m x f v n r → Mid m None (enter k h f r)
ready_entered m k x h f v n r d = enter_mid m k h f r d.mid d.away

-- the steps of a test fault fit
pub fault_steps : (m : ℕ) (s : Machine) (f : ℕ) (v : Option model.Entry) (n : Steps) (r x t : Machine) (h : ℕ) → m ≤ 4096 → Ready m s → calls.Roomed m s f v n r → Mid m None x → HotRun m x h t → n.hots + h < 2 ^ 30
fault_steps m s f v n r x t h u w d y z = let a = d.steps_fit in let b = work_small m None s u w.mid in let c = hot_run_small m None x h t u y z in omega arith

-- WHAT IS ANSWERED

pub gone_key : {K : Type 0} (meaning : K → List ℕ) (f : FrameNo) (e : Option model.Entry) (v : Option (Victim K)) → Gone meaning f e v → key_of e ≡ victim_key meaning v
gone_key meaning f None None h = refl
gone_key meaning f None (Some v) h = absurd h
gone_key meaning f (Some e) None h = absurd h
gone_key meaning f (Some e) (Some v) h = ap Some h.named

pub cold_answer : (m : ℕ) (k : List ℕ) (s : Machine) (f : ℕ) (v : Option model.Entry) (n : Steps) (r t : Machine) (o : Option (List ℕ)) →
    refusal m k s ≡ None → model.first (model.named k) s.ring ≡ None → Room m s f v n r → key_of v ≡ o → t ≡ enter k false f r →
    Borrow m k s (granted f (record { outcome = a_cold_fault; victim = o; made = n; cold = t.cold })) t
cold_answer m k s f v n r t o q j y e h =
    subst (λ x. Borrow m k s (granted f (record { outcome = a_cold_fault; victim = x; made = n; cold = t.cold })) t) e
    (subst (λ x. Borrow m k s (granted f (record { outcome = a_cold_fault; victim = key_of v; made = n; cold = x.cold })) x) (sym h) (cold_faults q j y))

pub test_answer : (m : ℕ) (k : List ℕ) (s : Machine) (d : model.Entry) (f : ℕ) (v : Option model.Entry) (n : Steps) (r x : Machine) (h : ℕ) (t : Machine) (o : Option (List ℕ)) →
    refusal m k s ≡ None → model.first (model.named k) s.ring ≡ Some d → d.frame ≡ None → Room m (recalled m k s) f v n r → key_of v ≡ o → x ≡ enter k true f r → HotRun m x h t →
    Borrow m k s (granted f (record { outcome = a_test_fault; victim = o; made = steps n.colds (n.hots + h) n.tests; cold = t.cold })) t
test_answer m k s d f v n r x h t o q j i z y e u =
    subst (λ a. Borrow m k s (granted f (record { outcome = a_test_fault; victim = a; made = steps n.colds (n.hots + h) n.tests; cold = t.cold })) t) y
    (subst (λ a. Borrow m k s (granted f (record { outcome = a_test_fault; victim = key_of v; made = a; cold = t.cold })) t) (λ i. steps (add-zero n.colds i) (n.hots + h) (add-zero n.tests i))
    (test_faults q j i z (subst (λ a. HotRun m a h t) e u)))

pub hit_answer : (m : ℕ) (k : List ℕ) (s : Machine) (e : model.Entry) (f : ℕ) (t : Machine) → refusal m k s ≡ None → model.first (model.named k) s.ring ≡ Some e → e.frame ≡ Some f → t ≡ hit k s →
    Borrow m k s (granted f (record { outcome = a_hit; victim = None; made = steps 0 0 0; cold = t.cold })) t
hit_answer m k s e f t q j i h = subst (λ x. Borrow m k s (granted f (record { outcome = a_hit; victim = None; made = steps 0 0 0; cold = x.cold })) x) (sym h) (hits q j i)

-- REFUSALS

pub refusal_outside : (m : ℕ) (k : List ℕ) (s : Machine) → model.first (model.named k) s.ring ≡ None → refusal m k s ≡ full m s
refusal_outside m k s h = ap (refusal_at m s) h

pub refusal-remembered : (m : ℕ) (k : List ℕ) (s : Machine) (e : model.Entry) → model.first (model.named k) s.ring ≡ Some e → e.frame ≡ None → refusal m k s ≡ full m s
refusal-remembered m k s e h i = ap (refusal_at m s) h ∙ ap (λ o. cond (is_some o) (cond (ltb e.loans 255) None (Some 10)) (full m s)) i

pub refusal-resident : (m : ℕ) (k : List ℕ) (s : Machine) (e : model.Entry) (f : ℕ) (b : Bool) → model.first (model.named k) s.ring ≡ Some e → e.frame ≡ Some f → ltb e.loans 255 ≡ b →
    refusal m k s ≡ cond b None (Some 10)
refusal-resident m k s e f b h i j =
    ap (refusal_at m s) h ∙ ap (λ o. cond (is_some o) (cond (ltb e.loans 255) None (Some 10)) (full m s)) i ∙ ap (λ x. cond x None (Some 10)) j

pub full_unused : (m u k : ℕ) → u < m → ◌≡◌ {A = Option ℕ} (cond (ltb u m) None (cond (ltb 0 k) None (Some 11))) None
full_unused m u k h = ap (λ b. cond b None (cond (ltb 0 k) None (Some 11))) (lt-ltb u m h)

pub full_used : (m u n k : ℕ) → m ≤ u → n ≡ k → ◌≡◌ {A = Option ℕ} (cond (ltb u m) None (cond (ltb 0 k) None (Some 11))) (cond (eqb n 0) (Some 11) None)
full_used m u n k h e = ap (λ b. cond b None (cond (ltb 0 k) None (Some 11))) (le-ltb u m h) ∙ ap (λ i. cond (ltb 0 i) None (Some 11)) (sym e) ∙ go n
  where
    go : (i : ℕ) → ◌≡◌ {A = Option ℕ} (cond (ltb 0 i) None (Some 11)) (cond (eqb i 0) (Some 11) None)
    go zero = refl
    go (suc i) = ap (λ b. cond b None (Some 11)) (lt-ltb 0 (suc i) (omega arith)) ∙ sym (ap (λ b. cond b (Some 11) None) (ne_eqb (suc i) 0 (λ q. omega arith)))

-- WHETHER THE VICTIM WAS ALTERED

first_counts : (p q : model.Entry → Bool) (xs : List model.Entry) (e : model.Entry) → model.first p xs ≡ Some e → q e ≡ true → 1 ≤ model.count q xs
first_counts p q [] e h k = none_some None e refl h
first_counts p q (x ∷ xs) e h k = go (p x) (λ i. first_counts p q xs e i k) h
  where
    go : (b : Bool) → (model.first p xs ≡ Some e → 1 ≤ model.count q xs) → cond b (Some x) (model.first p xs) ≡ Some e → 1 ≤ model.one (q x) + model.count q xs
    go true ih h = let z : x ≡ e = cc in let y : model.one (q x) ≡ 1 = ap (λ i. model.one (q i)) z ∙ ap model.one k in omega arith
    go false ih h = let y = ih h in omega arith

-- of the entries that pass q there is one at most, and e is one
first_only : (p q : model.Entry → Bool) (xs : List model.Entry) (e : model.Entry) → model.first p xs ≡ Some e → q e ≡ true → model.count q xs ≤ 1 → model.first q xs ≡ Some e
first_only p q [] e h k l = none_some None e refl h
first_only p q (x ∷ xs) e h k l = go (p x) (q x) refl (λ i j. first_only p q xs e i k j) h l
  where
    go : (b c : Bool) → q x ≡ c → (model.first p xs ≡ Some e → model.count q xs ≤ 1 → model.first q xs ≡ Some e) →
        cond b (Some x) (model.first p xs) ≡ Some e → model.one c + model.count q xs ≤ 1 → cond c (Some x) (model.first q xs) ≡ Some e
    go true true i ih h l = h
    go true false i ih h l = let z : x ≡ e = cc in differ (q e) k (ap q (sym z) ∙ i)
    go false true i ih h l = let a = first_counts p q xs e h k in absurd (omega arith)
    go false false i ih h l = ih h (omega arith)

frame_once : (m f : ℕ) (s : Machine) → Mid m None s → model.count (model.lies_in f) s.ring ≤ 1
frame_once m f s w = let a = w.frames f in let b = go (ltb f s.used) in omega arith
  where
    go : (b : Bool) → model.one b ≤ 1
    go true = omega arith
    go false = omega arith

-- two marks are alike
abbrev alike : Bool → Bool → Bool
alike true b = b
alike false b = not b

alike_self : (b : Bool) → alike b b ≡ true
alike_self true = refl
alike_self false = refl

alike_same : (a b : Bool) → alike a b ≡ true → b ≡ a
alike_same true b h = h
alike_same false true h = sym h
alike_same false false h = refl

-- a page in frame f with that altered mark
abbrev marks_in : ℕ → Bool → List ℕ → ℕ → ℕ → Bool → Bool
marks_in f b i g l a = eqb f g && alike b a

page_self : (f : ℕ) (v : model.Entry) (o : Option ℕ) → o ≡ Some f → model.in_frame (λ g. marks_in f v.altered v.key g v.loans v.altered) o ≡ true
page_self f v o h = ap (model.in_frame (λ g. marks_in f v.altered v.key g v.loans v.altered)) h ∙ and_from (eqb f f) (alike v.altered v.altered) (eq-eqb f f refl) (alike_self v.altered)

page_parts : (f : ℕ) (b : Bool) (e : model.Entry) (o : Option ℕ) → model.in_frame (λ g. marks_in f b e.key g e.loans e.altered) o ≡ true → (model.in_frame (eqb f) o ≡ true) × (e.altered ≡ b)
page_parts f b e None h = differ false h refl
page_parts f b e (Some g) h = let a = and_parts (eqb f g) (alike b e.altered) h in (a.0, alike_same b e.altered a.1)

pub altered_was : (m f : ℕ) (s : Machine) (v : model.Entry) → Mid m None s → v.frame ≡ Some f →
    ((p : List ℕ → ℕ → ℕ → Bool → Bool) → model.one (model.on_page p v) ≤ model.count (model.on_page p) s.ring) → v.altered ≡ altered_at (occupant f s)
altered_was m f s v w h c =
    let test = marks_in f v.altered in
    let a = c test in let b : model.one (model.on_page test v) ≡ 1 = ap model.one (page_self f v v.frame h) in
    let e = first_some (model.on_page test) s.ring (omega arith) in
    let o = page_parts f v.altered e.0 e.0.frame (first_passes (model.on_page test) s.ring e.0 e.1) in
    let q = first_only (model.on_page test) (model.lies_in f) s.ring e.0 e.1 o.0 (frame_once m f s w) in
    sym o.1 ∙ sym (ap altered_at q)

-- after a fault: s is the state before it, and every page of x is one of s
pub written : {K : Type 0} (meaning : K → List ℕ) (m : ℕ) (f : FrameNo) (s x : Machine) (v : Option model.Entry) (o : Option (Victim K)) (n : Steps) (r : Machine) →
    Mid m None s → calls.Roomed m x f.0 v n r → ((p : List ℕ → ℕ → ℕ → Bool → Bool) → model.count (model.on_page p) x.ring ≡ model.count (model.on_page p) s.ring) → Gone meaning f v o → WrittenAt s f.0 o
written meaning m f s x v None n r w d c g = tt
written meaning m f s x None (Some o) n r w d c g = absurd g
written meaning m f s x (Some e) (Some o) n r w d c g = sym g.altered ∙ altered_was m f.0 s e w g.lies (λ p. let a = d.pages p in let b = c p in omega arith)

pub recalled_pages : (m : ℕ) (k : List ℕ) (s : Machine) (e : model.Entry) → model.first (model.named k) s.ring ≡ Some e → e.frame ≡ None →
    (p : List ℕ → ℕ → ℕ → Bool → Bool) → model.count (model.on_page p) (recalled m k s).ring ≡ model.count (model.on_page p) s.ring
recalled_pages m k s e j i = (recalled_eased m k s e j i).pages
