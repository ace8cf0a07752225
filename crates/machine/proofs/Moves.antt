-- One move of a hand takes one entry off the list and puts other entries (one, or none) somewhere into it.
use Rattle.std.proofs.Common.{◌≡◌, ℕ, ◌+◌, ◌<◌, ◌≤◌, Bool, true, false, List, [], ◌∷◌, ◌++◌, Some, None, Option, refl, arith}
use Rattle.std.specs.List.{AllByRecursion}
use Rattle.std.proofs.ByRecursion.{All-append}
use Rattle.std.proofs.lemmas.Bool.Decides.{nat_tests}
use Rattle.machine.specs.Entry.{Entry, resident, remembered, named, lies_in, one, count, first, replaced, without}
use Rattle.machine.specs.Hands.{Machine, raised, lowered, cleared}
use Rattle.machine.specs.Facts.{Proper, Mid}
use Rattle.machine.proofs.Counts.{differ, count-++, count-replaced, first_has, all_replaced}

-- ys is xs with the entries l for the entry e
pub record Moved (e : Entry) (l xs ys : List Entry) : Type 0 where
  pub counts : (q : Entry → Bool) → count q ys + one (q e) ≡ count q xs + count q l
  pub propers : AllByRecursion Proper xs → (Proper e → AllByRecursion Proper l) → AllByRecursion Proper ys

pub moved_tail : (e : Entry) (l rest : List Entry) → Moved e l (e ∷ rest) (rest ++ l)
moved_tail e l rest = record { counts = λ q. let h = count-++ q rest l in omega arith; propers = λ a b. All-append Proper rest l a.1 (b a.0) }

pub moved_place : (p : Entry → Bool) (f : Entry → List Entry) (xs : List Entry) (e : Entry) → first p xs ≡ Some e → Moved e (f e) xs (replaced p f xs)
moved_place p f xs e h = record { counts = λ q. count-replaced p q f xs e h; propers = λ a b. all_replaced Proper p f xs e h a (b (first_has Proper p xs e h a)) }

pub moved_head : (p : Entry → Bool) (l xs : List Entry) (e : Entry) → first p xs ≡ Some e → Moved e l xs (without p xs ++ l)
moved_head p l xs e h = record {
  counts = λ q. let j = count-++ q (without p xs) l in let k = count-replaced p q (λ _. []) xs e h in omega arith;
  propers = λ a b. All-append Proper (without p xs) l (all_replaced Proper p (λ _. []) xs e h a tt) (b (first_has Proper p xs e h a));
}

-- l may stand for e: the standing facts do not suffer
pub record Stands (e : Entry) (l : List Entry) : Type 0 where
  pub propers : Proper e → AllByRecursion Proper l
  pub nameds : (k : List ℕ) → count (named k) l ≤ one (named k e)
  pub lies : (f : ℕ) → count (lies_in f) l ≡ one (lies_in f e)
  pub residents : count resident l ≡ one (resident e)
  pub remembereds : count remembered l ≤ one (remembered e)

pub mid_moved : (m : ℕ) (g : Option ℕ) (s : Machine) (e : Entry) (l ys : List Entry) (c : ℕ) →
    Mid m g s → Moved e l s.ring ys → Stands e l → 1 ≤ c → c < m → Mid m g (record { ring = ys; cold = c; used = s.used })
mid_moved m g s e l ys c w v t low high = record {
  entries = v.propers w.entries t.propers;
  frames = λ f. let a = v.counts (lies_in f) in let b = t.lies f in let d = w.frames f in omega arith;
  pages = let a = v.counts resident in let b = t.residents in let d = w.pages in omega arith;
  memory = let a = v.counts remembered in let b = t.remembereds in let d = w.memory in omega arith;
  frames_fit = w.frames_fit;
  cold_low = low;
  cold_high = high;
}

-- c stays within 1 to m - 1
pub lowered_fits : (m c : ℕ) → 1 ≤ c → c < m → (1 ≤ lowered c) × (lowered c < m) × (lowered c ≤ c)
lowered_fits m c low high = grind (arith, nat_tests)

pub raised_fits : (m c : ℕ) → 1 ≤ c → c < m → (1 ≤ raised m c) × (raised m c < m)
raised_fits m c low high = grind (arith, nat_tests)

-- an entry that is changed where its key, its frame and its being resident are not touched
pub stands_changed : (e d : Entry) → d.key ≡ e.key → d.frame ≡ e.frame → (Proper e → Proper d) → Stands e (d ∷ [])
stands_changed e d hk hf p = record {
  propers = λ w. (p w, tt);
  nameds = λ k. rw hk (omega arith);
  lies = λ f. rw hf (omega arith);
  residents = rw hf (omega arith);
  remembereds = rw hf (omega arith);
}

-- a remembered entry may go
pub stands_gone : (e : Entry) → e.frame ≡ None → Stands e []
stands_gone e h = record {
  propers = λ w. tt;
  nameds = λ k. omega arith;
  lies = λ f. rw h (omega arith);
  residents = rw h (omega arith);
  remembereds = omega arith;
}

-- what the steps do to an entry leaves it proper
pub proper_cleared : (e : Entry) → Proper e → Proper (cleared e)
proper_cleared e w = record { hot_unmarked = w.hot_unmarked; hot_resident = w.hot_resident; marked_away = w.marked_away; still_away = λ _. refl; unlent_away = w.unlent_away; same_away = w.same_away; loans_fit = w.loans_fit }

-- an entry that is resident need only satisfy three of the facts
pub proper_here : (e : Entry) → resident e ≡ true → (e.hot ≡ true → e.test ≡ false) → e.loans ≤ 255 → Proper e
proper_here e h k l = record { hot_unmarked = k; hot_resident = λ _. h; marked_away = λ j. differ (resident e) h j; still_away = λ j. differ (resident e) h j; unlent_away = λ j. differ (resident e) h j; same_away = λ j. differ (resident e) h j; loans_fit = l }
