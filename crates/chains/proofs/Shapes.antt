-- One chain is changed: what that does to the shape, and that every chain is still sound.
use Rattle.std.proofs.Common.{◌≡◌, ℕ, zero, suc, ◌<◌, Bool, true, false, cond, eqb, List, [], ◌∷◌, ◌++◌, length, get_or, set, Some, None, Option, sym, refl, ap, ◌∙◌, subst, inl, inr, arith}
use mathlib.Core.Path.{fun_ext}
use Rattle.std.specs.List.{AllByRecursion, ContainsAt}
use Rattle.std.specs.Option.{IsSome}
use Rattle.std.proofs.lemmas.List.{get_or-set_same, get_or-set_other, get_or_past, append-nil}
use Rattle.std.proofs.lemmas.Bool.{cases_eq, cases_lt, eq-eqb, ne_eqb, cond-true, cond-false}
use Rattle.chains.specs.Cells.{place, next_of, entry_of, slot_of, vacant, Framed, Stored, Slotted}
use Rattle.chains.specs.Orders.{order_of, Sound, without, walk, Apart, Misses}
use Rattle.chains.specs.declared.cell.Cell.{Cell}
use Rattle.chains.specs.declared.ends.Ends.{Ends}
use Rattle.chains.specs.declared.cell.Chain.{Chain}
use Rattle.chains.specs.declared.cell.Chain.TheVariants.{Ring, Cold, Test, Free}
use Rattle.chains.proofs.Rounds.{without_none}
use Rattle.chains.proofs.Room.{misses_without}
use Rattle.chains.proofs.Framing.{sound_kept, order_kept, sound_stored, order_stored, sound_slotted, order_slotted}
use Rattle.chains.specs.declared.Chains.{Chains}
use Rattle.chains.specs.Shape.{Shape, ends_at, shape_of, Intact, same, stored, slotted, head_of, unlinked, turned, followed}

-- places tell the chains apart
abbrev chain_of : ℕ → Chain
chain_of n = cond (eqb n 0) Ring (cond (eqb n 1) Cold (cond (eqb n 2) Test Free))

chain_of_place : (w : Chain) → chain_of (place w) ≡ w
chain_of_place Ring = refl
chain_of_place Cold = refl
chain_of_place Test = refl
chain_of_place Free = refl

pub place_apart : (v w : Chain) → place v ≡ place w → v ≡ w
place_apart v w e = sym (chain_of_place v) ∙ ap chain_of e ∙ chain_of_place w

-- two shapes are equal where their parts are
pub shape_is : {T : Type 0} (s t : Shape T) → s.size ≡ t.size → ((w : Chain) → s.order w ≡ t.order w) → ((j : ℕ) → s.entry j ≡ t.entry j) → ((f : ℕ) → s.slot f ≡ t.slot f) → s ≡ t
shape_is {T} s t a b c d =
    let o : s.order ≡ t.order = fun_ext b in
    let e : s.entry ≡ t.entry = fun_ext c in
    let f : s.slot ≡ t.slot = fun_ext d in
    λ i. record { size = a i; order = o i; entry = e i; slot = f i }

module _ {T : Type 0} (c c' : List (Cell T)) (cs cs' : Chains) (w : Chain) (ch : Option Ends) (F : List ℕ → List ℕ)
    (f : Framed c c' w) (sound : Sound c' w ch) (order : order_of c' w ch ≡ F (order_of c w (ends_at cs w)))
    (put : cs'.ends ≡ set cs.ends (place w) ch) (room : place w < length cs.ends) where
  chain_here : ends_at cs' w ≡ ch
  chain_here = ap (λ l. get_or l (place w) None) put ∙ get_or-set_same cs.ends (place w) ch None room

  chain_there : (v : Chain) → (place v ≡ place w → ⊥) → ends_at cs' v ≡ ends_at cs v
  chain_there v ne = ap (λ l. get_or l (place v) None) put ∙ get_or-set_other cs.ends (place w) (place v) ch None ne

  intact_one : Intact c cs → Intact c' cs'
  unfolding Intact
  intact_one k v = elim (cases_eq (place v) (place w)) [
    | inl e ↦ subst (λ v. Sound c' v (ends_at cs' v)) (sym (place_apart v w e)) (subst (λ x. Sound c' w x) (sym chain_here) sound)
    | inr ne ↦ subst (λ x. Sound c' v x) (sym (chain_there v ne)) (sound_kept f v (λ e. ne (ap place e)) (ends_at cs v) (k v))
  ]

  order_one : (v : Chain) → order_of c' v (ends_at cs' v) ≡ cond (same v w) (F (order_of c v (ends_at cs v))) (order_of c v (ends_at cs v))
  order_one v = elim (cases_eq (place v) (place w)) [
    | inl e ↦ subst (λ v. order_of c' v (ends_at cs' v) ≡ F (order_of c v (ends_at cs v))) (sym (place_apart v w e)) (ap (order_of c' w) chain_here ∙ order)
        ∙ sym (cond-true (same v w) _ _ (eq-eqb (place v) (place w) e))
    | inr ne ↦ ap (order_of c' v) (chain_there v ne) ∙ order_kept f v (λ e. ne (ap place e)) (ends_at cs v)
        ∙ sym (cond-false (same v w) _ _ (ne_eqb (place v) (place w) ne))
  ]

  shape_one : shape_of c' cs' ≡ record { size = (shape_of c cs).size; order = λ v. cond (same v w) (F ((shape_of c cs).order v)) ((shape_of c cs).order v); entry = (shape_of c cs).entry; slot = (shape_of c cs).slot }
  unfolding shape_of
  shape_one = shape_is _ _ f.size order_one f.entries f.slots

  pub one_changed : Intact c cs
      → Intact c' cs' × (shape_of c' cs' ≡ record { size = (shape_of c cs).size; order = λ v. cond (same v w) (F ((shape_of c cs).order v)) ((shape_of c cs).order v); entry = (shape_of c cs).entry; slot = (shape_of c cs).slot })
  one_changed k = (intact_one k, shape_one)

-- an entry is written
module _ {T : Type 0} {c c' : List (Cell T)} {i : ℕ} {e : Option T} (f : Stored c c' i e) (cs : Chains) where
  pub intact_stored : Intact c cs → Intact c' cs
  unfolding Intact
  intact_stored k v = sound_stored f v (ends_at cs v) (k v)

  entry_one : (j : ℕ) → entry_of c' j ≡ cond (eqb j i) e (entry_of c j)
  entry_one j = elim (cases_eq j i) [
    | inl q ↦ ap (entry_of c') q ∙ f.here ∙ sym (cond-true (eqb j i) e (entry_of c j) (eq-eqb j i q))
    | inr ne ↦ f.there j ne ∙ sym (cond-false (eqb j i) e (entry_of c j) (ne_eqb j i ne))
  ]

  pub shape_stored : shape_of c' cs ≡ stored i e (shape_of c cs)
  unfolding shape_of
  shape_stored = shape_is _ _ f.size (λ v. order_stored f v (ends_at cs v)) entry_one f.slots

-- a slot is written
module _ {T : Type 0} {c c' : List (Cell T)} {i x : ℕ} (f : Slotted c c' i x) (cs : Chains) where
  pub intact_slotted : Intact c cs → Intact c' cs
  unfolding Intact
  intact_slotted k v = sound_slotted f v (ends_at cs v) (k v)

  slot_one : (j : ℕ) → slot_of c' j ≡ cond (eqb j i) x (slot_of c j)
  slot_one j = elim (cases_eq j i) [
    | inl q ↦ ap (slot_of c') q ∙ f.put.here ∙ sym (cond-true (eqb j i) x (slot_of c j) (eq-eqb j i q))
    | inr ne ↦ f.put.there j ne ∙ sym (cond-false (eqb j i) x (slot_of c j) (ne_eqb j i ne))
  ]

  pub shape_slotted : shape_of c' cs ≡ slotted i x (shape_of c cs)
  unfolding shape_of
  shape_slotted = shape_is _ _ f.size (λ v. order_slotted f v (ends_at cs v)) f.entries slot_one

-- what a chain that is intact is known for
module _ {T : Type 0} (c : List (Cell T)) (w : Chain) where
  sound_apart : (o : Option Ends) → Sound c w o → Apart (order_of c w o)
  unfolding order_of Sound
  sound_apart None s = tt
  sound_apart (Some ch) s = s.apart

  sound_within : (o : Option Ends) → Sound c w o → AllByRecursion (λ j. j < length c) (order_of c w o)
  unfolding order_of Sound
  sound_within None s = tt
  sound_within (Some ch) s = s.within

module _ {T : Type 0} (c : List (Cell T)) (cs : Chains) (k : Intact c cs) (w : Chain) where
  pub order_apart : Apart ((shape_of c cs).order w)
  unfolding shape_of Intact
  order_apart = sound_apart c w (ends_at cs w) (k w)

  pub order_inside : AllByRecursion (λ j. j < (shape_of c cs).size) ((shape_of c cs).order w)
  unfolding shape_of Intact
  order_inside = sound_within c w (ends_at cs w) (k w)

-- the tail is the first of the order
walk_some : (n : ℕ → ℕ) (x k : ℕ) → 0 < k → head_of (walk n x k) ≡ Some x
walk_some n x zero l = let z : ⊥ = omega arith in absurd z
walk_some n x (suc k) l = refl

abbrev pub tail_of : Option Ends → Option ℕ
tail_of None = None
tail_of (Some ch) = Some ch.tail.0

pub head_tail : {T : Type 0} (c : List (Cell T)) (w : Chain) (o : Option Ends) → head_of (order_of c w o) ≡ tail_of o
unfolding order_of
head_tail c w None = refl
head_tail c w (Some ch) = walk_some (next_of c w) ch.tail.0 ch.len ch.some

-- joining, leaving and going to the head, as one
both_heads : {X : Type 0} (b : Bool) (o o' e : List X) → cond b (cond b o' o ++ e) (cond b o' o) ≡ cond b (o' ++ e) o
both_heads true o o' e = refl
both_heads false o o' e = refl

module _ {T : Type 0} (w : Chain) (i : ℕ) (s : Shape T) where
  pub as_turned : turned w i s ≡ followed w i true s
  as_turned = shape_is (turned w i s) (followed w i true s) refl (λ v. both_heads (same v w) (s.order v) (without i (s.order v)) (i ∷ [])) (λ j. refl) (λ f. refl)

  pub as_unlinked : unlinked w i s ≡ followed w i false s
  as_unlinked = shape_is (unlinked w i s) (followed w i false s) refl (λ v. ap (λ o. cond (same v w) o (s.order v)) (sym (append-nil (without i (s.order v))))) (λ j. refl) (λ f. refl)

  away_at : Misses i (s.order w) → (v : Chain) → s.order v ≡ (unlinked w i s).order v
  away_at m v = elim (cases_eq (place v) (place w)) [
    | inl e ↦ sym (without_none i (s.order v) (subst (λ x. Misses i (s.order x)) (sym (place_apart v w e)) m))
        ∙ sym (cond-true (same v w) (without i (s.order v)) (s.order v) (eq-eqb (place v) (place w) e))
    | inr ne ↦ sym (cond-false (same v w) (without i (s.order v)) (s.order v) (ne_eqb (place v) (place w) ne))
  ]

  pub as_away : Misses i (s.order w) → s ≡ unlinked w i s
  as_away m = shape_is s (unlinked w i s) refl (away_at m) (λ j. refl) (λ f. refl)

  -- what has left the chain is not in it
  pub away_after : (t : Shape T) → t ≡ unlinked w i s → Misses i (t.order w)
  away_after t e =
      let o = s.order w in
      subst (Misses i) (sym (ap (λ s. s.order w) e ∙ cond-true (same w w) (without i o) o (eq-eqb (place w) (place w) refl))) (misses_without i o)

-- a shape's size is the number of cells
pub size_is : {T : Type 0} (c : List (Cell T)) (cs : Chains) → (shape_of c cs).size ≡ length c
unfolding shape_of
size_is c cs = refl

-- chains of no cell
abbrev no_end : Option Ends
no_end = None

pub no_ends : (w : Chain) → get_or (no_end ∷ no_end ∷ no_end ∷ no_end ∷ []) (place w) None ≡ None
no_ends Ring = refl
no_ends Cold = refl
no_ends Test = refl
no_ends Free = refl

module _ {T : Type 0} (c : List (Cell T)) (cs : Chains) (e : (w : Chain) → ends_at cs w ≡ None) where
  pub intact_none : Intact c cs
  unfolding Intact Sound
  intact_none w = rw (e w) tt

  pub order_none : (w : Chain) → (shape_of c cs).order w ≡ []
  unfolding shape_of order_of
  order_none w = rw (e w) refl

-- a cell that has an entry is one of the slice
pub entry_inside : {T : Type 0} (c : List (Cell T)) (cs : Chains) (j : ℕ) (e : T) → (shape_of c cs).entry j ≡ Some e → j < (shape_of c cs).size
unfolding shape_of entry_of
entry_inside c cs j e h = elim (cases_lt j (length c)) [
  | inl l ↦ l
  | inr l ↦
      let q = ap (λ x. x.entry) (get_or_past c j vacant l) in
      let z : ◌≡◌ {A = ℕ} 0 1 = cc in
      let n : ⊥ = omega arith in
      absurd n
]

-- a chain that has a cell has ends
pub is_there : {T : Type 0} (c : List (Cell T)) (w : Chain) (o : Option Ends) (i : ℕ) → ContainsAt (order_of c w o) i → IsSome o
unfolding order_of
is_there c w None i h = let z : ⊥ = omega (arith, h.1) in absurd z
is_there c w (Some ch) i h = refl
