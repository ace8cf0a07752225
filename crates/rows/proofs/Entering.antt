-- A new row at the head, in an unused cell.
use Rattle.std.proofs.Common.{◌≡◌, ℕ, ◌^◌, ◌<◌, Bool, true, false, cond, eqb, List, [], ◌∷◌, ◌++◌, length, is_some as option_is_some, Some, None, Option, sym, refl, ap, ◌∙◌, subst, arith}
use Rattle.keys.specs.declared.FrameNo.{FrameNo}
use Rattle.std.specs.List.{ContainsAt, AllByRecursion}
use Rattle.std.proofs.lemmas.List.{map-append, length_push}
use Rattle.std.proofs.ByRecursion.{All-push, all-has}
use Rattle.std.proofs.lemmas.Bool.{eq-eqb, ne_eqb, eqb-false, cond-true, cond-false}
use Rattle.chains.specs.Orders.{Misses, Apart, without}
use Rattle.chains.specs.declared.cell.Cell.{Cell}
use Rattle.keys.specs.declared.CellNo.{CellNo}
use Rattle.chains.specs.declared.cell.Chain.TheVariants.{Ring, Cold, Test, Free}
use Rattle.chains.proofs.Rounds.{without_none}
use Rattle.chains.proofs.Room.{all_without, misses_without}
use Rattle.chains.specs.Shape.{Shape, Intact, shape_of, head_of, name_of}
use Rattle.chains.proofs.Shapes.{order_apart, order_inside, size_is}
use Rattle.records.specs.Questions.{cold_resident, remembered, idle, lies_in, in_frame}
use Rattle.rows.specs.Rows.{counted, plus, SumsFit, cells_of, cells_by, first_by, Slot, Unnamed, Fits, Placed, noted, refiled, noted_slot, Linked, Stands, rows_in, joined}
use Rattle.records.specs.declared.entry.Entry.{Entry}
use Rattle.chains.specs.declared.Chains.{Chains}
use Rattle.rows.specs.declared.Counts.{Counts}
use Rattle.rows.specs.declared.Row.{Row}
use Rattle.rows.specs.declared.Table.{Table}
use Rattle.rows.proofs.Splits.{by_turned, number_append, number_some, misses_by, none_left}
use Rattle.rows.proofs.Links.{at_most_one, Holds, others_hold, still_vacant}
use Rattle.rows.proofs.Filing.{unused, comes}
use Rattle.rows.proofs.Stand.{Rows, intact, linked, stands_on}

-- another frame's slot is written: a row's slot is as it was
slot_other : (slot : ℕ → ℕ) (i f c : ℕ) (o : Option FrameNo) → in_frame f o ≡ false → Slot slot c o → Slot (λ j. cond (eqb j f) i (slot j)) c o
slot_other slot i f c None e h = tt
slot_other slot i f c (Some g) e h = cond-false (eqb g.0 f) i (slot g.0) (ne_eqb g.0 f (λ q. eqb-false f g.0 e (sym q))) ∙ h

pub slot_here : (slot : ℕ → ℕ) (i : ℕ) (o : Option FrameNo) → Slot (noted_slot i o slot) i o
slot_here slot i None = tt
slot_here slot i (Some f) = cond-true (eqb f.0 f.0) i (slot f.0) (eq-eqb f.0 f.0 refl)

module _ {K : Type 0} where
  vacant_cell : (f : ℕ → Option (Entry K)) (i : ℕ) → f i ≡ None → (rows : List (Row K)) → Holds f rows → Misses i (cells_of rows)
  vacant_cell f i e [] h = tt
  vacant_cell f i e (r ∷ rs) h = (
    (λ q. let a = ap f q in let b = h.0 in let z : ◌≡◌ {A = ℕ} 0 1 = cc in omega arith),
    vacant_cell f i e rs h.1,
  )

  slots_same : (slot : ℕ → ℕ) (i : ℕ) (f : ℕ) (rows : List (Row K)) → first_by (lies_in f) rows ≡ None
      → AllByRecursion (λ r. Slot slot r.cell.0 r.entry.frame) rows → AllByRecursion (λ r. Slot (λ j. cond (eqb j f) i (slot j)) r.cell.0 r.entry.frame) rows
  slots_same slot i f [] e h = tt
  slots_same slot i f (r ∷ rs) e h = go (lies_in f r.entry) refl e (λ z. slots_same slot i f rs z h.1)
    where
      go : (b : Bool) → lies_in f r.entry ≡ b → cond b (Some r) (first_by (lies_in f) rs) ≡ None
          → (first_by (lies_in f) rs ≡ None → AllByRecursion (λ x. Slot (λ j. cond (eqb j f) i (slot j)) x.cell.0 x.entry.frame) rs)
          → AllByRecursion (λ x. Slot (λ j. cond (eqb j f) i (slot j)) x.cell.0 x.entry.frame) (r ∷ rs)
      go true q z ih = let y : ◌≡◌ {A = ℕ} 0 1 = cc in let n : ⊥ = omega arith in absurd n
      go false q z ih = (slot_other slot i f r.cell.0 r.entry.frame q h.0, ih z)

  -- the slot of a frame that no row names is written
  pub slots_kept : (slot : ℕ → ℕ) (i n : ℕ) (o : Option FrameNo) (rows : List (Row K)) → Unnamed n rows o
      → AllByRecursion (λ r. Slot slot r.cell.0 r.entry.frame) rows → AllByRecursion (λ r. Slot (noted_slot i o slot) r.cell.0 r.entry.frame) rows
  slots_kept slot i n None rows u h = h
  slots_kept slot i n (Some f) rows u h = slots_same slot i f.0 rows u.1 h

  -- the first unused cell is i
  module _ (counts : Counts) (s : Shape (Entry K)) (rows : List (Row K)) (k : Linked counts s rows) (i : CellNo) (rest : List ℕ)
      (first : s.order Free ≡ i.0 ∷ rest) (apart : Apart (s.order Free)) where
    pub empty_here : s.entry i.0 ≡ None
    empty_here = (subst (AllByRecursion (λ j. s.entry j ≡ None)) first k.vacant).0

    pub not_used : Misses i.0 (cells_of rows)
    not_used = vacant_cell s.entry i.0 empty_here rows k.entries

    alone : Misses i.0 rest
    alone = (subst Apart first apart).0

    pub joined_linked : (new : Entry K) (n : ℕ) → Unnamed n rows new.frame → Linked (plus counts (counted new)) (joined i.0 new s) (rows ++ record { cell = i; entry = new } ∷ [])
    joined_linked new n u =
        let r : Row K = record { cell = i; entry = new } in
        let z = none_left i.0 rows not_used in
        let v : without i.0 (s.order Free) ≡ rest = ap (without i.0) first ∙ cond-true (eqb i.0 i.0) (without i.0 rest) (i.0 ∷ without i.0 rest) (eq-eqb i.0 i.0 refl) ∙ without_none i.0 rest alone in
        record {
          ring = ap (λ o. o ++ i.0 ∷ []) k.ring ∙ sym (map-append (λ x. x.cell.0) rows (r ∷ []));
          cold = by_turned cold_resident r rows (s.order Cold) k.cold ∙ ap (λ l. cells_by cold_resident (l ++ r ∷ [])) z;
          test = by_turned (λ e. e.test) r rows (s.order Test) k.test ∙ ap (λ l. cells_by (λ e. e.test) (l ++ r ∷ [])) z;
          entries = All-push (λ x. cond (eqb x.cell.0 i.0) (Some new) (s.entry x.cell.0) ≡ Some x.entry) rows r
              (subst (Holds (λ j. cond (eqb j i.0) (Some new) (s.entry j))) z (others_hold s.entry i.0 (Some new) rows k.entries))
              (cond-true (eqb i.0 i.0) (Some new) (s.entry i.0) (eq-eqb i.0 i.0 refl));
          vacant = still_vacant s.entry i.0 (Some new) (without i.0 (s.order Free)) (misses_without i.0 (s.order Free)) (all_without (λ j. s.entry j ≡ None) i.0 (s.order Free) k.vacant);
          full = omega (arith, length_push rows r, k.full, ap length first, ap length v);
          warm = omega (arith, number_append (λ e. e.hot) rows (r ∷ []), k.warm);
          left = omega (arith, number_append remembered rows (r ∷ []), k.left);
          unlents = omega (arith, number_append idle rows (r ∷ []), k.unlents);
          directory = All-push (λ x. Slot (noted_slot i.0 new.frame s.slot) x.cell.0 x.entry.frame) rows r
              (slots_kept s.slot i.0 n new.frame rows u k.directory) (slot_here s.slot i.0 new.frame);
        }

-- the first unused cell of a ring that has room
head_is : (o : List ℕ) (i : CellNo) → name_of (Some i) ≡ head_of o → (rest : List ℕ) × (o ≡ i.0 ∷ rest)
head_is [] i h = let z : ◌≡◌ {A = ℕ} 0 1 = cc in let y : ⊥ = omega arith in absurd y
head_is (x ∷ xs) i h = let q : x ≡ i.0 = cc in (xs, ap (λ y. y ∷ xs) q)

is_some : (o : Option CellNo) (l : List ℕ) → 0 < length l → name_of o ≡ head_of l → option_is_some o ≡ true
is_some (Some i) l h e = refl
is_some None [] h e = let y : ⊥ = omega arith in absurd y
is_some None (x ∷ xs) h e = let z : ◌≡◌ {A = ℕ} 0 1 = cc in let y : ⊥ = omega arith in absurd y

module _ {K : Type 0} (cells : List (Cell (Entry K))) (b : Table) (st : Stands cells b) (room : length (rows_in cells b) < length cells) where
  some_free : 0 < length ((shape_of cells b.chains).order Free)
  some_free = omega (arith, (linked cells b st).full, size_is cells b.chains)

  pub free_there : (o : Option CellNo) → name_of o ≡ head_of ((shape_of cells b.chains).order Free) → option_is_some o ≡ true
  free_there o e = is_some o ((shape_of cells b.chains).order Free) some_free e

  -- another entry can be counted
  pub room_for : (new : Entry K) → length cells < 2 ^ 64 → SumsFit b.counts (counted new)
  room_for new h =
      let k = linked cells b st in
      record {
        hots = omega (arith, number_some (λ e. e.hot) (rows_in cells b), k.warm, at_most_one new.hot);
        past = omega (arith, number_some remembered (rows_in cells b), k.left, at_most_one (remembered new));
        idles = omega (arith, number_some idle (rows_in cells b), k.unlents, at_most_one (idle new));
      }

  module _ (i : CellNo) (e : name_of (Some i) ≡ head_of ((shape_of cells b.chains).order Free)) where
    pub free_parts : (rest : List ℕ) × ((shape_of cells b.chains).order Free ≡ i.0 ∷ rest)
    free_parts = head_is ((shape_of cells b.chains).order Free) i e

    free_has : ContainsAt ((shape_of cells b.chains).order Free) i.0
    free_has = subst (λ o. ContainsAt o i.0) (sym free_parts.1) (0, omega arith, λ d. refl)

    pub free_inside : i.0 < (shape_of cells b.chains).size
    free_inside = all-has (λ j. j < (shape_of cells b.chains).size) ((shape_of cells b.chains).order Free) i.0 (order_inside cells b.chains (intact cells b st) Free) free_has

    free_misses : Misses i.0 (cells_of (rows_in cells b))
    free_misses = not_used b.counts (shape_of cells b.chains) (rows_in cells b) (linked cells b st) i free_parts.0 free_parts.1 (order_apart cells b.chains (intact cells b st) Free)

    free_ring : Misses i.0 ((shape_of cells b.chains).order Ring)
    free_ring = subst (Misses i.0) (sym (linked cells b st).ring) free_misses

    free_cold : Misses i.0 ((shape_of cells b.chains).order Cold)
    free_cold = subst (Misses i.0) (sym (linked cells b st).cold) (misses_by cold_resident i.0 (rows_in cells b) free_misses)

    free_test : Misses i.0 ((shape_of cells b.chains).order Test)
    free_test = subst (Misses i.0) (sym (linked cells b st).test) (misses_by (λ e. e.test) i.0 (rows_in cells b) free_misses)

    pub free_placed : Placed i.0 None (shape_of cells b.chains)
    free_placed = unused (shape_of cells b.chains) i.0 free_has free_ring free_cold free_test

    pub free_comes : (new : Entry K) → refiled i.0 (Some new) (noted i.0 new.frame (shape_of cells b.chains)) ≡ joined i.0 new (shape_of cells b.chains)
    free_comes = comes (shape_of cells b.chains) i.0 free_has free_ring free_cold free_test

    pub joined_stands : (cells' : List (Cell (Entry K))) (chains : Chains) (counts : Counts) → Intact cells' chains → (new : Entry K) → Unnamed (length cells) (rows_in cells b) new.frame
        → shape_of cells' chains ≡ joined i.0 new (shape_of cells b.chains) → counts ≡ plus b.counts (counted new)
        → Rows cells' (record { chains = chains; counts = counts }) (rows_in cells b ++ record { cell = i; entry = new } ∷ [])
    joined_stands cells' chains counts w new u e c =
        stands_on cells' (record { chains = chains; counts = counts }) _ w
        (rw (e, c) (joined_linked b.counts (shape_of cells b.chains) (rows_in cells b) (linked cells b st) i free_parts.0 free_parts.1 (order_apart cells b.chains (intact cells b st) Free) new (length cells) u))

-- the frame of an entry that comes in has a slot
pub fits_slot : {K : Type 0} (n : ℕ) (rows : List (Row K)) (o : Option FrameNo) → Unnamed n rows o → Fits n o
fits_slot n rows None u = tt
fits_slot n rows (Some f) u = u.0
