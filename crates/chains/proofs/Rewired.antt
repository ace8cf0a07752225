-- One cell of the slice is written: what that does to `next_of`, `prev_of`, `entry_of` and `slot_of`.
use Rattle.std.proofs.Common.{◌≡◌, ℕ, ◌<◌, ◌≢◌, List, length, get_or, set, refl, ap, ◌∙◌, inl, inr}
use Rattle.std.proofs.lemmas.List.{get_or-set_same, get_or-set_other, get_or_default, length-set}
use Rattle.std.proofs.lemmas.Bool.{cases_eq}
use Rattle.chains.specs.Cells.{place, unlinked, next_of, prev_of, entry_of, slot_of, Put, Framed, Stored, Slotted, links_at, vacant}
use Rattle.chains.specs.declared.cell.Links.{Links}
use Rattle.chains.specs.declared.cell.Cell.{Cell}
use Rattle.chains.specs.declared.cell.Chain.{Chain}

module _ {T : Type 0} (cells : List (Cell T)) (i : ℕ) (d c' : Cell T) (h : i < length cells) where
  -- what the old and the new cell agree on is as it was in every cell
  pub at_set : {X : Type 0} (F : Cell T → X) → F c' ≡ F (get_or cells i d)
      → (j : ℕ) → F (get_or (set cells i c') j vacant) ≡ F (get_or cells j vacant)
  at_set F q j = elim (cases_eq j i) [
    | inl e ↦ rw e (ap F (get_or-set_same cells i c' vacant h) ∙ q ∙ ap F (get_or_default cells i d vacant h))
    | inr ne ↦ ap F (get_or-set_other cells i j c' vacant ne)
  ]

  pub at_put : (F : Cell T → ℕ) (x : ℕ) → F c' ≡ x
      → Put (λ j. F (get_or cells j vacant)) (λ j. F (get_or (set cells i c') j vacant)) i x
  at_put F x q = record {
    here = ap F (get_or-set_same cells i c' vacant h) ∙ q;
    there = λ j ne. ap F (get_or-set_other cells i j c' vacant ne);
  }

  pub framed : (w : Chain) → c'.entry ≡ (get_or cells i d).entry → c'.slot ≡ (get_or cells i d).slot
      → ((v : Chain) → v ≢ w → links_at c'.links v ≡ links_at (get_or cells i d).links v)
      → Framed cells (set cells i c') w
  unfolding next_of prev_of entry_of slot_of
  framed w e z o = record {
    size = length-set cells i c';
    entries = at_set (λ c. c.entry) e;
    slots = at_set (λ c. c.slot.0) (ap (λ x. x.0) z);
    nexts = λ v j ne. at_set (λ c. (links_at c.links v).next.0) (ap (λ l. l.next.0) (o v ne)) j;
    prevs = λ v j ne. at_set (λ c. (links_at c.links v).prev.0) (ap (λ l. l.prev.0) (o v ne)) j;
  }

  pub stored : c'.links ≡ (get_or cells i d).links → c'.slot ≡ (get_or cells i d).slot → Stored cells (set cells i c') i c'.entry
  unfolding next_of prev_of entry_of slot_of
  stored e z = record {
    size = length-set cells i c';
    here = ap (λ c. c.entry) (get_or-set_same cells i c' vacant h);
    there = λ j ne. ap (λ c. c.entry) (get_or-set_other cells i j c' vacant ne);
    slots = at_set (λ c. c.slot.0) (ap (λ x. x.0) z);
    nexts = λ v j. at_set (λ c. (links_at c.links v).next.0) (ap (λ l. (links_at l v).next.0) e) j;
    prevs = λ v j. at_set (λ c. (links_at c.links v).prev.0) (ap (λ l. (links_at l v).prev.0) e) j;
  }

  pub slotted : (x : ℕ) → c'.slot.0 ≡ x → c'.links ≡ (get_or cells i d).links → c'.entry ≡ (get_or cells i d).entry → Slotted cells (set cells i c') i x
  unfolding next_of prev_of entry_of slot_of
  slotted x q e o = record {
    size = length-set cells i c';
    put = at_put (λ c. c.slot.0) x q;
    entries = at_set (λ c. c.entry) o;
    nexts = λ v j. at_set (λ c. (links_at c.links v).next.0) (ap (λ l. (links_at l v).next.0) e) j;
    prevs = λ v j. at_set (λ c. (links_at c.links v).prev.0) (ap (λ l. (links_at l v).prev.0) e) j;
  }

pub framed_on : {T : Type 0} (a b c : List (Cell T)) (w : Chain) → Framed a b w → Framed b c w → Framed a c w
framed_on a b c w f g = record {
  size = g.size ∙ f.size;
  entries = λ j. g.entries j ∙ f.entries j;
  slots = λ j. g.slots j ∙ f.slots j;
  nexts = λ v j ne. g.nexts v j ne ∙ f.nexts v j ne;
  prevs = λ v j ne. g.prevs v j ne ∙ f.prevs v j ne;
}

-- a read of a cell's links in one chain
pub links_are : {T : Type 0} (cells : List (Cell T)) (i : ℕ) (c : Cell T) (w : Chain) (k : ℕ) → i < length cells → k ≡ place w
    → ((get_or (get_or cells i c).links k unlinked).next.0 ≡ next_of cells w i) × ((get_or (get_or cells i c).links k unlinked).prev.0 ≡ prev_of cells w i)
unfolding next_of prev_of
links_are cells i c w k h e =
    let q : get_or (get_or cells i c).links k unlinked ≡ links_at (get_or cells i vacant).links w = rw (e, get_or_default cells i c vacant h) refl in
    (ap (λ l. l.next.0) q, ap (λ l. l.prev.0) q)

-- only the links of chain w in cell i differ: they are l
pub record Relinked {T : Type 0} (old new : List (Cell T)) (w : Chain) (i : ℕ) (l : Links) : Type 0 where
  pub nexts : Put (next_of old w) (next_of new w) i l.next.0
  pub prevs : Put (prev_of old w) (prev_of new w) i l.prev.0
  pub others : Framed old new w

pub relinked : {T : Type 0} (cells : List (Cell T)) (w : Chain) (i : ℕ) (d : Cell T) (ls : List Links) (l : Links) → i < length cells
    → links_at ls w ≡ l → ((v : Chain) → v ≢ w → links_at ls v ≡ links_at (get_or cells i d).links v)
    → Relinked cells (set cells i (record { entry = (get_or cells i d).entry; links = ls; slot = (get_or cells i d).slot })) w i l
unfolding next_of prev_of
relinked cells w i d ls l h q o = record {
  nexts = at_put cells i d _ h (λ c. (links_at c.links w).next.0) l.next.0 (ap (λ l. l.next.0) q);
  prevs = at_put cells i d _ h (λ c. (links_at c.links w).prev.0) l.prev.0 (ap (λ l. l.prev.0) q);
  others = framed cells i d _ h w refl refl o;
}

put_same : (f f' : ℕ → ℕ) (i x : ℕ) → Put f f' i x → x ≡ f i → (j : ℕ) → f' j ≡ f j
put_same f f' i x p e j = elim (cases_eq j i) [
  | inl q ↦ rw q (p.here ∙ e)
  | inr ne ↦ p.there j ne
]

-- a is given a successor, and then b a predecessor
module _ {T : Type 0} (c₀ c₁ c₂ : List (Cell T)) (w : Chain) (a b : ℕ) (l m : Links) (s : Relinked c₀ c₁ w a l) (t : Relinked c₁ c₂ w b m) where
  pub tied_ahead : m.next.0 ≡ next_of c₁ w b → Put (next_of c₀ w) (next_of c₂ w) a l.next.0
  tied_ahead e =
      let k = put_same (next_of c₁ w) (next_of c₂ w) b m.next.0 t.nexts e in
      record { here = k a ∙ s.nexts.here; there = λ j ne. k j ∙ s.nexts.there j ne }

  pub tied_back : l.prev.0 ≡ prev_of c₀ w a → Put (prev_of c₀ w) (prev_of c₂ w) b m.prev.0
  tied_back e =
      let k = put_same (prev_of c₀ w) (prev_of c₁ w) a l.prev.0 s.prevs e in
      record { here = t.prevs.here; there = λ j ne. t.prevs.there j ne ∙ k j }
