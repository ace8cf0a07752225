-- A page is written to the store if it was altered.
use Rattle.std.proofs.Common.{◌≡◌, ℕ, Bool, true, false, cond, List, Some, None, Option, sym, refl, ◌∙◌, subst}
use Rattle.std.proofs.lemmas.Bool.{cond-true, cond-false}
use Rattle.keys.specs.Same.{same_list}
use Rattle.machine.specs.Entry.{Entry, lies_in, first}
use Rattle.keys.proofs.Compare.{same_list_true, same_list_same}
use Rattle.stores.specs.Meaning.{Meaning, with_page}
use Rattle.promise.specs.Serves.{sent_out}
use Rattle.promise.proofs.Pages.{At, Is, Unique, at_frame, frame_at}

-- size and openness never change
pub sent_size : (page : List ℕ) (o : Option Entry) (store : Meaning) → (sent_out page o store).size ≡ store.size
sent_size page None store = refl
sent_size page (Some e) store = go e.altered
  where
    go : (b : Bool) → (cond b (with_page e.key page store) store).size ≡ store.size
    go true = refl
    go false = refl

pub sent_open : (page : List ℕ) (o : Option Entry) (store : Meaning) → (sent_out page o store).is_open ≡ store.is_open
sent_open page None store = refl
sent_open page (Some e) store = go e.altered
  where
    go : (b : Bool) → (cond b (with_page e.key page store) store).is_open ≡ store.is_open
    go true = refl
    go false = refl

-- a key that does not lie in the frame keeps its page
pub sent_other : (page : List ℕ) (f : ℕ) (ring : List Entry) (store : Meaning) (i : List ℕ) → ((l : ℕ) (a : Bool) → At i f l a ring → ⊥) →
    (sent_out page (first (lies_in f) ring) store).pages i ≡ store.pages i
sent_other page f ring store i h = go (first (lies_in f) ring) refl
  where
    go : (o : Option Entry) → first (lies_in f) ring ≡ o → (sent_out page o store).pages i ≡ store.pages i
    go None j = refl
    go (Some e) j = which e.altered
      where
        no : (b : Bool) → same_list e.key i ≡ b → b ≡ false
        no true q = absurd (h e.loans e.altered (subst (λ x. At x f e.loans e.altered ring) (same_list_true e.key i q) (frame_at f ring e j)))
        no false q = refl

        which : (b : Bool) → (cond b (with_page e.key page store) store).pages i ≡ store.pages i
        which true = cond-false (same_list e.key i) (Some page) (store.pages i) (no (same_list e.key i) refl)
        which false = refl

-- the key that lies in the frame has the page, if the store had it already where it was not altered
pub sent_here : (page : List ℕ) (f : ℕ) (ring : List Entry) (store : Meaning) (i : List ℕ) (l : ℕ) (a : Bool) → Unique ring → At i f l a ring →
    (a ≡ false → store.pages i ≡ Some page) → (sent_out page (first (lies_in f) ring) store).pages i ≡ Some page
sent_here page f ring store i l a u h j =
    let x = at_frame i f l a ring u h in
    subst (λ o. (sent_out page o store).pages i ≡ Some page) (sym x.1) (go x.0 x.2 x.0.altered refl)
  where
    go : (e : Entry) → Is i f l a e → (b : Bool) → e.altered ≡ b → (cond b (with_page e.key page store) store).pages i ≡ Some page
    go e q true k = cond-true (same_list e.key i) (Some page) (store.pages i) (subst (λ y. same_list y i ≡ true) (sym q.key) (same_list_same i))
    go e q false k = j (sym q.altered ∙ k)
