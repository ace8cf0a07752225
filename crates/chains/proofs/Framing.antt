-- Another chain is as it was.
use Rattle.std.proofs.Common.{◌≡◌, ℕ, zero, suc, ◌<◌, ◌≢◌, List, [], ◌∷◌, length, Some, None, Option, refl, ap, ◌∙◌, arith}
use Rattle.std.proofs.ByRecursion.{All-weaker}
use Rattle.chains.specs.Cells.{next_of, prev_of, Framed, Stored, Slotted}
use Rattle.chains.specs.Orders.{From, walk, order_of, Sound}
use Rattle.chains.specs.declared.cell.Cell.{Cell}
use Rattle.chains.specs.declared.cell.Chain.{Chain}
use Rattle.chains.specs.declared.ends.Ends.{Ends}

walk_same : (n n' : ℕ → ℕ) → ((j : ℕ) → n' j ≡ n j) → (x k : ℕ) → walk n' x k ≡ walk n x k
walk_same n n' e x zero = refl
walk_same n n' e x (suc k) = ap (λ l. x ∷ l) (walk_same n n' e (n' x) k ∙ ap (λ y. walk n y k) (e x))

from_kept : (n n' p p' : ℕ → ℕ) → ((j : ℕ) → n' j ≡ n j) → ((j : ℕ) → p' j ≡ p j) → (x : ℕ) (xs : List ℕ) → From n p x xs → From n' p' x xs
from_kept n n' p p' en ep x [] f = tt
from_kept n n' p p' en ep x (y ∷ ys) f = (en x ∙ f.0, ep y ∙ f.1, from_kept n n' p p' en ep y ys f.2)

-- a chain whose links are as they were
module _ {T : Type 0} (old new : List (Cell T)) (v : Chain)
    (en : (j : ℕ) → next_of new v j ≡ next_of old v j) (ep : (j : ℕ) → prev_of new v j ≡ prev_of old v j) (s : length new ≡ length old) where
  same_order : (o : Option Ends) → order_of new v o ≡ order_of old v o
  unfolding order_of
  same_order None = refl
  same_order (Some ch) = walk_same (next_of old v) (next_of new v) en ch.tail.0 ch.len

  same_sound : (o : Option Ends) → Sound old v o → Sound new v o
  unfolding Sound
  same_sound None k = tt
  same_sound (Some ch) k =
      rw (same_order (Some ch))
      (record {
        size = k.size;
        first = k.first;
        last = k.last;
        round = from_kept (next_of old v) (next_of new v) (prev_of old v) (prev_of new v) en ep ch.head.0 (order_of old v (Some ch)) k.round;
        within = All-weaker (λ j. j < length old) (λ j. j < length new) (λ j l. omega arith) (order_of old v (Some ch)) k.within;
        apart = k.apart;
      })

-- after `Ends::push` or `Ends::unlink` in chain w
module _ {T : Type 0} {old new : List (Cell T)} {w : Chain} (f : Framed old new w) (v : Chain) (ne : v ≢ w) (o : Option Ends) where
  pub order_kept : order_of new v o ≡ order_of old v o
  order_kept = same_order old new v (λ j. f.nexts v j ne) (λ j. f.prevs v j ne) f.size o

  pub sound_kept : Sound old v o → Sound new v o
  sound_kept k = same_sound old new v (λ j. f.nexts v j ne) (λ j. f.prevs v j ne) f.size o k

-- after `put`
module _ {T : Type 0} {old new : List (Cell T)} {i : ℕ} {e : Option T} (f : Stored old new i e) (v : Chain) (o : Option Ends) where
  pub order_stored : order_of new v o ≡ order_of old v o
  order_stored = same_order old new v (f.nexts v) (f.prevs v) f.size o

  pub sound_stored : Sound old v o → Sound new v o
  sound_stored k = same_sound old new v (f.nexts v) (f.prevs v) f.size o k

-- after `set_slot`
module _ {T : Type 0} {old new : List (Cell T)} {i x : ℕ} (f : Slotted old new i x) (v : Chain) (o : Option Ends) where
  pub order_slotted : order_of new v o ≡ order_of old v o
  order_slotted = same_order old new v (f.nexts v) (f.prevs v) f.size o

  pub sound_slotted : Sound old v o → Sound new v o
  sound_slotted k = same_sound old new v (f.nexts v) (f.prevs v) f.size o k
