-- How a caller goes through a chain, and what it knows of the ends.
use Rattle.std.proofs.Common.{◌≡◌, ℕ, zero, suc, ◌+◌, ◌<◌, List, [], ◌∷◌, ◌++◌, length, get_or, Some, None, Option, refl, ap, add-one, arith}
use Rattle.std.proofs.ByRecursion.{All-push}
use Rattle.std.proofs.lemmas.List.{length_push}
use Rattle.chains.specs.Cells.{next_of}
use Rattle.chains.specs.Orders.{walk, Misses, order_of, Sound}
use Rattle.chains.specs.declared.cell.Cell.{Cell}
use Rattle.chains.specs.declared.ends.Ends.{Ends}
use Rattle.chains.specs.declared.cell.Chain.{Chain}
use Rattle.chains.proofs.Rounds.{apart_push}
use Rattle.chains.proofs.Room.{pigeon}

length-walk : (n : ℕ → ℕ) (x k : ℕ) → length (walk n x k) ≡ k
length-walk n x zero = refl
length-walk n x (suc k) = ap suc (length-walk n (n x) k)

walk_next : (n : ℕ → ℕ) (x m k : ℕ) → suc k < m → n (get_or (walk n x m) k 0) ≡ get_or (walk n x m) (suc k) 0
walk_next n x zero k l = omega arith
walk_next n x (suc zero) k l = omega arith
walk_next n x (suc (suc m)) zero l = refl
walk_next n x (suc (suc m)) (suc k) l = walk_next n (n x) (suc m) k (omega arith)

abbrev pub len_of : Option Ends → ℕ
len_of None = 0
len_of (Some ch) = ch.len

module _ {T : Type 0} (c : List (Cell T)) (w : Chain) where
  pub order_length : (o : Option Ends) → length (order_of c w o) ≡ len_of o
  unfolding order_of
  order_length None = refl
  order_length (Some ch) = length-walk (next_of c w) ch.tail.0 ch.len

  pub order_next : (o : Option Ends) (k : ℕ) → k + 1 < length (order_of c w o) → next_of c w (get_or (order_of c w o) k 0) ≡ get_or (order_of c w o) (k + 1) 0
  unfolding order_of
  order_next None k l = omega arith
  order_next (Some ch) k l = rw add-one (walk_next (next_of c w) ch.tail.0 ch.len k (omega (arith, length-walk (next_of c w) ch.tail.0 ch.len)))

  pub room : (ch : Ends) → Sound c w (Some ch) → (i : ℕ) → i < length c → Misses i (order_of c w (Some ch)) → ch.len < length c
  unfolding Sound
  room ch s i l m =
      let o = order_of c w (Some ch) in
      let p = pigeon (length c) (o ++ i ∷ []) (apart_push o i s.apart m) (All-push (λ j. j < length c) o i s.within l) in
      omega (arith, p, length_push o i, order_length (Some ch))
