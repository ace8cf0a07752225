-- What an answer of a read tells of the store.
use Rattle.std.proofs.Common.{◌≡◌, ℕ, Bool, true, false, cond, eqb, List, Some, None, Option, refl}
use Rattle.stores.specs.Meaning.{Meaning, held, read_refusal}

asked : (b h : Bool) → ◌≡◌ {A = Option ℕ} None (cond b (cond h None (Some 9)) (Some 15)) → h ≡ true
asked true true e = refl
asked true false e = cc
asked false h e = cc

-- a read that was granted was of a key that is held
pub read_held : (m : Meaning) (k : List ℕ) (n : ℕ) → None ≡ read_refusal m k n → held m k ≡ true
read_held m k n e = asked (eqb n m.size) (held m k) e
