-- When two meanings of keys are the same.
--   same_list   the test of two lists of numbers
--   Exactly    that the test is true just where the lists are equal
use Rattle.std.specs.Prelude.{◌≡◌, ℕ, Bool, true, false, ◌&&◌, List, [], ◌∷◌, ◌==◌}

-- whether two lists of numbers are equal
abbrev pub same_list : List ℕ → List ℕ → Bool
same_list [] [] = true
same_list [] (y ∷ ys) = false
same_list (x ∷ xs) [] = false
same_list (x ∷ xs) (y ∷ ys) = x == y && same_list xs ys

-- the test is true just where the lists are equal
pub record Exactly : Type 0 where
  pub only : (a b : List ℕ) → same_list a b ≡ true → a ≡ b
  pub all : (a : List ℕ) → same_list a a ≡ true
