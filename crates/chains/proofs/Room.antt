-- A list of different numbers below n has at most n of them.
use Rattle.std.proofs.Common.{ℕ, zero, suc, ◌<◌, ◌≤◌, eqb, ◌≢◌, List, [], ◌∷◌, length, ap, subst, inl, inr, arith}
use Rattle.std.specs.List.{AllByRecursion}
use Rattle.std.proofs.lemmas.Bool.{cond_both, eqb-true, eqb-false, cases_lt}
use Rattle.chains.specs.Orders.{Apart, Misses, without}
use Rattle.chains.proofs.Rounds.{without_none}

pub all_without : (P : ℕ → Type 0) (x : ℕ) (xs : List ℕ) → AllByRecursion P xs → AllByRecursion P (without x xs)
all_without P x [] a = tt
all_without P x (y ∷ ys) a =
    cond_both (eqb y x) (without x ys) (y ∷ without x ys) (AllByRecursion P)
    (λ e. all_without P x ys a.1) (λ e. (a.0, all_without P x ys a.1))

pub misses_without : (x : ℕ) (xs : List ℕ) → Misses x (without x xs)
misses_without x [] = tt
misses_without x (y ∷ ys) =
    cond_both (eqb y x) (without x ys) (y ∷ without x ys) (Misses x)
    (λ e. misses_without x ys) (λ e. (eqb-false y x e, misses_without x ys))

apart_without : (x : ℕ) (xs : List ℕ) → Apart xs → Apart (without x xs)
apart_without x [] a = tt
apart_without x (y ∷ ys) a =
    cond_both (eqb y x) (without x ys) (y ∷ without x ys) Apart
    (λ e. apart_without x ys a.1) (λ e. (all_without (λ z. z ≢ y) x ys a.0, apart_without x ys a.1))

length_without : (x : ℕ) (xs : List ℕ) → Apart xs → length xs ≤ suc (length (without x xs))
length_without x [] a = omega arith
length_without x (y ∷ ys) a =
    cond_both (eqb y x) (without x ys) (y ∷ without x ys) (λ l. suc (length ys) ≤ suc (length l))
    (λ e. let q = without_none x ys (subst (λ z. AllByRecursion (λ v. v ≢ z) ys) (eqb-true y x e) a.0) in omega (arith, ap length q))
    (λ e. let q = length_without x ys a.1 in omega arith)

all_and : (P Q R : ℕ → Type 0) → ((x : ℕ) → P x → Q x → R x) → (xs : List ℕ) → AllByRecursion P xs → AllByRecursion Q xs → AllByRecursion R xs
all_and P Q R f [] a b = tt
all_and P Q R f (x ∷ xs) a b = (f x a.0 b.0, all_and P Q R f xs a.1 b.1)

less : (n j : ℕ) → j < suc n → j ≢ n → j < n
less n j l d = elim (cases_lt j n) [ inl h ↦ h | inr h ↦ absurd (d (omega arith)) ]

pub pigeon : (n : ℕ) (xs : List ℕ) → Apart xs → AllByRecursion (λ j. j < n) xs → length xs ≤ n
pigeon zero [] a b = omega arith
pigeon zero (x ∷ xs) a b = omega (arith, b.0)
pigeon (suc n) xs a b =
    let l = length_without n xs a in
    let r = pigeon n (without n xs) (apart_without n xs a)
    (all_and (λ j. j < suc n) (λ j. j ≢ n) (λ j. j < n) (less n) (without n xs) (all_without (λ j. j < suc n) n xs b) (misses_without n xs)) in
    omega arith
