-- Lists of cells that two functions lead through, forth and back: one more at the end, and one taken out.
use Rattle.std.proofs.Common.{◌≡◌, ℕ, suc, eqb, ◌≢◌, List, [], ◌∷◌, ◌++◌, length, sym, refl, ap, ◌∙◌}
use Rattle.std.specs.List.{AllByRecursion}
use Rattle.std.proofs.lemmas.List.{append-nil}
use Rattle.std.proofs.ByRecursion.{All-push}
use Rattle.std.proofs.lemmas.Bool.{ne_eqb, eq-eqb, cond-true, cond-false}
use Rattle.chains.specs.Orders.{From, last_of, Apart, without, walk}

module _ (n p : ℕ → ℕ) where
  pub walk_is : (x : ℕ) (ys : List ℕ) → From n p x ys → walk n x (suc (length ys)) ≡ x ∷ ys
  walk_is x [] f = refl
  walk_is x (y ∷ ys) f = ap (λ l. x ∷ l) (rw f.0 (walk_is y ys f.2))

  pub seam : (a : ℕ) (xs : List ℕ) (i : ℕ) (zs : List ℕ) → From n p a (xs ++ i ∷ zs)
      → (n (last_of a xs) ≡ i) × (p i ≡ last_of a xs)
  seam a [] i zs f = (f.0, f.1)
  seam a (x ∷ xs) i zs f = seam x xs i zs f.2

module _ (n p n' p' : ℕ → ℕ) where
  pub grow : (t i x : ℕ) (ys : List ℕ) → From n p x ys → x ≢ i → AllByRecursion (λ y. y ≢ i) ys → AllByRecursion (λ y. y ≢ t) ys
      → n' (last_of x ys) ≡ i → p' i ≡ last_of x ys
      → ((j : ℕ) → j ≢ i → n j ≢ t → n' j ≡ n j) → ((j : ℕ) → j ≢ i → j ≢ t → p' j ≡ p j)
      → From n' p' x (ys ++ i ∷ [])
  grow t i x [] f nx ai at hn hp kn kp = (hn, hp, tt)
  grow t i x (y ∷ ys) f nx ai at hn hp kn kp = (
    kn x nx (λ e. at.0 (sym f.0 ∙ e)) ∙ f.0,
    kp y ai.0 at.0 ∙ f.1,
    grow t i y ys f.2 ai.0 ai.1 at.1 hn hp kn kp,
  )

  module _ (i : ℕ) (kn : (j : ℕ) → n j ≢ i → n' j ≡ n j) (kp : (j : ℕ) → p j ≢ i → p' j ≡ p j) where
    pub from_same : (x : ℕ) (xs : List ℕ) → From n p x xs → x ≢ i → AllByRecursion (λ y. y ≢ i) xs → From n' p' x xs
    from_same x [] f a ax = tt
    from_same x (y ∷ ys) f a ax = (
      kn x (λ e. ax.0 (sym f.0 ∙ e)) ∙ f.0,
      kp y (λ e. a (sym f.1 ∙ e)) ∙ f.1,
      from_same y ys f.2 ax.0 ax.1,
    )

    module _ (hn : n' (p i) ≡ n i) (hp : p' (n i) ≡ p i) where
      pub cut : (a : ℕ) (xs zs : List ℕ) → From n p a (xs ++ i ∷ zs) → a ≢ i
          → AllByRecursion (λ y. y ≢ i) xs → AllByRecursion (λ y. y ≢ i) zs → From n' p' a (xs ++ zs)
      cut a [] [] f na ax az = tt
      cut a [] (z ∷ zs) f na ax az = (
        ap n' (sym f.1) ∙ hn ∙ f.2.0,
        ap p' (sym f.2.0) ∙ hp ∙ f.1,
        from_same z zs f.2.2 az.0 az.1,
      )
      cut a (x ∷ xs) zs f na ax az = (
        kn a (λ e. ax.0 (sym f.0 ∙ e)) ∙ f.0,
        kp x (λ e. na (sym f.1 ∙ e)) ∙ f.1,
        cut x xs zs f.2 ax.0 ax.1 az,
      )

      pub cut_head : (xs : List ℕ) → From n p i (xs ++ i ∷ []) → AllByRecursion (λ y. y ≢ i) xs → From n' p' (p i) xs
      cut_head [] f ax = tt
      cut_head (x ∷ xs) f ax = (
        hn ∙ f.0,
        ap p' (sym f.0) ∙ hp,
        rw append-nil at (cut x xs [] f.2 ax.0 ax.1 tt),
      )

pub all_cut : (P : ℕ → Type 0) (xs : List ℕ) (i : ℕ) (zs : List ℕ) → AllByRecursion P (xs ++ i ∷ zs) → AllByRecursion P (xs ++ zs)
all_cut P [] i zs a = a.1
all_cut P (x ∷ xs) i zs a = (a.0, all_cut P xs i zs a.1)

pub all_mid : (P : ℕ → Type 0) (xs : List ℕ) (i : ℕ) (zs : List ℕ) → AllByRecursion P (xs ++ i ∷ zs) → P i
all_mid P [] i zs a = a.0
all_mid P (x ∷ xs) i zs a = all_mid P xs i zs a.1

pub apart_push : (xs : List ℕ) (i : ℕ) → Apart xs → AllByRecursion (λ y. y ≢ i) xs → Apart (xs ++ i ∷ [])
apart_push [] i a m = (tt, tt)
apart_push (x ∷ xs) i a m = (All-push (λ y. y ≢ x) xs i a.0 (λ e. m.0 (sym e)), apart_push xs i a.1 m.1)

pub apart_cut : (xs : List ℕ) (i : ℕ) (zs : List ℕ) → Apart (xs ++ i ∷ zs) → Apart (xs ++ zs)
apart_cut [] i zs a = a.1
apart_cut (x ∷ xs) i zs a = (all_cut (λ y. y ≢ x) xs i zs a.0, apart_cut xs i zs a.1)

pub apart_before : (xs : List ℕ) (i : ℕ) (zs : List ℕ) → Apart (xs ++ i ∷ zs) → AllByRecursion (λ y. y ≢ i) xs
apart_before [] i zs a = tt
apart_before (x ∷ xs) i zs a = (λ e. all_mid (λ y. y ≢ x) xs i zs a.0 (sym e), apart_before xs i zs a.1)

pub apart_after : (xs : List ℕ) (i : ℕ) (zs : List ℕ) → Apart (xs ++ i ∷ zs) → AllByRecursion (λ y. y ≢ i) zs
apart_after [] i zs a = a.0
apart_after (x ∷ xs) i zs a = apart_after xs i zs a.1

pub without_none : (i : ℕ) (xs : List ℕ) → AllByRecursion (λ y. y ≢ i) xs → without i xs ≡ xs
without_none i [] a = refl
without_none i (x ∷ xs) a =
    cond-false (eqb x i) (without i xs) (x ∷ without i xs) (ne_eqb x i a.0) ∙ ap (λ l. x ∷ l) (without_none i xs a.1)

pub without_split : (xs : List ℕ) (i : ℕ) (zs : List ℕ) → AllByRecursion (λ y. y ≢ i) xs → AllByRecursion (λ y. y ≢ i) zs → without i (xs ++ i ∷ zs) ≡ xs ++ zs
without_split [] i zs ax az =
    cond-true (eqb i i) (without i zs) (i ∷ without i zs) (eq-eqb i i refl) ∙ without_none i zs az
without_split (x ∷ xs) i zs ax az =
    cond-false (eqb x i) (without i (xs ++ i ∷ zs)) (x ∷ without i (xs ++ i ∷ zs)) (ne_eqb x i ax.0)
    ∙ ap (λ l. x ∷ l) (without_split xs i zs ax.1 az)
