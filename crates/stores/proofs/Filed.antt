-- The pages of a work file have its page size, and a page that is laid in its place is written.
use Rattle.std.proofs.Common.{◌≡◌, ℕ, ◌+◌, ◌*◌, ◌<◌, ◌≤◌, Bool, true, false, cond, ◌&&◌, eqb, leb, ◌⊎◌, List, [], ◌∷◌, length, take, Some, None, Option, sym, refl, ap, ◌∙◌, inl, inr, arith}
use mathlib.Core.Path.{fun_ext}
use Rattle.std.proofs.lemmas.List.{length-take, length-drop}
use Rattle.std.proofs.lemmas.Bool.{le-leb, eqb-true, eqb-false, cond-true, cases_order}
use Rattle.stores.specs.Meaning.{Meaning, paged, with_page}
use Rattle.stores.specs.Parts.{part_of, laid}
use Rattle.stores.specs.Files.{file_page, file_pages, file_of}
use Rattle.stores.proofs.Bytes.{row, length-laid, part_here, part_before, part_after, laid_whole}

pub part_sized : (p n : ℕ) (bytes : List ℕ) → n * p + p ≤ length bytes → length (part_of p bytes n) ≡ p
part_sized p n bytes h = simp (length-take, length-drop) (omega arith)

-- the page in a place, after another was laid in place n
part-laid_same : (p n : ℕ) (new bytes : List ℕ) → n * p + p ≤ length bytes → length new ≡ p → part_of p (laid (n * p) new bytes) n ≡ new
part-laid_same p n new bytes h j =
    let z : n * p + 0 ≡ n * p = omega arith in
    let s : length (part_of p bytes n) ≡ p = part_sized p n bytes h in
    ap (λ x. part_of p (laid x new bytes) n) (sym z) ∙ part_here p (n * p) 0 new bytes (omega arith) h ∙ laid_whole new (part_of p bytes n) (omega arith)

part-laid_other : (p n i : ℕ) (new bytes : List ℕ) → n * p + p ≤ length bytes → length new ≡ p → (n ≡ i → ⊥) → part_of p (laid (n * p) new bytes) i ≡ part_of p bytes i
part-laid_other p n i new bytes h j d = go (cases_order n i)
  where
    go : (n ≡ i) ⊎ ((n < i) ⊎ (i < n)) → part_of p (laid (n * p) new bytes) i ≡ part_of p bytes i
    go (inl e) = absurd (d e)
    go (inr (inl l)) = let r = row n i p l in ap (take p) (part_after (i * p) (n * p) new bytes (omega arith) (omega arith))
    go (inr (inr l)) = let r = row i n p l in part_before p (i * p) (n * p) new bytes (omega arith) (omega arith)

page-laid : (p n i : ℕ) (new bytes : List ℕ) → n * p + p ≤ length bytes → length new ≡ p → file_page p (laid (n * p) new bytes) i ≡ cond (eqb n i && true) (Some new) (file_page p bytes i)
page-laid p n i new bytes h j = go (eqb n i) refl
  where
    l : length (laid (n * p) new bytes) ≡ length bytes
    l = length-laid (n * p) new bytes (omega arith)

    go : (b : Bool) → eqb n i ≡ b → file_page p (laid (n * p) new bytes) i ≡ cond (b && true) (Some new) (file_page p bytes i)
    go true e =
        let s : n ≡ i = eqb-true n i e in
        let k : leb (n * p + p) (length (laid (n * p) new bytes)) ≡ true = le-leb (n * p + p) (length (laid (n * p) new bytes)) (omega (arith, l)) in
        ap (file_page p (laid (n * p) new bytes)) (sym s) ∙ cond-true (leb (n * p + p) (length (laid (n * p) new bytes))) (Some (part_of p (laid (n * p) new bytes) n)) None k
        ∙ ap Some (part-laid_same p n new bytes h j)
    go false e =
        ap (λ x. cond (leb (i * p + p) x) (Some (part_of p (laid (n * p) new bytes) i)) None) l
        ∙ ap (λ x. cond (leb (i * p + p) (length bytes)) (Some x) None) (part-laid_other p n i new bytes h j (eqb-false n i e))

pub file_written : (p n : ℕ) (new bytes : List ℕ) → n * p + p ≤ length bytes → length new ≡ p → file_of p (laid (n * p) new bytes) ≡ with_page (n ∷ []) new (file_of p bytes)
file_written p n new bytes h j = ap pages_are (fun_ext each)
  where
    pages_are : (List ℕ → Option (List ℕ)) → Meaning
    pages_are f = record { size = p; is_open = true; pages = f }

    each : (k : List ℕ) → file_pages p (laid (n * p) new bytes) k ≡ paged (n ∷ []) new (file_pages p bytes) k
    each [] = refl
    each (i ∷ []) = page-laid p n i new bytes h j
    each (i ∷ (k ∷ more)) = off (eqb n i)
      where
        off : (b : Bool) → None ≡ cond (b && false) (Some new) None
        off true = refl
        off false = refl
