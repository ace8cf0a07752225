-- Laying bytes on bytes that hold one page after another, and reading a page of them back.
use Rattle.std.proofs.Common.{◌≡◌, ℕ, ◌+◌, ◌-◌, ◌*◌, ◌<◌, ◌≤◌, false, eqb, ◌⊎◌, List, [], ◌++◌, length, take, drop, sym, refl, ap, ◌∙◌, subst, ap₂, inl, inr, add-mul, one-mul, arith}
use lib.Seq.{take-append-add, drop-append-add}
use Rattle.std.proofs.lemmas.List.{length-take, length-drop, length-append, take-take, take-append-le, drop-append-le, drop-drop, drop-take, drop_all, take_all, append-nil}
use Rattle.std.proofs.lemmas.Nat.{mul-le}
use Rattle.std.proofs.lemmas.Bool.{eqb-false, cases_order}
use Rattle.stores.specs.Parts.{part_of, laid}

-- a frame lies wholly before the next
pub row : (g f p : ℕ) → g < f → g * p + p ≤ f * p
row g f p h =
    let a : (g + 1) * p ≤ f * p = mul-le (g + 1) p f p (omega arith) (omega arith) in
    let b : (g + 1) * p ≡ g * p + p = add-mul g 1 p ∙ ap (λ x. g * p + x) (one-mul p) in
    omega arith

pub length-laid : (o : ℕ) (new old : List ℕ) → o + length new ≤ length old → length (laid o new old) ≡ length old
length-laid o new old h = simp (length-append, length-take, length-drop) (omega arith)

take_past : (xs ys : List ℕ) (n k : ℕ) → length xs ≡ n → take (n + k) (xs ++ ys) ≡ xs ++ take k ys
take_past xs ys n k h = subst (λ x. take (x + k) (xs ++ ys) ≡ xs ++ take k ys) h (take-append-add xs ys k)

drop_past : (xs ys : List ℕ) (n k : ℕ) → length xs ≡ n → drop (n + k) (xs ++ ys) ≡ drop k ys
drop_past xs ys n k h = subst (λ x. drop (x + k) (xs ++ ys) ≡ drop k ys) h (drop-append-add xs ys k)

-- the part that is laid on, seen from its own beginning b
pub part_here : (p b o : ℕ) (new bytes : List ℕ) → o + length new ≤ p → b + p ≤ length bytes →
    take p (drop b (laid (b + o) new bytes)) ≡ laid o new (take p (drop b bytes))
part_here p b o new bytes h j =
    let n = length new in
    let y = drop b bytes in
    let q = p - (o + n) in
    let ly : length y ≡ length bytes - b = length-drop b bytes in
    let l1 : length (take (b + o) bytes) ≡ b + o = length-take (b + o) bytes ∙ omega arith in
    let a1 : drop b (laid (b + o) new bytes) ≡ drop b (take (b + o) bytes) ++ (new ++ drop ((b + o) + n) bytes) = drop-append-le b (take (b + o) bytes) (new ++ drop ((b + o) + n) bytes) (omega arith) in
    let a2 : drop b (take (b + o) bytes) ≡ take o y = drop-take b o bytes in
    let e0 : (b + o) + n ≡ b + (o + n) = omega arith in
    let a3 : drop ((b + o) + n) bytes ≡ drop (o + n) y = ap (λ x. drop x bytes) e0 ∙ sym (drop-drop (o + n) b bytes) in
    let a4 : drop b (laid (b + o) new bytes) ≡ take o y ++ (new ++ drop (o + n) y) = a1 ∙ ap₂ (λ u v. u ++ (new ++ v)) a2 a3 in
    let l2 : length (take o y) ≡ o = length-take o y ∙ omega arith in
    let e1 : p ≡ o + (n + q) = omega arith in
    let e2 : p ≡ (o + n) + q = omega arith in
    let b1 : take p (take o y ++ (new ++ drop (o + n) y)) ≡ take o y ++ take (n + q) (new ++ drop (o + n) y) =
    ap (λ x. take x (take o y ++ (new ++ drop (o + n) y))) e1 ∙ take_past (take o y) (new ++ drop (o + n) y) o (n + q) l2 in
    let b2 : take (n + q) (new ++ drop (o + n) y) ≡ new ++ take q (drop (o + n) y) = take_past new (drop (o + n) y) n q refl in
    let c1 : take o (take p y) ≡ take o y = take-take o p y (omega arith) in
    let c2 : drop (o + n) (take p y) ≡ take q (drop (o + n) y) = ap (λ x. drop (o + n) (take x y)) e2 ∙ drop-take (o + n) q y in
    ap (take p) a4 ∙ b1 ∙ ap (λ u. take o y ++ u) b2 ∙ sym (ap₂ (λ u v. u ++ (new ++ v)) c1 c2)

pub part_before : (p b x : ℕ) (new bytes : List ℕ) → b + p ≤ x → x ≤ length bytes → take p (drop b (laid x new bytes)) ≡ take p (drop b bytes)
part_before p b x new bytes h j =
    let q = x - b in
    let e : x ≡ b + q = omega arith in
    let l1 : length (take x bytes) ≡ x = length-take x bytes ∙ omega arith in
    let a1 : drop b (laid x new bytes) ≡ drop b (take x bytes) ++ (new ++ drop (x + length new) bytes) = drop-append-le b (take x bytes) (new ++ drop (x + length new) bytes) (omega arith) in
    let a2 : drop b (take x bytes) ≡ take q (drop b bytes) = ap (λ u. drop b (take u bytes)) e ∙ drop-take b q bytes in
    let l2 : length (drop b (take x bytes)) ≡ x - b = length-drop b (take x bytes) ∙ omega arith in
    ap (take p) a1 ∙ take-append-le p (drop b (take x bytes)) (new ++ drop (x + length new) bytes) (omega arith) ∙ ap (take p) a2 ∙ take-take p q (drop b bytes) (omega arith)

pub part_after : (b x : ℕ) (new bytes : List ℕ) → x + length new ≤ b → x + length new ≤ length bytes → drop b (laid x new bytes) ≡ drop b bytes
part_after b x new bytes h j =
    let n = length new in
    let q = b - (x + n) in
    let e : b ≡ x + (n + q) = omega arith in
    let e2 : (x + n) + q ≡ b = omega arith in
    let l1 : length (take x bytes) ≡ x = length-take x bytes ∙ omega arith in
    ap (λ u. drop u (laid x new bytes)) e ∙ drop_past (take x bytes) (new ++ drop (x + n) bytes) x (n + q) l1 ∙ drop_past new (drop (x + n) bytes) n q refl
    ∙ drop-drop q (x + n) bytes ∙ ap (λ u. drop u bytes) e2

-- BY FRAMES. There are m frames of p bytes; frame f is one of them.

pub part_same : (m p f o : ℕ) (new bytes : List ℕ) → f < m → length bytes ≡ m * p → o + length new ≤ p →
    part_of p (laid (f * p + o) new bytes) f ≡ laid o new (part_of p bytes f)
part_same m p f o new bytes h j i = let r = row f m p h in part_here p (f * p) o new bytes i (omega arith)

pub part_other : (m p f o g : ℕ) (new bytes : List ℕ) → f < m → length bytes ≡ m * p → o + length new ≤ p → eqb f g ≡ false →
    part_of p (laid (f * p + o) new bytes) g ≡ part_of p bytes g
part_other m p f o g new bytes h j i d = go (cases_order f g)
  where
    go : (f ≡ g) ⊎ ((f < g) ⊎ (g < f)) → part_of p (laid (f * p + o) new bytes) g ≡ part_of p bytes g
    go (inl e) = absurd (eqb-false f g d e)
    go (inr (inl l)) = let r = row f m p h in let r2 = row f g p l in ap (take p) (part_after (g * p) (f * p + o) new bytes (omega arith) (omega arith))
    go (inr (inr l)) = let r = row f m p h in let r2 = row g f p l in part_before p (g * p) (f * p + o) new bytes (omega arith) (omega arith)

pub laid_fits : (m p f o : ℕ) (new bytes : List ℕ) → f < m → length bytes ≡ m * p → o + length new ≤ p → length (laid (f * p + o) new bytes) ≡ m * p
laid_fits m p f o new bytes h j i = let r = row f m p h in length-laid (f * p + o) new bytes (omega arith) ∙ j

pub part_length : (m p f : ℕ) (bytes : List ℕ) → f < m → length bytes ≡ m * p → length (part_of p bytes f) ≡ p
part_length m p f bytes h j = let r = row f m p h in simp (length-take, length-drop) (omega arith)

-- a whole page laid on a page is that page
pub laid_whole : (new old : List ℕ) → length new ≡ length old → laid 0 new old ≡ new
laid_whole new old h = let z : drop (0 + length new) old ≡ [] = drop_all (0 + length new) old (omega arith) in ap (λ u. new ++ u) z ∙ append-nil new

-- the frame is filled with a page
pub filled_same : (m p f : ℕ) (page bytes : List ℕ) → f < m → length bytes ≡ m * p → length page ≡ p → part_of p (laid (f * p) page bytes) f ≡ page
filled_same m p f page bytes h j i =
    let e : f * p + 0 ≡ f * p = omega arith in
    let a : part_of p (laid (f * p + 0) page bytes) f ≡ laid 0 page (part_of p bytes f) = part_same m p f 0 page bytes h j (omega arith) in
    let b : length (part_of p bytes f) ≡ p = part_length m p f bytes h j in
    ap (λ x. part_of p (laid x page bytes) f) (sym e) ∙ a ∙ laid_whole page (part_of p bytes f) (omega arith)

pub filled_other : (m p f g : ℕ) (page bytes : List ℕ) → f < m → length bytes ≡ m * p → length page ≡ p → eqb f g ≡ false → part_of p (laid (f * p) page bytes) g ≡ part_of p bytes g
filled_other m p f g page bytes h j i d =
    let e : f * p + 0 ≡ f * p = omega arith in
    ap (λ x. part_of p (laid x page bytes) g) (sym e) ∙ part_other m p f 0 g page bytes h j (omega arith) d

pub filled_fits : (m p f : ℕ) (page bytes : List ℕ) → f < m → length bytes ≡ m * p → length page ≡ p → length (laid (f * p) page bytes) ≡ m * p
filled_fits m p f page bytes h j i =
    let e : f * p + 0 ≡ f * p = omega arith in
    ap (λ x. length (laid x page bytes)) (sym e) ∙ laid_fits m p f 0 page bytes h j (omega arith)

-- a vector that is filled with as many elements has these
pub refills : (xs ys : List ℕ) (n : ℕ) → length ys ≡ n → length xs ≡ n → take n (ys ++ drop (length ys) xs) ≡ ys
refills xs ys n h j =
    let d : drop (length ys) xs ≡ [] = drop_all (length ys) xs (omega arith) in
    ap (λ x. take n (ys ++ x)) d ∙ ap (take n) (append-nil ys) ∙ take_all n ys (omega arith)
