-- The rows of section one, cut into seven bytes each, are the rows of the format.
use Rattle.std.proofs.Common.{◌≡◌, ℕ, zero, suc, ◌+◌, ◌-◌, ◌*◌, ◌<◌, ◌≤◌, ◌/◌, true, ◌&&◌, leb, List, [], ◌∷◌, ◌++◌, map, length, get_or, take, drop, refl, ap, ◌∙◌, ap₂, arith}
use Rattle.std.specs.List.{range_with_len, flat_map}
use Rattle.std.specs.Simd.{first_chunks}
use Rattle.std.proofs.lemmas.List.{get_or-take, get_or-drop, drop-drop, length-drop, take-append-drop}
use Rattle.std.proofs.lemmas.Slice.{between_to_end}
use Rattle.std.proofs.lemmas.Bool.{and_from, le-leb}
use Rattle.bundles.specs.Format.{Row, two, four, row_at, row_from, rows_from, rows_in, rows_of, rows_part, pages_part, count_of_rows, have_rows}

-- the i-th row by itself
row_here : (part : List ℕ) (i : ℕ) → row_from (take 7 (drop (7 * i) part)) ≡ row_at part i
row_here part i = λ t. record { delivery = two_is 0 (7 * i) (omega arith) (omega arith) t; unit = at 2 (7 * i + 2) (omega arith) (omega arith) t; pages = four_is t }
  where
    at : (j m : ℕ) → j < 7 → 7 * i + j ≡ m → get_or (take 7 (drop (7 * i) part)) j 0 ≡ get_or part m 0
    at j m h e = get_or-take 7 (drop (7 * i) part) j 0 h ∙ get_or-drop (7 * i) part j 0 ∙ ap (λ k. get_or part k 0) e

    two_is : (j m : ℕ) → j + 1 < 7 → 7 * i + j ≡ m → two (take 7 (drop (7 * i) part)) j ≡ two part m
    two_is j m h e = ap₂ (λ a b. a + 256 * b) (at j m (omega arith) e) (at (j + 1) (m + 1) h (omega arith))

    four_is : four (take 7 (drop (7 * i) part)) 3 ≡ four part (7 * i + 3)
    four_is = ap₂ (λ a b. a + 65536 * b) (two_is 3 (7 * i + 3) (omega arith) (omega arith)) (two_is 5 (7 * i + 3 + 2) (omega arith) (omega arith))

rows_between : (part : List ℕ) (n i : ℕ) → rows_from (first_chunks 7 n (drop (7 * i) part)) ≡ map (row_at part) (range_with_len i n)
rows_between part zero i = refl
rows_between part (suc n) i =
    let e : 7 + 7 * i ≡ 7 * (i + 1) = omega arith in
    let d : drop 7 (drop (7 * i) part) ≡ drop (7 * (i + 1)) part = drop-drop 7 (7 * i) part ∙ ap (λ k. drop k part) (omega arith) in
    ap₂ (λ (r : Row) rows. r ∷ rows) (row_here part i) (ap (λ u. rows_from (first_chunks 7 n u)) d ∙ rows_between part n (i + 1))

pub chunk_rows : (part : List ℕ) (n : ℕ) → rows_from (first_chunks 7 n part) ≡ rows_in part n
chunk_rows part n = rows_between part n 0

-- and they are all of its bytes
pub chunk_bytes : (part : List ℕ) (n : ℕ) → length part ≡ 7 * n → flat_map (λ row. row) (first_chunks 7 n part) ≡ part
chunk_bytes [] zero h = refl
chunk_bytes (x ∷ part) zero h = absurd (omega arith)
chunk_bytes part (suc n) h =
    ap (λ u. take 7 part ++ u) (chunk_bytes (drop 7 part) n (length-drop 7 part ∙ omega arith)) ∙ take-append-drop 7 part

-- section one, split from the bytes after it
pub rows_split : (bytes count rest rows after : List ℕ) (rs : List (List ℕ)) (n : ℕ) → count ≡ take 2 bytes → rest ≡ drop 2 bytes → length rest + 2 ≡ length bytes →
    n ≡ get_or count 0 0 + get_or count 1 0 * 256 → n ≤ 256 → 7 * n ≤ length rest → rows ≡ take (7 * n) rest → length rows ≡ 7 * n → after ≡ drop (7 * n) rest →
    rs ≡ first_chunks 7 (length rows / 7) rows → length rs ≡ length rows / 7 →
    (have_rows bytes ≡ true) × (rows_from rs ≡ rows_of bytes) × (flat_map (λ row. row) rs ≡ rows_part bytes) × (length rs ≤ 256) × (after ≡ drop (2 + 7 * count_of_rows bytes) bytes)
rows_split bytes count rest rows after rs n a b l e few fit r w t f g =
    let d = count_of_rows bytes in
    let zero_at : get_or count 0 0 ≡ get_or bytes 0 0 = ap (λ u. get_or u 0 0) a ∙ get_or-take 2 bytes 0 0 (omega arith) in
    let one_at : get_or count 1 0 ≡ get_or bytes 1 0 = ap (λ u. get_or u 1 0) a ∙ get_or-take 2 bytes 1 0 (omega arith) in
    let is : n ≡ d = omega arith in
    let cut : length rows / 7 ≡ n = omega arith in
    let part : rows ≡ rows_part bytes = r ∙ ap₂ (λ k u. take (7 * k) u) is b in (
      and_from (leb 2 (length bytes)) (leb d 256 && leb (2 + 7 * d) (length bytes)) (le-leb 2 (length bytes) (omega arith))
          (and_from (leb d 256) (leb (2 + 7 * d) (length bytes)) (le-leb d 256 (omega arith)) (le-leb (2 + 7 * d) (length bytes) (omega arith))),
      ap rows_from f ∙ ap₂ (λ k u. rows_from (first_chunks 7 k u)) (cut ∙ is) part ∙ chunk_rows (rows_part bytes) d,
      ap (flat_map (λ row. row)) f ∙ chunk_bytes rows (length rows / 7) (omega arith) ∙ part,
      omega arith,
      t ∙ ap₂ (λ k u. drop (7 * k) u) is b ∙ drop-drop (7 * d) 2 bytes,
    )

-- the pages, after their count
pub pages_rest : (bytes rest : List ℕ) → rest ≡ drop (2 + 7 * count_of_rows bytes) bytes → take (length rest - 4) (drop 4 rest) ≡ pages_part bytes
pages_rest bytes rest e =
    let n = 2 + 7 * count_of_rows bytes in
    between_to_end rest 4 (length rest) (omega arith) ∙ ap (drop 4) e ∙ drop-drop 4 n bytes ∙ ap (λ k. drop k bytes) (omega arith)
