-- The format of a bundle: a list of bytes in two sections, each after its count, all numbers little-endian.
-- Section one: a 16-bit count D, then D rows of seven bytes. Section two: a 32-bit count N, then N pages, those of the
-- first row's delivery first, and no byte after.
--   two, four              the number of two or of four bytes that begins at a place
--   Row, row_at, rows_in     a row; the i-th row of section one; its first n rows
--   row_from, rows_from     a row of seven bytes by itself, and rows so
--   count_of_rows, rows_part     D; the bytes of the rows
--   count_of_pages, pages_part   N; the bytes of the pages
--   listed_in, good_rows, pages_in   whether rows list a delivery; whether rows are as they must be; the sum of their page counts
--   fit_row               the questions of a row by itself
--   have_rows, have_pages, pages_follow    the questions of the sections, without those of the rows
--   bundle_refusal          the questions of opening a bundle, in their order
use Rattle.std.specs.Prelude.{ℕ, ◌+◌, ◌*◌, Bool, true, false, cond, not, ◌&&◌, ◌||◌, List, [], ◌∷◌, ◌++◌, map, length, take, drop, Some, None, Option, ◌==◌, nat_le, slice_index}
use Rattle.std.specs.List.{range_with_len}

abbrev pub two : List ℕ → ℕ → ℕ
two bytes at = slice_index bytes at + 256 * slice_index bytes (at + 1)

abbrev pub four : List ℕ → ℕ → ℕ
four bytes at = two bytes at + 65536 * two bytes (at + 2)

-- SECTION ONE

-- A row: a delivery, the unit of its amounts (0 whole currency, 1 thousands), and how many pages it has.
pub record Row : Type 0 where
  pub delivery : ℕ
  pub unit : ℕ
  pub pages : ℕ

-- the i-th row, of seven bytes
abbrev pub row_at : List ℕ → ℕ → Row
row_at part i = record { delivery = two part (7 * i); unit = slice_index part (7 * i + 2); pages = four part (7 * i + 3) }

abbrev pub rows_in : List ℕ → ℕ → List Row
rows_in part n = map (row_at part) (range_with_len 0 n)

-- a row of seven bytes by itself, and rows so
abbrev pub row_from : List ℕ → Row
row_from seven = row_at seven 0

abbrev pub rows_from : List (List ℕ) → List Row
rows_from rows = map row_from rows

abbrev pub count_of_rows : List ℕ → ℕ
count_of_rows bytes = two bytes 0

abbrev pub rows_part : List ℕ → List ℕ
rows_part bytes = take (7 * count_of_rows bytes) (drop 2 bytes)

abbrev pub rows_of : List ℕ → List Row
rows_of bytes = rows_in (rows_part bytes) (count_of_rows bytes)

-- Are count and rows there, with at most 256 rows?
abbrev pub have_rows : List ℕ → Bool
have_rows bytes = nat_le 2 (length bytes) && (nat_le (count_of_rows bytes) 256 && nat_le (2 + 7 * count_of_rows bytes) (length bytes))

-- whether one of the rows lists the delivery
abbrev pub listed_in : ℕ → List Row → Bool
listed_in d [] = false
listed_in d (r ∷ rows) = r.delivery == d || listed_in d rows

-- the questions of a row by itself
abbrev pub fit_row : Row → Bool
fit_row r = nat_le r.unit 1 && nat_le r.pages 1048576

-- Has a row unit 0 or 1, at most 1,048,576 pages, and a delivery that no row before it lists?
abbrev pub good_row : List Row → Row → Bool
good_row before r = nat_le r.unit 1 && (nat_le r.pages 1048576 && not (listed_in r.delivery before))

-- each row is so, after the rows before it
abbrev pub good_after : List Row → List Row → Bool
good_after before [] = true
good_after before (r ∷ rows) = good_row before r && good_after (before ++ (r ∷ [])) rows

abbrev pub good_rows : List Row → Bool
good_rows rows = good_after [] rows

-- the sum of the page counts
abbrev pub pages_in : List Row → ℕ
pages_in [] = 0
pages_in (r ∷ rows) = r.pages + pages_in rows

-- SECTION TWO

abbrev pub count_of_pages : List ℕ → ℕ
count_of_pages bytes = four bytes (2 + 7 * count_of_rows bytes)

abbrev pub pages_part : List ℕ → List ℕ
pages_part bytes = drop (6 + 7 * count_of_rows bytes) bytes

-- Is the count there, is it the sum of the page counts, and do exactly its pages of p bytes follow?
abbrev pub have_pages : ℕ → List ℕ → Bool
have_pages p bytes =
    nat_le (6 + 7 * count_of_rows bytes) (length bytes)
    && (count_of_pages bytes == pages_in (rows_of bytes) && length bytes == 6 + 7 * count_of_rows bytes + count_of_pages bytes * p)

-- the same of a sum and the bytes after the rows
abbrev pub pages_follow : ℕ → ℕ → List ℕ → Bool
pages_follow p sum rest = nat_le 4 (length rest) && (four rest 0 == sum && length rest == 4 + sum * p)

-- OPENING

-- Is the page size p from 1 to 4,096? 1. Is section one there? 5. Is each row as it must be? 6. Is section two there? 7.
abbrev pub bundle_refusal : ℕ → List ℕ → Option ℕ
bundle_refusal p bytes =
    cond (nat_le 1 p && nat_le p 4096)
    (cond (have_rows bytes) (cond (good_rows (rows_of bytes)) (cond (have_pages p bytes) None (Some 7)) (Some 6)) (Some 5))
    (Some 1)
