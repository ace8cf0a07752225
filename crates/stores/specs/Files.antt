-- What a work file means.
--   file_refusal   the questions of opening one, in their order
--   file_of        the meaning of bytes as a work file: key n is the n-th page, counted from 0
--   meant_by       the meaning of a work file
use Rattle.std.specs.Prelude.{ℕ, ◌+◌, ◌*◌, ◌/◌, ◌%◌, true, cond, ◌&&◌, List, [], ◌∷◌, length, Some, None, vec_items, Option, ◌==◌, nat_le}
use Rattle.stores.specs.Meaning.{Meaning}
use Rattle.stores.specs.Parts.{part_of}
use Rattle.stores.specs.declared.file.WorkFile.{WorkFile}

-- Is the page size p from 1 to 4,096? 1. Are the n bytes a whole number of pages, at most 1,048,576? 8.
abbrev pub file_refusal : ℕ → ℕ → Option ℕ
file_refusal p n =
    cond (nat_le 1 p && nat_le p 4096) (cond (n % p == 0 && nat_le (n / p) 1048576) None (Some 8)) (Some 1)

-- the n-th page, if it lies within the bytes
abbrev pub file_page : ℕ → List ℕ → ℕ → Option (List ℕ)
file_page p bytes n = cond (nat_le (n * p + p) (length bytes)) (Some (part_of p bytes n)) None

-- a key of one number names the page of that number
abbrev pub file_pages : ℕ → List ℕ → List ℕ → Option (List ℕ)
file_pages p bytes [] = None
file_pages p bytes (n ∷ []) = file_page p bytes n
file_pages p bytes (n ∷ (k ∷ more)) = None

abbrev pub file_of : ℕ → List ℕ → Meaning
file_of p bytes = record { size = p; is_open = true; pages = file_pages p bytes }

abbrev pub meant_by : WorkFile → Meaning
meant_by w = file_of w.page_size (vec_items w.bytes)
