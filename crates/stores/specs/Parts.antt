-- Bytes that hold one page after another.
--   part_of   the n-th part of p bytes, counted from 0
--   laid     some bytes laid on others from an offset
use Rattle.std.specs.Prelude.{ℕ, ◌+◌, ◌*◌, List, ◌++◌, length, take, drop}

abbrev pub part_of : ℕ → List ℕ → ℕ → List ℕ
part_of p bytes n = take p (drop (n * p) bytes)

abbrev pub laid : ℕ → List ℕ → List ℕ → List ℕ
laid offset new old = take offset old ++ (new ++ drop (offset + length new) old)
