use Rattle.std.specs.Prelude.{◌≡◌, ℕ, ◌+◌, ◌*◌, List, slice_index}
use Rattle.plain_reader.specs.declared.PlainRow.{PlainRow}

-- the row in seven bytes: two of the delivery, one of the unit, four of the page count, the lowest first
abbrev pub IsRowOf : List ℕ → PlainRow → Type 0
IsRowOf bytes row =
    (row.delivery ≡ slice_index bytes 0 + 256 * slice_index bytes 1)
    × (row.unit ≡ slice_index bytes 2)
    × (row.pages ≡ slice_index bytes 3 + 256 * (slice_index bytes 4 + 256 * (slice_index bytes 5 + 256 * slice_index bytes 6)))
