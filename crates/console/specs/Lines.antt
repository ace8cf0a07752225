-- What the program prints, as bytes.
--   refusal_line    the line of a refusal
--   delivery_line   the line of a delivery
--   listing        the lines of a bundle
--   Described      what is printed of bytes that may be a bundle
--   hexed          bytes as pairs of hexadecimal digits
--   page_text       what is printed of a key's page
use Rattle.std.specs.Prelude.{◌≡◌, ℕ, ◌/◌, ◌%◌, false, cond, List, [], ◌∷◌, ◌++◌, Some, None, codes, decimal}
use Rattle.std.specs.Fmt.{digit_glyph}
use Rattle.stores.specs.Faults.{number, reason}
use Rattle.stores.specs.Meaning.{Meaning, held, page_of}
use Rattle.stores.specs.declared.faults.StoreFault.{StoreFault}
use Rattle.stores.specs.declared.faults.StoreFault.TheVariants.{NotHeld}
use Rattle.bundles.specs.Format.{Row, rows_of, pages_in, bundle_refusal}
use Rattle.bundles.specs.Bundles.{unit_of, unit_word}
use Rattle.bundles.specs.declared.rows.AmountUnit.{AmountUnit}

-- refused 7 by store: the pages are not exactly those that the rows count
abbrev pub refusal_line : StoreFault → List ℕ
refusal_line f = codes "refused " ++ (decimal (number f) ++ (codes " by store: " ++ reason f))

-- delivery 7, thousands, 2 pages
abbrev pub delivery_line : ℕ → AmountUnit → ℕ → List ℕ
delivery_line d unit n = codes "delivery " ++ (decimal d ++ (codes ", " ++ (unit_word unit ++ (codes ", " ++ (decimal n ++ codes " pages")))))

abbrev pub row_lines : List Row → List ℕ
row_lines [] = []
row_lines (r ∷ rows) = (delivery_line r.delivery (unit_of r.unit) r.pages ++ codes "\n") ++ row_lines rows

-- a line for each row, and then how many pages of how many bytes there are
abbrev pub listing : ℕ → List Row → List ℕ
listing p rows = row_lines rows ++ (decimal (pages_in rows) ++ (codes " pages of " ++ (decimal p ++ codes " bytes\n")))

pub data Described (p : ℕ) (bytes : List ℕ) : List ℕ → Type 0 where
  lists : bundle_refusal p bytes ≡ None → Described p bytes (listing p (rows_of bytes))
  refuses : (f : StoreFault) → bundle_refusal p bytes ≡ Some (number f) → Described p bytes (refusal_line f ++ codes "\n")

abbrev pub hexed : List ℕ → List ℕ
hexed [] = []
hexed (b ∷ bytes) = digit_glyph false (b / 16) ∷ (digit_glyph false (b % 16) ∷ hexed bytes)

-- what is printed of a key's page: the page, or the refusal if the store does not hold the key
abbrev pub page_text : Meaning → List ℕ → List ℕ
page_text m k = cond (held m k) (hexed (page_of m k)) (refusal_line NotHeld)
