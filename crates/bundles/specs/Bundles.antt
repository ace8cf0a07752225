-- How the values of the code are read.
--   listed_by, meant_by    the rows of a bundle that was opened, and its meaning as a store
--   Opened               what opening a bundle gives
--   unit_of, unit_word      the unit of amounts, by its number in a row; how it is written
--   Listing, listed, listing_of   what a row lists, from the format and from the code
--   unit_number, row_of, place_of   a unit, a delivery, and a delivery with its place, as the format has them
--   rows_left              the rows of the deliveries that are still to come
--   UnitGives, RowGives     what a unit's number and a row's bytes are read as
--   unit_in, pages_of, unlisted   the unit and the page count of a delivery, if a row lists it, and the refusal if none does
use Rattle.std.specs.Prelude.{◌≡◌, ℕ, ◌≤◌, true, false, cond, List, is_some, Some, None, Ok, Err, Option, Result, codes, ◌==◌}
use Rattle.std.specs.List.{flat_map}
use Rattle.std.specs.Option.{option_map}
use Rattle.stores.specs.Meaning.{Meaning}
use Rattle.stores.specs.declared.faults.StoreFault.{StoreFault}
use Rattle.stores.specs.declared.faults.StoreFault.TheVariants.{Row as RowFault}
use Rattle.bundles.specs.Format.{Row, row_from, rows_from, rows_of, rows_part, pages_part, fit_row}
use Rattle.bundles.specs.Contents.{Found, found, sections_of, bundle_of}
use Rattle.bundles.specs.declared.bundle.Bundle.{Bundle}
use Rattle.bundles.specs.declared.rows.AmountUnit.{AmountUnit}
use Rattle.bundles.specs.declared.rows.AmountUnit.TheVariants.{Whole, Thousands}
use Rattle.bundles.specs.declared.rows.Delivery.{Delivery}
use Rattle.bundles.specs.declared.reading.Place.{Place}
use Rattle.bundles.specs.declared.bundle.Deliveries.{Deliveries}

abbrev pub listed_by : Bundle → List Row
listed_by b = rows_from b.rows.now

abbrev pub meant_by : Bundle → Meaning
meant_by b = sections_of b.page_size (listed_by b) b.pages.now

-- The bundle has the rows and the pages that the bytes place, and holds its two sections as parts of them.
pub record Opened (p : ℕ) (bytes : List ℕ) (b : Bundle) : Type 0 where
  pub meaning : meant_by b ≡ bundle_of p bytes
  pub rows : listed_by b ≡ rows_of bytes
  pub one : flat_map (λ row. row) b.rows.now ≡ rows_part bytes
  pub two : b.pages.now ≡ pages_part bytes

abbrev pub unit_of : ℕ → AmountUnit
unit_of n = cond (n == 0) Whole Thousands

-- what a row lists, and a delivery as the code has it
pub record Listing : Type 0 where
  pub number : ℕ
  pub unit : AmountUnit
  pub pages : ℕ

abbrev pub listed : Row → Listing
listed r = record { number = r.delivery; unit = unit_of r.unit; pages = r.pages }

abbrev pub listing_of : Delivery → Listing
listing_of d = record { number = d.number.0; unit = d.unit; pages = d.pages }

-- how a unit is written
abbrev pub unit_word : AmountUnit → List ℕ
unit_word Whole = codes "whole"
unit_word Thousands = codes "thousands"

abbrev pub unit_number : AmountUnit → ℕ
unit_number Whole = 0
unit_number Thousands = 1

abbrev pub row_of : Delivery → Row
row_of d = record { delivery = d.number.0; unit = unit_number d.unit; pages = d.pages }

abbrev pub place_of : Place → Found
place_of x = record { before = x.before; row = row_of x.delivery }

-- the rows of the deliveries that are still to come
abbrev pub rows_left : Deliveries → List Row
rows_left s = rows_from s.rows.now

-- what the number of a unit is read as
abbrev pub UnitGives : ℕ → Result AmountUnit StoreFault → Type 0
UnitGives n (Ok u) = n ≡ unit_number u
UnitGives n (Err f) = (2 ≤ n) × (f ≡ RowFault)

-- what seven bytes are read as
abbrev pub RowGives : List ℕ → Result Delivery StoreFault → Type 0
RowGives seven (Ok d) = (fit_row (row_from seven) ≡ true) × (row_of d ≡ row_from seven)
RowGives seven (Err f) = (fit_row (row_from seven) ≡ false) × (f ≡ RowFault)

abbrev pub unit_in : ℕ → List Row → Option AmountUnit
unit_in d rows = option_map (λ x. unit_of x.row.unit) (found d 0 rows)

abbrev pub pages_of : ℕ → List Row → Option ℕ
pages_of d rows = option_map (λ x. x.row.pages) (found d 0 rows)

-- Does a row list the delivery? 9.
abbrev pub unlisted : ℕ → List Row → Option ℕ
unlisted d rows = cond (is_some (found d 0 rows)) None (Some 9)
