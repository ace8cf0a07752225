-- What a bundle's sections hold.
--   Found, found      the row that lists a delivery, and how many pages stand before its own
--   page_number        the place of page q of a delivery among all pages
--   sections_of        the meaning of the two sections as a store
--   bundle_of          the meaning of a bundle, a list of bytes
use Rattle.std.specs.Prelude.{ℕ, ◌+◌, false, cond, List, [], ◌∷◌, Some, None, Option, ◌==◌, nat_lt}
use Rattle.std.specs.Option.{option_map}
use Rattle.stores.specs.Meaning.{Meaning}
use Rattle.stores.specs.Parts.{part_of}
use Rattle.bundles.specs.Format.{Row, rows_in, count_of_rows, rows_part, pages_part}

pub record Found : Type 0 where
  pub before : ℕ
  pub row : Row

-- the search begins after a number of pages
abbrev pub found : ℕ → ℕ → List Row → Option Found
found d before [] = None
found d before (r ∷ rows) =
    cond (r.delivery == d) (Some (record { before = before; row = r })) (found d (before + r.pages) rows)

-- Page q of the delivery is held if the row has a page count above q.
abbrev pub number_in : ℕ → Option Found → Option ℕ
number_in q None = None
number_in q (Some x) = cond (nat_lt q x.row.pages) (Some (x.before + q)) None

abbrev pub page_number : ℕ → ℕ → List Row → Option ℕ
page_number d q rows = number_in q (found d 0 rows)

-- The pages stand one after the other; a key is a delivery and a page.
abbrev pub section_pages : ℕ → List Row → List ℕ → List ℕ → Option (List ℕ)
section_pages p rows pages [] = None
section_pages p rows pages (d ∷ []) = None
section_pages p rows pages (d ∷ (q ∷ [])) = option_map (part_of p pages) (page_number d q rows)
section_pages p rows pages (d ∷ (q ∷ (x ∷ more))) = None

abbrev pub sections_of : ℕ → List Row → List ℕ → Meaning
sections_of p rows pages = record { size = p; is_open = false; pages = section_pages p rows pages }

abbrev pub bundle_of : ℕ → List ℕ → Meaning
bundle_of p bytes = sections_of p (rows_in (rows_part bytes) (count_of_rows bytes)) (pages_part bytes)
