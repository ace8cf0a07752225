-- The loops that print: each turn adds the text of one byte or of one row.
use Rattle.std.proofs.Common.{◌≡◌, ℕ, zero, suc, ◌+◌, ◌/◌, ◌%◌, ◌<◌, false, List, [], ◌∷◌, ◌++◌, length, get_or, take, codes, sym, refl, ap, ◌∙◌, append_assoc, le_of_suc-le-suc, not-suc-le-zero, add-one}
use Rattle.std.specs.Fmt.{digit_glyph}
use Rattle.bundles.specs.Format.{Row}
use Rattle.bundles.specs.Bundles.{unit_of, unit_number, row_of}
use Rattle.bundles.specs.declared.rows.AmountUnit.{AmountUnit}
use Rattle.bundles.specs.declared.rows.AmountUnit.TheVariants.{Whole, Thousands}
use Rattle.bundles.specs.declared.rows.Delivery.{Delivery}
use Rattle.console.specs.Lines.{delivery_line, row_lines, hexed}

unit_again : (u : AmountUnit) → unit_of (unit_number u) ≡ u
unit_again Whole = refl
unit_again Thousands = refl

-- the text so far, and the lines of the deliveries that are still to come
pub record Lists (rows : List Row) (text : List ℕ) (left : List Row) : Type 0 where
  pub whole : text ++ row_lines left ≡ row_lines rows

-- one more delivery written
pub lines_more : (rows : List Row) (text : List ℕ) (left rest : List Row) (d : Delivery) → Lists rows text left → left ≡ row_of d ∷ rest → Lists rows (text ++ (delivery_line d.number.0 d.unit d.pages ++ codes "\n")) rest
lines_more rows text left rest d x e =
    let line = delivery_line d.number.0 d.unit d.pages ++ codes "\n" in
    record {
      whole = append_assoc text line (row_lines rest)
          ∙ ap (λ u. text ++ ((delivery_line d.number.0 u d.pages ++ codes "\n") ++ row_lines rest)) (sym (unit_again d.unit))
          ∙ ap (λ r. text ++ row_lines r) (sym e) ∙ x.whole;
    }

hex_pushed : (bytes : List ℕ) (i : ℕ) → i < length bytes → hexed (take (suc i) bytes) ≡ hexed (take i bytes) ++ (digit_glyph false (get_or bytes i 0 / 16) ∷ (digit_glyph false (get_or bytes i 0 % 16) ∷ []))
hex_pushed [] i h = absurd (not-suc-le-zero h)
hex_pushed (b ∷ bytes) zero h = refl
hex_pushed (b ∷ bytes) (suc i) h = ap (λ t. digit_glyph false (b / 16) ∷ (digit_glyph false (b % 16) ∷ t)) (hex_pushed bytes i (le_of_suc-le-suc h))

-- what is written of the bytes before, and the two digits of the next
pub hex_more : (bytes : List ℕ) (i : ℕ) → i < length bytes → hexed (take (i + 1) bytes) ≡ (hexed (take i bytes) ++ (digit_glyph false (get_or bytes i 0 / 16) ∷ [])) ++ (digit_glyph false (get_or bytes i 0 % 16) ∷ [])
hex_more bytes i h = ap (λ k. hexed (take k bytes)) (add-one i) ∙ hex_pushed bytes i h ∙ sym (append_assoc (hexed (take i bytes)) (digit_glyph false (get_or bytes i 0 / 16) ∷ []) (digit_glyph false (get_or bytes i 0 % 16) ∷ []))
