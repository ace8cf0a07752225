-- How keys are written.
--   IsNumber, number_in               decimal digits, which a plus may lead, of a number of so many bits; that number
--   ParsesPage, ParsesDelivery        what is read as the number of a page, and as that of a delivery
--   before_slash, after_slash         the two sides of the first slash
--   IsKey, ParsesKey                  a delivery, a slash and a page; what is read as the key of a page of a delivery
use Rattle.std.specs.Prelude.{ℕ, ◌^◌, ◌<◌, ◌==◌, List, Result, Contains}
use Rattle.std.specs.List.{before_first, after_first}
use Rattle.std.specs.Result.{OkIff}
use Rattle.std.specs.Str.Parse.{IsNumeral, digits_value, without_leading_plus}
use Rattle.keys.specs.declared.PageNo.{PageNo}
use Rattle.keys.specs.declared.DeliveryNo.{DeliveryNo}
use Rattle.keys.specs.declared.DeliveryKey.{DeliveryKey}
use Rattle.keys.specs.declared.NotAKey.{NotAKey}

abbrev pub number_in : List ℕ → ℕ
number_in text = digits_value 10 (without_leading_plus text)

abbrev pub IsNumber : ℕ → List ℕ → Type 0
IsNumber bits text = IsNumeral 10 (without_leading_plus text) × (number_in text < 2 ^ bits)

abbrev pub ParsesPage : List ℕ → Result PageNo NotAKey → Type 0
ParsesPage text r = OkIff r (IsNumber 32 text) (record { 0 = number_in text })

abbrev pub ParsesDelivery : List ℕ → Result DeliveryNo NotAKey → Type 0
ParsesDelivery text r = OkIff r (IsNumber 16 text) (record { 0 = number_in text })

abbrev pub slash : ℕ
slash = 47

abbrev pub before_slash : List ℕ → List ℕ
before_slash text = before_first (λ b. b == slash) text

abbrev pub after_slash : List ℕ → List ℕ
after_slash text = after_first (λ b. b == slash) text

pub record IsKey (text : List ℕ) : Type 0 where
  pub has_slash : Contains text slash
  pub delivery : IsNumber 16 (before_slash text)
  pub page : IsNumber 32 (after_slash text)

abbrev pub key_in : List ℕ → DeliveryKey
key_in text = record { delivery = record { 0 = number_in (before_slash text) }; page = record { 0 = number_in (after_slash text) } }

abbrev pub ParsesKey : List ℕ → Result DeliveryKey NotAKey → Type 0
ParsesKey text r = OkIff r (IsKey text) (key_in text)
