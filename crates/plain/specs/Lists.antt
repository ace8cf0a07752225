-- Looking through a list of entries, by a question of the machine's.
--   place   the index of the first entry that passes, if there is one
--   tally   how many entries pass
--   Found   that this entry is the one, and stands at this place
use Rattle.std.specs.Prelude.{◌≡◌, ℕ, Bool, List, Some, Option, count_by, position, slice_index_or}
use Rattle.machine.specs.Entry as model
use Rattle.records.specs.declared.entry.Entry.{Entry}
use Rattle.records.specs.Reading.{entry_of}

abbrev pub place : {K : Type 0} → (K → List ℕ) → (model.Entry → Bool) → List (Entry K) → Option ℕ
place meaning p es = position (λ e. p (entry_of meaning e)) es

abbrev pub tally : {K : Type 0} → (K → List ℕ) → (model.Entry → Bool) → List (Entry K) → ℕ
tally meaning p es = count_by (λ e. p (entry_of meaning e)) es

pub record Found {K : Type 0} (meaning : K → List ℕ) (p : model.Entry → Bool) (es : List (Entry K)) (at : ℕ) (e : Entry K) : Type 0 where
  pub first : place meaning p es ≡ Some at
  pub it : e ≡ slice_index_or es at e
