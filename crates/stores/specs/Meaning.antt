-- What a store means, and what its calls do to that.
--   Meaning        a store's page size, its mark, and the page of each key that it holds
--   WholePages     the law of every store: each held page has P bytes
--   held, page_of   whether it holds a key; the key's page
--   with_page       the store with another page for one key, and no other change
--   read_refusal, write_refusal   the questions of a read and of a write, in their order
-- A key stands here by its meaning, a list of numbers; a page is the list of its bytes.
use Rattle.std.specs.Prelude.{◌≡◌, ℕ, Bool, cond, List, [], length, is_some, Some, None, Option, ◌==◌}
use Rattle.std.specs.Option.{unwrap_or}
use Rattle.keys.specs.Same.{same_list}

pub record Meaning : Type 0 where
  pub size : ℕ  -- P, the bytes of a page
  pub is_open : Bool  -- open, or else sealed
  pub pages : List ℕ → Option (List ℕ)  -- the page of each key that it holds

-- every page that is held has P bytes
abbrev pub WholePages : Meaning → Type 0
WholePages m = (k page : List ℕ) → m.pages k ≡ Some page → length page ≡ m.size

abbrev pub held : Meaning → List ℕ → Bool
held m k = is_some (m.pages k)

-- the page of a key that is held
abbrev pub page_of : Meaning → List ℕ → List ℕ
page_of m k = unwrap_or (m.pages k) []

-- pages by key, with another page at key k and every other as it was
abbrev pub paged : List ℕ → List ℕ → (List ℕ → Option (List ℕ)) → List ℕ → Option (List ℕ)
paged k page pages j = cond (same_list k j) (Some page) (pages j)

abbrev pub with_page : List ℕ → List ℕ → Meaning → Meaning
with_page k page m = record { size = m.size; is_open = m.is_open; pages = paged k page m.pages }

-- The questions of a read of key k into a buffer of n bytes. Is the buffer P bytes long? 15. Is the key held? 9.
abbrev pub read_refusal : Meaning → List ℕ → ℕ → Option ℕ
read_refusal m k n = cond (n == m.size) (cond (held m k) None (Some 9)) (Some 15)

-- The questions of a write: those of a read, and then: is the store open? 13.
abbrev pub write_refusal : Meaning → List ℕ → ℕ → Option ℕ
write_refusal m k n =
    cond (n == m.size) (cond (held m k) (cond m.is_open None (Some 13)) (Some 9)) (Some 15)
