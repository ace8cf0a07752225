-- What a fault begins with.
--   Away          that a key is not resident
--   recalled_if    the state in which a fault looks for a frame
use Rattle.std.specs.Prelude.{◌≡◌, ℕ, Bool, cond, List, Some, None}
use Rattle.machine.specs.Entry as model
use Rattle.machine.specs.Hands.{Machine}
use Rattle.machine.specs.Borrow as rules

abbrev pub Away : List ℕ → Machine → Type 0
Away k s = (e : model.Entry) → model.first (model.named k) s.ring ≡ Some e → e.frame ≡ None

abbrev pub recalled_if : ℕ → List ℕ → Bool → Machine → Machine
recalled_if m k b s = cond b (rules.recalled m k s) s
