-- A chain through the cells, as the list of the cells in its order.
--   From, walk         that links lead through a list of cells; the cells that they lead through
--   Apart, Misses      that numbers differ; that a number is not among them
--   IsAmong           by a flag, that it is among them or not
--   without            the list without a number
--   Chained            that links go round a list of cells
--   order_of, Sound     the cells of a chain, from tail to head; that its links go round them
use Rattle.std.specs.Prelude.{◌≡◌, ℕ, Bool, MatchBool, zero, suc, ◌<◌, cond, ◌≢◌, List, [], ◌∷◌, length, Some, None, Option, ◌==◌}
use Rattle.std.specs.List.{AllByRecursion, ContainsAt}
use Rattle.chains.specs.Cells.{next_of, prev_of}
use Rattle.chains.specs.declared.cell.Cell.{Cell}
use Rattle.chains.specs.declared.cell.Chain.{Chain}
use Rattle.chains.specs.declared.ends.Ends.{Ends}

-- n leads from x through xs, and p leads back
abbrev pub From : (n p : ℕ → ℕ) → ℕ → List ℕ → Type 0
From n p x [] = Unit {0}
From n p x (y ∷ ys) = (n x ≡ y) × (p y ≡ x) × From n p y ys

abbrev pub last_of : ℕ → List ℕ → ℕ
last_of d [] = d
last_of d (x ∷ xs) = last_of x xs

abbrev pub first_of : ℕ → List ℕ → ℕ
first_of d [] = d
first_of d (x ∷ xs) = x

abbrev pub Apart : List ℕ → Type 0
Apart [] = Unit {0}
Apart (x ∷ xs) = AllByRecursion (λ y. y ≢ x) xs × Apart xs

abbrev pub Misses : ℕ → List ℕ → Type 0
Misses x xs = AllByRecursion (λ y. y ≢ x) xs

-- by a flag: that a number is among them, or is not
abbrev pub IsAmong : Bool → ℕ → List ℕ → Type 0
IsAmong b x xs = MatchBool b (ContainsAt xs x) (Misses x xs)

-- the list without x
abbrev pub without : ℕ → List ℕ → List ℕ
without x [] = []
without x (y ∷ ys) = cond (y == x) (without x ys) (y ∷ without x ys)

abbrev pub walk : (ℕ → ℕ) → ℕ → ℕ → List ℕ
walk n x zero = []
walk n x (suc k) = x ∷ walk n (n x) k

-- the links of chain w go round the cells of `order`, from the tail to the head and on to the tail
pub record Chained {T : Type 0} (cells : List (Cell T)) (w : Chain) (ch : Ends) (order : List ℕ) : Type 0 where
  pub size : ch.len ≡ length order
  pub first : first_of ch.tail.0 order ≡ ch.tail.0
  pub last : last_of ch.head.0 order ≡ ch.head.0
  pub round : From (next_of cells w) (prev_of cells w) ch.head.0 order
  pub within : AllByRecursion (λ j. j < length cells) order
  pub apart : Apart order

-- the cells of a chain, from tail to head; a chain with no ends has no cell
unfoldable pub order_of : {T : Type 0} → List (Cell T) → Chain → Option Ends → List ℕ
order_of cells w None = []
order_of cells w (Some ch) = walk (next_of cells w) ch.tail.0 ch.len

unfoldable pub Sound : {T : Type 0} → List (Cell T) → Chain → Option Ends → Type 0
Sound cells w None = Unit {0}
Sound cells w (Some ch) = Chained cells w ch (order_of cells w (Some ch))
