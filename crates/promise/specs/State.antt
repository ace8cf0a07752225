-- The state of a pool with its frames and its store.
use Rattle.std.specs.Prelude.{◌≡◌, ℕ, ◌*◌, ◌≤◌, cond, ◌&&◌, List, length, Some, None, Option, ◌==◌, nat_le}
use Rattle.machine.specs.Entry.{Entry, lies_in, named, first}
use Rattle.machine.specs.Hands.{Machine, opened}
use Rattle.machine.specs.Borrow.{key_of}
use Rattle.stores.specs.Meaning.{Meaning}
use Rattle.stores.specs.Parts.{part_of}

pub record State : Type 0 where
  pub number : ℕ  -- the pool's number
  pub count : ℕ  -- m, how many frames there are
  pub machine : Machine  -- the ring, c and u
  pub bytes : List ℕ  -- the bytes of all frames, one frame after another
  pub store : Meaning

-- P, the size of a page
abbrev pub page_size : State → ℕ
page_size s = s.store.size

-- A frame's part of the frame bytes.
abbrev pub part : State → ℕ → List ℕ
part s f = part_of (page_size s) s.bytes f

-- The entry whose page lies in a frame, if there is one.
abbrev pub occupant : ℕ → State → Option Entry
occupant f s = first (lies_in f) s.machine.ring

-- The key that a frame holds, if it holds one.
abbrev pub holds : ℕ → State → Option (List ℕ)
holds f s = key_of (occupant f s)

-- Pool and store together give a key the frame's bytes if it is resident, otherwise the store's page.
abbrev pub page_in : State → List ℕ → Option ℕ → Option (List ℕ)
page_in s k (Some f) = Some (part s f)
page_in s k None = s.store.pages k

abbrev pub page_at : State → List ℕ → Option Entry → Option (List ℕ)
page_at s k (Some e) = page_in s k e.frame
page_at s k None = s.store.pages k

abbrev pub together : State → List ℕ → Option (List ℕ)
together s k = page_at s k (first (named k) s.machine.ring)

-- The questions of opening a pool of m frames over a store with pages of p bytes, given so many frame bytes and cells.
-- Is P from 1 to 4,096? 1. Is m from 2 to 4,096? 2. Are there exactly m × P frame bytes? 3. Exactly 2 × m cells? 4.
abbrev pub open_refusal : ℕ → ℕ → ℕ → ℕ → Option ℕ
open_refusal p m bytes cells =
    cond (nat_le 1 p && nat_le p 4096)
    (cond (nat_le 2 m && nat_le m 4096)
    (cond (bytes == m * p)
    (cond (cells == 2 * m) None (Some 4))
    (Some 3))
    (Some 2))
    (Some 1)

-- An opening that was granted: the questions had their yes, and the store keeps the law that each page has P bytes.
pub record Opening : Type 0 where
  pub number : ℕ
  pub count : ℕ
  pub bytes : List ℕ  -- the frame bytes as found
  pub store : Meaning
  pub size_low : 1 ≤ store.size
  pub size_high : store.size ≤ 4096
  pub count_low : 2 ≤ count
  pub count_high : count ≤ 4096
  pub bytes_fit : length bytes ≡ count * store.size
  pub pages_fit : (k page : List ℕ) → store.pages k ≡ Some page → length page ≡ store.size

-- The state that it leaves: no entry, and the bytes as found.
abbrev pub begun : Opening → State
begun o = record { number = o.number; count = o.count; machine = opened o.count; bytes = o.bytes; store = o.store }
