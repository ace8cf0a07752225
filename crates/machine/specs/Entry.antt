-- An entry of the ring, and the words in which the rules speak of a list of entries.
-- A list of entries runs from the tail to the head, so "first" is "nearest the tail".
--   Entry                              a key's record in the ring
--   is_hot, has_bit, marked              whether it is hot, has the reference bit, has the test mark
--   resident, remembered               whether its page lies in a frame, or has left
--   idle, free                         resident without a loan; and cold besides: what a candidate is
--   named, lies_in, on_page              whether it has this key; lies in this frame; passes a test of its page
--   count, first, replaced, without    how many pass a test; the first that does; the list with others in its place; without it
use Rattle.std.specs.Prelude.{ℕ, ◌+◌, Bool, false, cond, not, ◌&&◌, List, [], ◌∷◌, ◌++◌, is_some, Some, None, Option, ◌==◌, nat_eq}
use Rattle.keys.specs.Same.{same_list}

pub record Entry : Type 0 where
  pub key : List ℕ  -- the key's meaning
  pub hot : Bool  -- hot, or else cold
  pub frame : Option ℕ  -- the frame that its page lies in, if it is resident
  pub test : Bool  -- the test mark
  pub bit : Bool  -- the reference bit
  pub loans : ℕ
  pub altered : Bool  -- the altered mark

-- The questions that the rules ask of an entry.
abbrev pub is_hot : Entry → Bool
is_hot e = e.hot

abbrev pub has_bit : Entry → Bool
has_bit e = e.bit

abbrev pub marked : Entry → Bool
marked e = e.test

abbrev pub resident : Entry → Bool
resident e = is_some e.frame

abbrev pub remembered : Entry → Bool
remembered e = not (resident e)

-- a resident page without a loan
abbrev pub idle : Entry → Bool
idle e = resident e && e.loans == 0

-- resident, cold, no loan: the candidate is the first such entry
abbrev pub free : Entry → Bool
free e = not e.hot && idle e

-- whether the entry has key k
abbrev pub named : List ℕ → Entry → Bool
named k e = same_list k e.key

-- a test of the frame; without a frame it fails
abbrev pub in_frame : (ℕ → Bool) → Option ℕ → Bool
in_frame p None = false
in_frame p (Some f) = p f

-- whether the entry's page lies in frame f
abbrev pub lies_in : ℕ → Entry → Bool
lies_in f e = in_frame (nat_eq f) e.frame

-- whether the entry is resident and its key, frame, loans and altered mark pass a test
abbrev pub on_page : (List ℕ → ℕ → ℕ → Bool → Bool) → Entry → Bool
on_page p e = in_frame (λ f. p e.key f e.loans e.altered) e.frame

-- 1 for true; 1 for an entry that is there and passes; and how many entries of a list pass.
abbrev pub one : Bool → ℕ
one b = cond b 1 0

abbrev pub one_of : (Entry → Bool) → Option Entry → ℕ
one_of p None = 0
one_of p (Some e) = one (p e)

abbrev pub count : (Entry → Bool) → List Entry → ℕ
count p [] = 0
count p (e ∷ es) = one (p e) + count p es

-- The first entry that passes a test, if there is one.
abbrev pub first : (Entry → Bool) → List Entry → Option Entry
first p [] = None
first p (e ∷ es) = cond (p e) (Some e) (first p es)

-- The list with other entries (most often one, or none) in the place of that first entry.
abbrev pub replaced : (Entry → Bool) → (Entry → List Entry) → List Entry → List Entry
replaced p f [] = []
replaced p f (e ∷ es) = cond (p e) (f e ++ es) (e ∷ replaced p f es)

-- The list without that first entry.
abbrev pub without : (Entry → Bool) → List Entry → List Entry
without p es = replaced p (λ _. []) es
