-- The book, kept from the calls and their answers alone.
use Rattle.std.specs.Prelude.{ℕ, ◌+◌, ◌-◌, cond, List, [], ◌∷◌, Some, None, Option, ◌==◌}
use Rattle.keys.specs.Same.{same_list}
use Rattle.stores.specs.Parts.{laid}
use Rattle.promise.specs.State.{Opening}
use Rattle.promise.specs.Serves.{Loan, Request, to_borrow, to_view, to_alter, to_return, to_flush, Call, Answer, lends, shows, done, wrote, denied}

pub record Book : Type 0 where
  pub pages : List ℕ → Option (List ℕ)  -- a page for each held key
  pub keys : ℕ → Option (List ℕ)  -- by frame: the key that was last borrowed there
  pub loans : ℕ → ℕ  -- by frame: loans granted less loans taken back
  pub borrows : ℕ  -- the sums: of granted borrows,
  pub colds : ℕ  -- of cold steps,
  pub tests : ℕ  -- and of test steps

-- at opening
abbrev pub blank : Opening → Book
blank o = record { pages = o.store.pages; keys = λ _. None; loans = λ _. 0; borrows = 0; colds = 0; tests = 0 }

-- A granted borrow writes its key at its loan's frame and adds to the loans there and to the sums.
abbrev pub noted_borrow : Book → List ℕ → Answer → Book
noted_borrow b k (lends l r) = record {
  pages = b.pages;
  keys = λ f. cond (l.frame == f) (Some k) (b.keys f);
  loans = λ f. cond (l.frame == f) (b.loans f + 1) (b.loans f);
  borrows = b.borrows + 1;
  colds = b.colds + r.made.colds;
  tests = b.tests + r.made.tests;
}
noted_borrow b k (shows page) = b
noted_borrow b k done = b
noted_borrow b k (wrote n) = b
noted_borrow b k (denied y n) = b

-- A granted alteration lays its bytes on the page of its loan's key.
abbrev pub laid_in : ℕ → List ℕ → Option (List ℕ) → Option (List ℕ)
laid_in offset new None = None
laid_in offset new (Some page) = Some (laid offset new page)

abbrev pub laid_at : Option (List ℕ) → ℕ → List ℕ → (List ℕ → Option (List ℕ)) → List ℕ → Option (List ℕ)
laid_at None offset new pages j = pages j
laid_at (Some k) offset new pages j = cond (same_list k j) (laid_in offset new (pages j)) (pages j)

abbrev pub noted_alter : Book → Loan → ℕ → List ℕ → Answer → Book
noted_alter b l offset new done = record {
  pages = laid_at (b.keys l.frame) offset new b.pages;
  keys = b.keys;
  loans = b.loans;
  borrows = b.borrows;
  colds = b.colds;
  tests = b.tests;
}
noted_alter b l offset new (lends x r) = b
noted_alter b l offset new (shows page) = b
noted_alter b l offset new (wrote n) = b
noted_alter b l offset new (denied y n) = b

-- A granted return takes one off the loans at its loan's frame.
abbrev pub noted_return : Book → Loan → Answer → Book
noted_return b l done = record {
  pages = b.pages;
  keys = b.keys;
  loans = λ f. cond (l.frame == f) (b.loans f - 1) (b.loans f);
  borrows = b.borrows;
  colds = b.colds;
  tests = b.tests;
}
noted_return b l (lends x r) = b
noted_return b l (shows page) = b
noted_return b l (wrote n) = b
noted_return b l (denied y n) = b

-- Every other call leaves the book as it is.
abbrev pub noted : Book → Request → Answer → Book
noted b (to_borrow k) a = noted_borrow b k a
noted b (to_view l) a = b
noted b (to_alter l offset new) a = noted_alter b l offset new a
noted b (to_return l) a = noted_return b l a
noted b to_flush a = b

-- A history: the calls with their answers, the first one first.
pub record Event : Type 0 where
  pub call : Call
  pub answer : Answer

abbrev pub event : Call → Answer → Event
event c a = record { call = c; answer = a }

abbrev pub book_from : Book → List Event → Book
book_from b [] = b
book_from b (e ∷ rest) = book_from (noted b e.call.request e.answer) rest

abbrev pub book : Opening → List Event → Book
book o h = book_from (blank o) h
