-- The loops over rows: each turn passes one row, and what is asked of all rows is asked of those that are left.
use Rattle.std.proofs.Common.{◌≡◌, ℕ, zero, suc, ◌+◌, ◌*◌, ◌<◌, ◌≤◌, Bool, true, false, not, ◌&&◌, ◌||◌, eqb, leb, List, [], ◌∷◌, ◌++◌, length, get_or, take, drop, Some, sym, refl, ap, ◌∙◌, arith}
use Rattle.std.specs.List.{list_any, list_all}
use Rattle.std.proofs.lemmas.List.{take_more, at_drop_more}
use Rattle.std.proofs.lemmas.Bool.{and_left, and_right, and_parts, and_from, leb-true, not_from_true, not_from_false, cond-true, cond-false, eq-eqb, ne_eqb}
use Rattle.bundles.specs.Format.{Row, two, four, row_from, rows_from, listed_in, fit_row, good_row, good_after, good_rows, pages_in}
use Rattle.bundles.specs.Contents.{found}

rows_push : (rs before : List (List ℕ)) (s : List ℕ) → rs ≡ before ++ (s ∷ []) → rows_from rs ≡ rows_from before ++ (row_from s ∷ [])
rows_push rs before s e = ap rows_from e ∙ go before
  where
    go : (xs : List (List ℕ)) → rows_from (xs ++ (s ∷ [])) ≡ rows_from xs ++ (row_from s ∷ [])
    go [] = refl
    go (x ∷ xs) = ap (λ r. row_from x ∷ r) (go xs)

-- LISTED

listed_any : (d : ℕ) (rs : List (List ℕ)) → list_any (λ row. eqb (two row 0) d) rs ≡ listed_in d (rows_from rs)
listed_any d [] = refl
listed_any d (s ∷ rs) = ap (λ b. eqb (two s 0) d || b) (listed_any d rs)

-- GOOD, AND ADDED UP

good_is : (before : List Row) (r : Row) → good_row before r ≡ (fit_row r && not (listed_in r.delivery before))
good_is before r = go (leb r.unit 1)
  where
    go : (b : Bool) → (b && (leb r.pages 1048576 && not (listed_in r.delivery before))) ≡ ((b && leb r.pages 1048576) && not (listed_in r.delivery before))
    go true = refl
    go false = refl

-- a row that is good is fit by itself
good_fit : (before : List Row) (r : Row) → good_row before r ≡ true → fit_row r ≡ true
good_fit before r h = (and_parts (fit_row r) (not (listed_in r.delivery before)) (sym (good_is before r) ∙ h)).0

-- and has few pages
fit_few : (r : Row) → fit_row r ≡ true → r.pages ≤ 1048576
fit_few r h = leb-true r.pages 1048576 (and_parts (leb r.unit 1) (leb r.pages 1048576) h).1

-- the same of a row that was read
few_at : (r : Row) (seven : List ℕ) → r ≡ row_from seven → fit_row (row_from seven) ≡ true → r.pages ≤ 1048576
few_at r seven e h = let f = fit_few (row_from seven) h in let q = ap (λ (y : Row). y.pages) e in omega arith

-- where all rows are good, each is fit
good_all : (before : List Row) (rs : List (List ℕ)) → good_after before (rows_from rs) ≡ true → list_all fit_row (rows_from rs) ≡ true
good_all before [] h = refl
good_all before (s ∷ rs) h =
    let p = and_parts (good_row before (row_from s)) (good_after (before ++ (row_from s ∷ [])) (rows_from rs)) h in
    and_from (fit_row (row_from s)) (list_all fit_row (rows_from rs)) (good_fit before (row_from s) p.0) (good_all (before ++ (row_from s ∷ [])) rs p.1)

pub all_fit : (rs : List (List ℕ)) → good_rows (rows_from rs) ≡ true → list_all fit_row (rows_from rs) ≡ true
all_fit rs h = good_all [] rs h

all_at : (rs : List (List ℕ)) (i : ℕ) (d : List ℕ) → list_all fit_row (rows_from rs) ≡ true → i < length rs → fit_row (row_from (get_or rs i d)) ≡ true
all_at [] i d h l = absurd (omega arith)
all_at (s ∷ rs) zero d h l = (and_parts (fit_row (row_from s)) (list_all fit_row (rows_from rs)) h).0
all_at (s ∷ rs) (suc i) d h l = all_at rs i d (and_parts (fit_row (row_from s)) (list_all fit_row (rows_from rs)) h).1 (omega arith)

pub fit_at : (rs : List (List ℕ)) (i : ℕ) (d : List ℕ) → good_rows (rows_from rs) ≡ true → i < length rs → fit_row (row_from (get_or rs i d)) ≡ true
fit_at rs i d h l = all_at rs i d (all_fit rs h) l

pub record Added (rs : List (List ℕ)) (i sum : ℕ) : Type 0 where
  pub good : good_rows (rows_from rs) ≡ good_after (rows_from (take i rs)) (rows_from (drop i rs))
  pub total : sum ≡ pages_in (rows_from (take i rs))
  pub small : sum ≤ i * 1048576

pages_push : (rows : List Row) (r : Row) → pages_in (rows ++ (r ∷ [])) ≡ pages_in rows + r.pages
pages_push [] r = omega arith
pages_push (x ∷ rows) r = let h = pages_push rows r in omega arith

-- the next row, as it stands before those that are left
good_next : (rs : List (List ℕ)) (i sum : ℕ) → i < length rs → Added rs i sum → good_rows (rows_from rs) ≡ (good_row (rows_from (take i rs)) (row_from (get_or rs i [])) && good_after (rows_from (take i rs) ++ (row_from (get_or rs i []) ∷ [])) (rows_from (drop (i + 1) rs)))
good_next rs i sum l x = x.good ∙ at_drop_more (λ s. good_after (rows_from (take i rs)) (rows_from s)) rs i [] l

pub added_more : (rs : List (List ℕ)) (i sum : ℕ) (r : Row) → i < length rs → r ≡ row_from (get_or rs i []) → fit_row (row_from (get_or rs i [])) ≡ true → list_any (λ row. eqb (two row 0) r.delivery) (take i rs) ≡ false →
    Added rs i sum → Added rs (i + 1) (sum + r.pages)
added_more rs i sum r l e h k x =
    let before = rows_from (take i rs) in
    let s = get_or rs i [] in
    let push : rows_from (take (i + 1) rs) ≡ before ++ (row_from s ∷ []) = rows_push (take (i + 1) rs) (take i rs) s (take_more rs i [] l) in
    let again : listed_in (row_from s).delivery before ≡ false = ap (λ (y : Row). listed_in y.delivery before) (sym e) ∙ sym (listed_any r.delivery (take i rs)) ∙ k in
    let ok : good_row before (row_from s) ≡ true = good_is before (row_from s) ∙ and_from (fit_row (row_from s)) (not (listed_in (row_from s).delivery before)) h (not_from_false (listed_in (row_from s).delivery before) again) in
    record {
      good = good_next rs i sum l x ∙ ap (λ b. b && good_after (before ++ (row_from s ∷ [])) (rows_from (drop (i + 1) rs))) ok ∙ ap (λ u. good_after u (rows_from (drop (i + 1) rs))) (sym push);
      total = ap (λ n. n + r.pages) x.total ∙ ap (λ (y : Row). pages_in before + y.pages) e ∙ sym (pages_push before (row_from s)) ∙ ap pages_in (sym push);
      small = let f = x.small in let g = few_at r s e h in omega arith;
    }

bad : (rs : List (List ℕ)) (i sum : ℕ) → i < length rs → good_row (rows_from (take i rs)) (row_from (get_or rs i [])) ≡ false → Added rs i sum → good_rows (rows_from rs) ≡ false
bad rs i sum l h x = good_next rs i sum l x ∙ and_left (good_row (rows_from (take i rs)) (row_from (get_or rs i []))) (good_after (rows_from (take i rs) ++ (row_from (get_or rs i []) ∷ [])) (rows_from (drop (i + 1) rs))) h

-- a row that lists a delivery again
pub added_again : (rs : List (List ℕ)) (i sum : ℕ) (r : Row) → i < length rs → r ≡ row_from (get_or rs i []) → list_any (λ row. eqb (two row 0) r.delivery) (take i rs) ≡ true → Added rs i sum → good_rows (rows_from rs) ≡ false
added_again rs i sum r l e k x =
    let before = rows_from (take i rs) in
    let s = get_or rs i [] in
    let again : listed_in (row_from s).delivery before ≡ true = ap (λ (y : Row). listed_in y.delivery before) (sym e) ∙ sym (listed_any r.delivery (take i rs)) ∙ k in
    bad rs i sum l (good_is before (row_from s) ∙ and_right (fit_row (row_from s)) (not (listed_in (row_from s).delivery before)) (not_from_true (listed_in (row_from s).delivery before) again)) x

-- FOUND

-- the search from the rows that are left, before which some pages stand
pub record Sought (d : ℕ) (rows left : List Row) (before : ℕ) : Type 0 where
  pub same : found d 0 rows ≡ found d before left
  pub small : before + length left * 1048576 ≤ 268435456

-- the next row is another delivery's
pub sought_past : (d : ℕ) (rs : List (List ℕ)) (i before : ℕ) → i < length rs → good_rows (rows_from rs) ≡ true → (two (get_or rs i []) 0 ≡ d → ⊥) →
    Sought d (rows_from rs) (rows_from (drop i rs)) before → Sought d (rows_from rs) (rows_from (drop (i + 1) rs)) (before + four (get_or rs i []) 3)
sought_past d rs i before l g h x =
    let s = get_or rs i [] in
    let few = fit_few (row_from s) (fit_at rs i [] g l) in
    let less : length (rows_from (drop i rs)) ≡ suc (length (rows_from (drop (i + 1) rs))) = at_drop_more (λ u. length (rows_from u)) rs i [] l in
    record {
      same = x.same ∙ at_drop_more (λ u. found d before (rows_from u)) rs i [] l
          ∙ cond-false (eqb (two s 0) d) (Some (record { before = before; row = row_from s })) (found d (before + four s 3) (rows_from (drop (i + 1) rs))) (ne_eqb (two s 0) d h);
      small = let k = x.small in omega arith;
    }

-- the next row is the delivery's
pub sought_at : (d : ℕ) (rs : List (List ℕ)) (i before : ℕ) → i < length rs → two (get_or rs i []) 0 ≡ d →
    Sought d (rows_from rs) (rows_from (drop i rs)) before → found d 0 (rows_from rs) ≡ Some (record { before = before; row = row_from (get_or rs i []) })
sought_at d rs i before l h x =
    let s = get_or rs i [] in
    x.same ∙ at_drop_more (λ u. found d before (rows_from u)) rs i [] l
    ∙ cond-true (eqb (two s 0) d) (Some (record { before = before; row = row_from s })) (found d (before + four s 3) (rows_from (drop (i + 1) rs))) (eq-eqb (two s 0) d h)
