-- The pages that the rows place lie within section two, and have the page size.
use Rattle.std.proofs.Common.{◌≡◌, ℕ, ◌+◌, ◌*◌, ◌<◌, ◌≤◌, Bool, true, false, cond, eqb, ltb, List, [], ◌∷◌, length, Some, None, Option, sym, refl, ap, ◌∙◌, arith}
use Rattle.std.specs.Option.{option_map}
use Rattle.std.proofs.lemmas.Bool.{ltb-true}
use Rattle.stores.specs.Parts.{part_of}
use Rattle.stores.proofs.Bytes.{row}
use Rattle.stores.proofs.Filed.{part_sized}
use Rattle.bundles.specs.Format.{Row, pages_in}
use Rattle.bundles.specs.Contents.{Found, found, number_in, page_number, section_pages}

found_within : (d b : ℕ) (rows : List Row) (x : Found) → found d b rows ≡ Some x → x.before + x.row.pages ≤ b + pages_in rows
found_within d b [] x e = cc
found_within d b (r ∷ rows) x e = go (eqb r.delivery d) (λ h. found_within d (b + r.pages) rows x h) e
  where
    go : (t : Bool) → (found d (b + r.pages) rows ≡ Some x → x.before + x.row.pages ≤ (b + r.pages) + pages_in rows) →
        cond t (Some (record { before = b; row = r })) (found d (b + r.pages) rows) ≡ Some x → x.before + x.row.pages ≤ b + pages_in (r ∷ rows)
    go true rest h =
        let y : Found = record { before = b; row = r } in
        let s : y ≡ x = cc in
        let k = ap (λ (v : Found). v.before + v.row.pages) s in
        omega (arith, k)
    go false rest h = let f : pages_in (r ∷ rows) ≡ r.pages + pages_in rows = refl in omega (arith, rest h)

pub number_within : (d q : ℕ) (rows : List Row) (n : ℕ) → page_number d q rows ≡ Some n → n < pages_in rows
number_within d q rows n e = go (found d 0 rows) refl e
  where
    go : (o : Option Found) → found d 0 rows ≡ o → number_in q o ≡ Some n → n < pages_in rows
    go None h j = cc
    go (Some x) h j = at (ltb q x.row.pages) refl j
      where
        at : (t : Bool) → ltb q x.row.pages ≡ t → cond t (Some (x.before + q)) None ≡ Some n → n < pages_in rows
        at true l k =
            let s : x.before + q ≡ n = cc in
            let w = found_within d 0 rows x h in
            let u = ltb-true q x.row.pages l in
            omega arith
        at false l k = cc

-- the part of a page that is held ends within section two
pub part_within : (p d q : ℕ) (rows : List Row) (n size : ℕ) → size ≡ pages_in rows * p → page_number d q rows ≡ Some n → n * p + p ≤ size
part_within p d q rows n size h e = let r = row n (pages_in rows) p (number_within d q rows n e) in omega arith

pub section_sized : (p : ℕ) (rows : List Row) (pages k page : List ℕ) → length pages ≡ pages_in rows * p → section_pages p rows pages k ≡ Some page → length page ≡ p
section_sized p rows pages [] page h e = cc
section_sized p rows pages (d ∷ []) page h e = cc
section_sized p rows pages (d ∷ (q ∷ [])) page h e = go (page_number d q rows) refl e
  where
    go : (o : Option ℕ) → page_number d q rows ≡ o → option_map (part_of p pages) o ≡ Some page → length page ≡ p
    go None j k = cc
    go (Some n) j k =
        let s : part_of p pages n ≡ page = cc in
        ap length (sym s) ∙ part_sized p n pages (part_within p d q rows n (length pages) h j)
section_sized p rows pages (d ∷ (q ∷ (x ∷ more))) page h e = cc
