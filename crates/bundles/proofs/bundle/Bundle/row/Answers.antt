use Rattle.std.proofs.Common.{◌≡◌, true, get_or, Some, sym, refl, ap, ◌∙◌, subst}
use Rattle.std.specs.Option.{option_map}
use Rattle.std.proofs.lemmas.Option.{slice_get-map, slice_get-get_or}
use Rattle.bundles.specs.Format.{row_from, fit_row}
use Rattle.bundles.specs.Bundles.{Listing, listed, listing_of, row_of}
use Rattle.bundles.specs.declared.rows.Delivery.{Delivery}
use Rattle.bundles.specs.declared.rows.AmountUnit.TheVariants.{Whole, Thousands}
use Rattle.bundles.proofs.Passed.{fit_at}
use Rattle.bundles.proofs.bundle.Bundle.row.Goals as goal

pub checked_row-requires : goal.checked_row-requires
checked_row-requires c =
    let l = c.in_ok-row.ensures.lookup in
    subst (λ s. fit_row (row_from s) ≡ true) (sym l.1) (fit_at _ _ _ c.args.self.now.good l.3.0)

listing_row : (d : Delivery) → listing_of d ≡ listed (row_of d)
listing_row d = elim d.unit as (λ u. listing_of (record d { unit = u }) ≡ listed (row_of (record d { unit = u }))) [ Whole ↦ refl | Thousands ↦ refl ]

pub returns : goal.returns
returns c =
    let rs = c.args.self.now.rows.now in
    let i = c.args.i in
    let row = c.in_ok-row.row.now in
    let l = c.in_ok-row.ensures.lookup in
    let here : listing_of c.checked_row.result ≡ listed (row_from (get_or rs i row)) = listing_row c.checked_row.result ∙ ap listed c.checked_row.ensures ∙ ap (λ s. listed (row_from s)) l.1 in
    ap (λ (x : Listing). Some x) here ∙ sym (ap (option_map listed) (slice_get-map row_from rs i ∙ ap (option_map row_from) (slice_get-get_or rs i row l.3.0)))
