-- A cell whose entry changes goes to the head of its chains and leaves the others: what that is at an entry that turns, comes in or goes.
use Rattle.std.proofs.Common.{◌≡◌, ℕ, true, false, [], ◌∷◌, ◌++◌, Some, None, sym, refl, ap, ◌∙◌}
use Rattle.std.specs.List.{ContainsAt}
use Rattle.std.proofs.lemmas.List.{append-nil}
use Rattle.chains.specs.Orders.{Misses}
use Rattle.chains.specs.declared.cell.Chain.{Chain}
use Rattle.chains.specs.declared.cell.Chain.TheVariants.{Ring, Cold, Test, Free}
use Rattle.chains.specs.Shape.{Shape, stored, followed, pushed, unlinked}
use Rattle.chains.proofs.Rounds.{without_none}
use Rattle.chains.proofs.Shapes.{shape_is, as_turned, as_unlinked, as_away}
use Rattle.records.specs.Questions.{cold_resident}
use Rattle.records.specs.declared.entry.Entry.{Entry}
use Rattle.rows.specs.Rows.{Placed, Members, noted, refiled, relinked, joined, cut_out}
use Rattle.rows.specs.declared.Row.{Row}

module _ {K : Type 0} (s : Shape (Entry K)) (r : Row K) (m : Members s r) where
  pub placed : Placed r.cell.0 (Some r.entry) s
  placed Ring = m.ring
  placed Cold = m.cold
  placed Test = m.test
  placed Free = m.used

  pub turns : (new : Entry K) → refiled r.cell.0 (Some new) s ≡ relinked r new s
  turns new =
      let i = r.cell.0 in
      ap (λ x. followed Free i false (followed Test i new.test (followed Cold i (cold_resident new) x))) (sym (as_turned Ring i (stored i (Some new) s)))
      ∙ sym (as_unlinked Free i (relinked r new s)) ∙ sym (as_away Free i (relinked r new s) m.used)

  pub goes : refiled r.cell.0 None s ≡ cut_out r s
  goes =
      let i = r.cell.0 in
      let x = followed Test i false (followed Cold i false (unlinked Ring i (stored i None s))) in
      ap (λ x. followed Free i true (followed Test i false (followed Cold i false x))) (sym (as_unlinked Ring i (stored i None s)))
      ∙ sym (as_turned Free i x) ∙ ap (pushed Free i) (sym (as_away Free i x m.used))

-- an unused cell
module _ {K : Type 0} (s : Shape (Entry K)) (i : ℕ) (free : ContainsAt (s.order Free) i) (ring : Misses i (s.order Ring)) (cold : Misses i (s.order Cold)) (test : Misses i (s.order Test)) where
  pub unused : Placed {K = K} i None s
  unused Ring = ring
  unused Cold = cold
  unused Test = test
  unused Free = free

  pub comes : (new : Entry K) → refiled i (Some new) (noted i new.frame s) ≡ joined i new s
  comes new = shape_is (refiled i (Some new) (noted i new.frame s)) (joined i new s) refl order (λ j. refl) (λ f. refl)
    where
      order : (w : Chain) → (refiled i (Some new) (noted i new.frame s)).order w ≡ (joined i new s).order w
      order Ring = ap (λ o. o ++ i ∷ []) (without_none i (s.order Ring) ring)
      order Cold = refl
      order Test = refl
      order Free = append-nil _
