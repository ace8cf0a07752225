-- The hands, and a call under the loan in one of them.
use Rattle.std.proofs.Common.{◌≡◌, ℕ, zero, suc, List, [], ◌∷◌, get_or, set, Some, None, Option, sym, refl, ap, ◌∙◌, subst}
use Rattle.std.proofs.lemmas.List.{set-set, set-get_or}
use Rattle.std.proofs.Math.ListN.{get_or-map}
use Rattle.promise.specs.Serves as model
use Rattle.promise.specs.Desk as desk
use Rattle.pool.specs.Reading.{loan_in}
use Rattle.pool.specs.declared.state.Loan.{Loan}
use Rattle.pool.specs.Asked.{Holding}
use Rattle.desk.specs.declared.orders.Ask.{Ask}
use Rattle.desk.specs.declared.orders.Reply.{Reply}
use Rattle.desk.specs.Reading.{hand_in, hands_in}
use Rattle.desk.specs.Serving.{CalledBy, Answered}

-- a hand that was emptied is empty, and one that is filled again is as it was
pub set_same : (hands : List (Option Loan)) (i : ℕ) → get_or (set hands i None) i None ≡ None
set_same [] i = refl
set_same (x ∷ hands) zero = refl
set_same (x ∷ hands) (suc i) = set_same hands i

pub set_back : (hands : List (Option Loan)) (i : ℕ) (l : Loan) → get_or hands i None ≡ Some l → set (set hands i None) i (Some l) ≡ hands
set_back hands i l h = set-set hands i None (Some l) ∙ ap (set hands i) (sym h) ∙ set-get_or hands i None

-- what a call under a loan owes
pub called_some : {K : Type 0} (meaning : K → List ℕ) (f : model.Loan → model.Request) (i : ℕ) (l : Loan) (ask : Ask K) (h after : Holding K) (hands left : List (Option Loan)) (r : Reply K) →
    get_or hands i None ≡ Some l → Answered meaning (f (loan_in l)) ask h hands r after left → CalledBy meaning (desk.under_loan f (get_or (hands_in hands) i None)) ask h hands r after left
called_some meaning f i l ask h after hands left r e a =
    subst (λ o. CalledBy meaning o ask h hands r after left) (sym (ap (desk.under_loan f) (get_or-map hand_in hands i None ∙ ap hand_in e))) a
