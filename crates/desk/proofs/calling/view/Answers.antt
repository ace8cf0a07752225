use Rattle.std.proofs.Common.{ℕ, List, vec_items, sym, refl, subst}
use Rattle.promise.specs.Serves as model
use Rattle.pool.specs.Asked.{holding, Asked}
use Rattle.pool.specs.Faults.{denial}
use Rattle.pool.specs.Reading.{loan_in}
use Rattle.desk.proofs.Handling.{called_some}
use Rattle.desk.proofs.calling.view.Goals as goal

pub returns-in_ok-to_vec-in-Ok : goal.returns-in_ok-to_vec-in-Ok
returns-in_ok-to_vec-in-Ok g c =
    let h = holding c.args.pool.now c.args.frames.now c.args.cells.now (g.S.Store.meant c.args.store.now) in
    called_some g.K.Key.meaning model.to_view c.args.hand.0 c.in-Some.loan.now _ h _ c.args.hands.now _ _ (sym c.in-Some.ensures)
    (record {
      answer = model.shows (vec_items c.in_ok-to_vec-in-Ok.field-0);
      replied = refl;
      asked = subst (λ (x : List ℕ). Asked g.K.Key.meaning (model.to_view (loan_in c.in-Some.loan.now)) h (model.shows x) h) (sym (c.in_ok-to_vec-in-Ok.ensures.items_if_clones_equal (λ x y i. i))) c.in-Ok.ensures;
      in_hands = refl;
    })

pub returns-in-Err : goal.returns-in-Err
returns-in-Err g c =
    called_some g.K.Key.meaning model.to_view c.args.hand.0 c.in-Some.loan.now _ _ _ c.args.hands.now _ _ (sym c.in-Some.ensures)
    (record { answer = denial c.in-Err.fault; replied = refl; asked = c.in-Err.ensures; in_hands = refl })
