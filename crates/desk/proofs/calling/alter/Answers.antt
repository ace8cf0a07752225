use Rattle.std.proofs.Common.{ℕ, List, vec_items, sym, refl, subst}
use Rattle.promise.specs.Serves as model
use Rattle.pool.specs.Asked.{holding, Asked}
use Rattle.pool.specs.Faults.{denial}
use Rattle.pool.specs.Reading.{loan_in}
use Rattle.desk.proofs.Handling.{called_some}
use Rattle.desk.proofs.calling.alter.Goals as goal

pub returns-in-Ok : goal.returns-in-Ok
returns-in-Ok g c =
    let h = holding c.args.pool.now c.args.frames.now c.args.cells.now (g.S.Store.meant c.args.store.now) in
    let t = holding c.alter.new.self c.alter.new.frames c.alter.new.cells (g.S.Store.meant c.args.store.now) in
    called_some g.K.Key.meaning (λ (l : model.Loan). model.to_alter l c.args.offset (vec_items c.args.bytes.now)) c.args.hand.0 c.in-Some.loan.now _ h t c.args.hands.now _ _ (sym c.in-Some.ensures)
    (record {
      answer = model.done;
      replied = refl;
      asked = subst (λ (x : List ℕ). Asked g.K.Key.meaning (model.to_alter (loan_in c.in-Some.loan.now) c.args.offset x) h (model.done) t) c.as_slice.ensures.value c.in-Ok.ensures.asked;
      in_hands = refl;
    })

pub returns-in-Err : goal.returns-in-Err
returns-in-Err g c =
    let h = holding c.args.pool.now c.args.frames.now c.args.cells.now (g.S.Store.meant c.args.store.now) in
    let t = holding c.alter.new.self c.alter.new.frames c.alter.new.cells (g.S.Store.meant c.args.store.now) in
    called_some g.K.Key.meaning (λ (l : model.Loan). model.to_alter l c.args.offset (vec_items c.args.bytes.now)) c.args.hand.0 c.in-Some.loan.now _ h t c.args.hands.now _ _ (sym c.in-Some.ensures)
    (record {
      answer = denial c.in-Err.fault;
      replied = refl;
      asked = subst (λ (x : List ℕ). Asked g.K.Key.meaning (model.to_alter (loan_in c.in-Some.loan.now) c.args.offset x) h (denial c.in-Err.fault) t) c.as_slice.ensures.value c.in-Err.ensures.asked;
      in_hands = refl;
    })
