use Rattle.std.proofs.Common.{List, set, Some, None, vec_items, Option, sym, refl, ap, ◌∙◌}
use Rattle.std.proofs.lemmas.List.{map-set}
use Rattle.promise.specs.Serves as model
use Rattle.pool.specs.declared.state.Loan.{Loan}
use Rattle.pool.specs.Faults.{denial}
use Rattle.desk.specs.Reading.{hand_in, hands_in}
use Rattle.desk.proofs.Handling.{set_same, set_back, called_some}
use Rattle.desk.proofs.calling.give_back.Goals as goal

pub refill-requires-clause-none : goal.refill-requires-clause-none
refill-requires-clause-none g c = rw c.empty.ensures.after (set_same (vec_items c.args.hands.now) c.args.hand.0)

pub returns-in-Ok : goal.returns-in-Ok
returns-in-Ok g c =
    let hs = vec_items c.args.hands.now in
    called_some g.K.Key.meaning model.to_return c.args.hand.0 c.in-Some.loan _ _ _ hs _ _ (sym c.in-Some.ensures.value)
    (record { answer = model.done; replied = refl; asked = c.in-Ok.ensures.asked; in_hands = ap hands_in c.empty.ensures.after ∙ map-set hand_in hs c.args.hand.0 None })

pub returns-in-Err : goal.returns-in-Err
returns-in-Err g c =
    let hs = vec_items c.args.hands.now in
    let e = sym c.in-Some.ensures.value in
    let b = c.refill.ensures ∙ ap (λ (l : Loan). set (vec_items c.empty.new.hands) c.args.hand.0 (Some l)) c.in-Err.ensures.back
    ∙ ap (λ (x : List (Option Loan)). set x c.args.hand.0 (Some c.in-Some.loan)) c.empty.ensures.after ∙ set_back hs c.args.hand.0 c.in-Some.loan e in
    called_some g.K.Key.meaning model.to_return c.args.hand.0 c.in-Some.loan _ _ _ hs _ _ e
    (record { answer = denial c.in-Err.fault; replied = refl; asked = c.in-Err.ensures.asked; in_hands = ap hands_in b })
