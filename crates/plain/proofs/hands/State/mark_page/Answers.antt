use Rattle.std.proofs.Common.{[], ◌∷◌, set, vec_items, sym, refl}
use Rattle.machine.specs.Entry as model
use Rattle.machine.specs.Borrow.{marking}
use Rattle.machine.proofs.Laws.{replaced_none}
use Rattle.records.specs.Reading.{entries_of}
use Rattle.plain.proofs.Placing.{found, found_set, none_found}
use Rattle.plain.proofs.hands.State.mark_page.Goals as goal

pub returns-in_default-clause-step : goal.returns-in_default-clause-step
returns-in_default-clause-step g c =
    let w = g.K.Key.meaning in let s = c.args.self.now in let es = vec_items s.ring in let p = model.lies_in c.args.frame.0 in
    let a = sym (replaced_none p (λ e. marking c.args.altered e ∷ []) (entries_of w es) (none_found w p es c.place_in.ensures c.in_default.is)) in
    λ i. record { ring = a i; cold = s.cold; used = s.used }

pub returns-in-Some-clause-step : goal.returns-in-Some-clause-step
returns-in-Some-clause-step g c =
    let w = g.K.Key.meaning in let s = c.args.self.now in let es = vec_items s.ring in let p = model.lies_in c.args.frame.0 in
    let f = found w p es c.place_in.ensures c.in-Some.is c.index.ensures in
    let a = found_set w p es c.in-Some.at c.index.result.now f (marking c.args.altered) c.mark.result (set es c.in-Some.at c.mark.result) c.mark.ensures refl in
    λ i. record { ring = a i; cold = s.cold; used = s.used }
