use Rattle.std.proofs.Common.{Ok, sym, refl}
use Rattle.pool.specs.Asked.{holding}
use Rattle.pool.proofs.Requests.{return_denied, return_served}
use Rattle.pool.proofs.Owed.{asked_fit, asked_denied, asked_misfit, loans_returned}
use Rattle.pool.proofs.state.Pool.give_back.Goals as goal

pub returns-in-Err-clause-asked : goal.returns-in-Err-clause-asked
returns-in-Err-clause-asked g c = let b = c.in-Err.ensures in asked_misfit g.K.Key.meaning _ _ _ _ refl b.number b.layer

pub returns-then-not-is_good-clause-asked : goal.returns-then-not-is_good-clause-asked
returns-then-not-is_good-clause-asked g c =
    let e = sym c.in_default.ensures.number in asked_denied g.K.Key.meaning _ _ _ e c.requires (return_denied g.K.Key.meaning _ _ e (sym c.if-not-is_good.ensures))

pub returns-clause-asked : goal.returns-clause-asked
returns-clause-asked g c =
    let h = holding c.args.self.now c.args.frames.now c.args.cells.now (g.S.Store.meant c.args.store.now) in
    let e = sym c.in_default.ensures.number in
    let b = c.give_back.ensures in asked_fit g.K.Key.meaning _ h _ _ e c.requires b.stands (return_served g.K.Key.meaning h _ _ e (sym c.if-not-is_good.ensures) b.step) refl refl

pub returns-clause-loans : goal.returns-clause-loans
returns-clause-loans g c = loans_returned g.K.Key.meaning c.args.loan (holding c.args.self.now c.args.frames.now c.args.cells.now (g.S.Store.meant c.args.store.now)) _ (Ok tt) (sym c.in_default.ensures.number) c.requires (returns-clause-asked g c)
