use Rattle.std.proofs.Common.{Ok, Err, sym, refl, ap, ◌∙◌, arith}
use Rattle.std.proofs.lemmas.Result.{err_from_is_err_and}
use Rattle.machine.specs.Borrow as rules
use Rattle.promise.specs.Serves.{to_borrow, lends, loan_of}
use Rattle.promise.proofs.Uses.{owed}
use Rattle.pool.specs.Asked.{holding}
use Rattle.pool.specs.Reading.{lent_by}
use Rattle.pool.proofs.Sizes.{fit_frames, fit_cells}
use Rattle.pool.proofs.Exchanges.{denial_ring, unheld_served, denied_served, exchange_of, same_report}
use Rattle.pool.proofs.Owed.{asked_fit, asked_denied, asked_misfit_by, served_as, loans_lent}
use Rattle.pool.proofs.state.Pool.borrow.Goals as goal

pub returns-in_err-fits-clause-asked : goal.returns-in_err-fits-clause-asked
returns-in_err-fits-clause-asked g c =
    let b = c.in_err-fits.ensures in
    asked_misfit_by g.K.Key.meaning _ _ (lent_by g.K.Key.meaning) _ c.from_residual.result (λ x. refl) c.from_residual.ensures.1 b.number b.layer

pub returns-then-not-holds-clause-asked : goal.returns-then-not-holds-clause-asked
returns-then-not-holds-clause-asked g c =
    let e = sym c.in_ok-fits.ensures.number in
    asked_denied g.K.Key.meaning _ _ _ e c.requires (rw c.into.ensures (unheld_served g.K.Key.meaning (g.K.Key.meaning c.args.key) _ e (sym c.if-not-holds.ensures)))

pub borrow_over-requires : goal.borrow_over-requires
borrow_over-requires g c =
    let h = holding c.args.self.now c.args.frames.now c.args.cells.now (g.S.Store.meant c.args.store.now) in
    let e = sym c.in_ok-fits.ensures.number in
    let r = c.requires e in
    let n = fit_cells h e in
    record { frames = (owed.limits _ r.led).count_high; memory = omega arith; stands = r.stands; facts = (owed.facts _ r.led).well }

pub returns-in_err-granted-clause-asked : goal.returns-in_err-granted-clause-asked
returns-in_err-granted-clause-asked g c =
    let h = holding c.args.self.now c.args.frames.now c.args.cells.now (g.S.Store.meant c.args.store.now) in
    let e = sym c.in_ok-fits.ensures.number in
    let p = err_from_is_err_and c.from_residual-in_err-granted.result c.from_residual-in_err-granted.ensures.1 in
    let b = c.in_err-granted.ensures in
    let q = ap (lent_by g.K.Key.meaning) (p.1 ∙ ap Err p.2) ∙ denial_ring c.in_err-granted.field-0.0 in
    asked_fit g.K.Key.meaning _ h _ _ e c.requires b.stands
    (served_as g.K.Key.meaning (to_borrow (g.K.Key.meaning c.args.key)) h _ q (denied_served g.K.Key.meaning (g.K.Key.meaning c.args.key) h _ _ e (sym c.if-not-holds.ensures) b.borrowed)) refl refl

pub returns-in_err-granted-clause-loans : goal.returns-in_err-granted-clause-loans
returns-in_err-granted-clause-loans g c =
    loans_lent g.K.Key.meaning (g.K.Key.meaning c.args.key) (holding c.args.self.now c.args.frames.now c.args.cells.now (g.S.Store.meant c.args.store.now)) _ c.from_residual-in_err-granted.result (sym c.in_ok-fits.ensures.number) c.requires (returns-in_err-granted-clause-asked g c)

pub settle-requires : goal.settle-requires
settle-requires g c =
    let h = holding c.args.self.now c.args.frames.now c.args.cells.now (g.S.Store.meant c.args.store.now) in
    let e = sym c.in_ok-fits.ensures.number in
    let b = c.in_ok-granted.ensures in
    let x = exchange_of g.K.Key.meaning h (g.K.Key.meaning c.args.key) c.in_ok-granted.granted _ e (owed.facts _ (c.requires e).led) (sym c.if-not-holds.ensures) b.borrowed b.written in
    record { part = omega (arith, x.part, fit_frames h e); takes = x.takes; holds = x.holds }

pub returns-clause-asked : goal.returns-clause-asked
returns-clause-asked g c =
    let h = holding c.args.self.now c.args.frames.now c.args.cells.now (g.S.Store.meant c.args.store.now) in
    let e = sym c.in_ok-fits.ensures.number in
    let b = c.in_ok-granted.ensures in
    let x = exchange_of g.K.Key.meaning h (g.K.Key.meaning c.args.key) c.in_ok-granted.granted _ e (owed.facts _ (c.requires e).led) (sym c.if-not-holds.ensures) b.borrowed b.written in
    let q = ap (λ (r : rules.Report). lends (loan_of c.in_ok-granted.granted.frame.0 c.args.self.now.number.0) r) (same_report g.K.Key.meaning c.in_ok-granted.granted.report c.by_key.result c.by_key.ensures) in
    asked_fit g.K.Key.meaning _ h _ _ e c.requires b.stands
    (served_as g.K.Key.meaning (to_borrow (g.K.Key.meaning c.args.key)) h _ q (x.serves _ _ c.settle.ensures.filled c.settle.ensures.store)) refl refl

pub returns-clause-loans : goal.returns-clause-loans
returns-clause-loans g c =
    loans_lent g.K.Key.meaning (g.K.Key.meaning c.args.key) (holding c.args.self.now c.args.frames.now c.args.cells.now (g.S.Store.meant c.args.store.now)) _ (Ok (record { frame = c.in_ok-granted.granted.frame; pool = c.args.self.now.number }, c.by_key.result)) (sym c.in_ok-fits.ensures.number) c.requires (returns-clause-asked g c)
