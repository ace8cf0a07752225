use Rattle.std.proofs.Common.{◌≤◌, length, sym, refl, arith, rules}
use Rattle.pool.specs.Asked.{holding}
use Rattle.pool.specs.Reading.{loan_in, shown_by}
use Rattle.pool.proofs.Requests.{placed, view_denied, view_served}
use Rattle.pool.proofs.Owed.{asked_denied, asked_misfit_by}
use Rattle.pool.proofs.state.Pool.view.Goals as goal

pub returns-in_err-fits : goal.returns-in_err-fits
returns-in_err-fits g c =
    let b = c.in_err-fits.ensures in asked_misfit_by g.K.Key.meaning _ _ shown_by _ c.from_residual.result (λ x. refl) c.from_residual.ensures.1 b.number b.layer

pub returns-then-not-is_good : goal.returns-then-not-is_good
returns-then-not-is_good g c =
    let e = sym c.in_ok-fits.ensures.number in asked_denied g.K.Key.meaning _ _ _ e c.requires (view_denied g.K.Key.meaning _ _ e (sym c.if-not-is_good.ensures))

pub place-requires : goal.place-requires
place-requires g c = omega (arith, (placed g.K.Key.meaning (holding c.args.self.now c.args.frames.now c.args.cells.now (g.S.Store.meant c.args.store.now)) _ _ c.page_size.ensures.size (sym c.in_ok-fits.ensures.number) c.requires (sym c.if-not-is_good.ensures)).small)

pub slice_bounds-result-end : goal.slice_bounds-result-end
slice_bounds-result-end g c =
    let p = placed g.K.Key.meaning (holding c.args.self.now c.args.frames.now c.args.cells.now (g.S.Store.meant c.args.store.now)) _ _ c.page_size.ensures.size (sym c.in_ok-fits.ensures.number) c.requires (sym c.if-not-is_good.ensures) in
    let q : c.place.result.end ≤ length c.args.frames.now = omega (arith, p.within, c.place.ensures.end) in search rules

pub returns : goal.returns
returns g c =
    let h = holding c.args.self.now c.args.frames.now c.args.cells.now (g.S.Store.meant c.args.store.now) in
    let e = sym c.in_ok-fits.ensures.number in
    let d = view_served g.K.Key.meaning h c.page_size.result (loan_in c.args.loan.now) c.page_size.ensures.size e (sym c.if-not-is_good.ensures) in
    asked_denied g.K.Key.meaning _ h _ e c.requires (rw (c.place.ensures.start, c.place.ensures.end) d)
