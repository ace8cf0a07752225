use Rattle.std.proofs.Common.{ℕ, ◌+◌, ◌<◌, length, Ok, sym, refl, ap, ◌∙◌, arith}
use Rattle.stores.specs.Parts.{laid}
use Rattle.pool.specs.Asked.{holding}
use Rattle.pool.specs.Reading.{loan_in, altered_by}
use Rattle.pool.proofs.Requests.{placed, alter_denied, alter_sealed, alter_past, alter_served}
use Rattle.pool.proofs.Owed.{asked_fit, asked_denied, asked_misfit_by, loans_altered}
use Rattle.pool.proofs.state.Pool.alter.Goals as goal
use Rattle.pool.proofs.state.Pool.alter.Goals.{then-offset-size-via-then-offset-size, then-offset-size-via-else-offset-size+then-bytes-size}

pub returns-in_err-fits-clause-asked : goal.returns-in_err-fits-clause-asked
returns-in_err-fits-clause-asked g c =
    let b = c.in_err-fits.ensures in asked_misfit_by g.K.Key.meaning _ _ altered_by _ c.from_residual.result (λ x. refl) c.from_residual.ensures.1 b.number b.layer

pub returns-then-not-is_good-clause-asked : goal.returns-then-not-is_good-clause-asked
returns-then-not-is_good-clause-asked g c =
    let e = sym c.in_ok-fits.ensures.number in asked_denied g.K.Key.meaning _ _ _ e c.requires (alter_denied g.K.Key.meaning _ _ _ _ e (sym c.if-not-is_good.ensures))

pub returns-then-not-is_open-clause-asked : goal.returns-then-not-is_open-clause-asked
returns-then-not-is_open-clause-asked g c =
    let e = sym c.in_ok-fits.ensures.number in
    asked_denied g.K.Key.meaning _ _ _ e c.requires (rw c.into.ensures (alter_sealed g.K.Key.meaning _ _ _ _ e (sym c.if-not-is_good.ensures) (sym c.if-not-is_open.ensures)))

pub returns-then-offset-size-clause-asked : goal.returns-then-offset-size-clause-asked
returns-then-offset-size-clause-asked g c =
    let e = sym c.in_ok-fits.ensures.number in
    let past : (g.S.Store.meant c.args.store.now).size < c.args.offset + length c.args.bytes.now =
    elim c.then-offset-size.branch [ then-offset-size-via-then-offset-size w ↦ omega (arith, c.page_size-size.ensures.size, w.if-offset-size.true) | then-offset-size-via-else-offset-size+then-bytes-size w ↦ omega (arith, c.page_size-size.ensures.size, w.if-offset-size.false, w.if-bytes-size.true) ] in
    asked_denied g.K.Key.meaning _ _ _ e c.requires (alter_past g.K.Key.meaning _ _ _ _ e (sym c.if-not-is_good.ensures) (sym c.if-not-is_open.ensures) past)

pub place-requires : goal.place-requires
place-requires g c = omega (arith, (placed g.K.Key.meaning (holding c.args.self.now c.args.frames.now c.args.cells.now (g.S.Store.meant c.args.store.now)) _ _ c.page_size-size.ensures.size (sym c.in_ok-fits.ensures.number) c.requires (sym c.if-not-is_good.ensures)).small)

pub lay-requires : goal.lay-requires
lay-requires g c = omega (arith, (placed g.K.Key.meaning (holding c.args.self.now c.args.frames.now c.args.cells.now (g.S.Store.meant c.args.store.now)) _ _ c.page_size-size.ensures.size (sym c.in_ok-fits.ensures.number) c.requires (sym c.if-not-is_good.ensures)).within, c.place.ensures.start)

pub returns-clause-asked : goal.returns-clause-asked
returns-clause-asked g c =
    let h = holding c.args.self.now c.args.frames.now c.args.cells.now (g.S.Store.meant c.args.store.now) in
    let e = sym c.in_ok-fits.ensures.number in
    let b = c.mark_page.ensures in
    let x = c.lay.ensures ∙ ap (λ (a : ℕ). laid (a + c.args.offset) c.args.bytes.now c.args.frames.now) c.place.ensures.start in
    asked_fit g.K.Key.meaning _ h _ _ e c.requires b.stands
    (alter_served g.K.Key.meaning h c.page_size-size.result _ c.args.offset c.args.bytes.now _ _ c.page_size-size.ensures.size e (sym c.if-not-is_good.ensures) (sym c.if-not-is_open.ensures)
    (omega (arith, c.if-offset-size.false, c.if-bytes-size.false)) x b.step) refl refl

pub returns-clause-loans : goal.returns-clause-loans
returns-clause-loans g c = loans_altered g.K.Key.meaning (loan_in c.args.loan.now) c.args.offset c.args.bytes.now (holding c.args.self.now c.args.frames.now c.args.cells.now (g.S.Store.meant c.args.store.now)) _ (Ok tt) (sym c.in_ok-fits.ensures.number) c.requires (returns-clause-asked g c)
