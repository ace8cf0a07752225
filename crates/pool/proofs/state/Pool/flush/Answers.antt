use Rattle.std.proofs.Common.{ℕ, sym, refl, ap, ◌∙◌, arith}
use Rattle.stores.specs.Parts.{part_of}
use Rattle.machine.specs.Borrow.{occupant}
use Rattle.ring.specs.Model.{machine_of}
use Rattle.promise.specs.Serves.{sent_out}
use Rattle.promise.proofs.Uses.{owed}
use Rattle.pool.specs.declared.state.PoolNo.{PoolNo}
use Rattle.pool.specs.Asked.{holding, state}
use Rattle.pool.specs.Reading.{flushed_by}
use Rattle.pool.proofs.Sizes.{fit_frames, within}
use Rattle.pool.proofs.Owed.{asked_fit, asked_misfit_by, loans_flushed}
use Rattle.pool.proofs.Frames.{start, takes, same_size, turn, finish_of}
use Rattle.pool.proofs.state.Pool.flush.Goals as goal

pub returns-in_err-fits-clause-asked : goal.returns-in_err-fits-clause-asked
returns-in_err-fits-clause-asked g c =
    let b = c.in_err-fits.ensures in asked_misfit_by g.K.Key.meaning _ _ flushed_by _ c.from_residual.result (λ x. refl) c.from_residual.ensures.1 b.number b.layer

pub loop-f-init : goal.loop-f-init
loop-f-init g c =
    let r = c.requires (sym c.in_ok-fits.ensures.number) in record { stands = r.stands; flushing = start _ (owed.facts _ r.led); number = refl; count = refl }

pub flush_frame-written-requires : goal.flush_frame-written-requires
flush_frame-written-requires g c =
    let h = holding c.args.self.now c.args.frames.now c.args.cells.now (g.S.Store.meant c.args.store.now) in
    let s = state g.K.Key.meaning h in
    let e = sym c.in_ok-fits.ensures.number in
    let v = owed.facts s (c.requires e).led in
    let i = c.loop-f.invariant in
    let w = within c.loop-f.f c.args.self.now.frames (g.S.Store.meant c.args.store.now).size _ c.loop-f-test.true (fit_frames h e) in
    record { part = rw (same_size s _ _ _ _ i.flushing) w; stands = i.stands; takes = takes s _ _ _ _ v i.flushing }

pub loop-f-preserved : goal.loop-f-preserved
loop-f-preserved g c =
    let m = g.S.Store.meant in
    let s = state g.K.Key.meaning (holding c.args.self.now c.args.frames.now c.args.cells.now (g.S.Store.meant c.args.store.now)) in
    let i = c.loop-f.invariant in
    let b = c.flush_frame-written.ensures in
    let t = machine_of g.K.Key.meaning c.loop-f.cells c.loop-f.self.ring in
    let e = b.store ∙ ap (λ (p : ℕ). sent_out (part_of p c.args.frames.now c.loop-f.f) (occupant c.loop-f.f t) (m c.loop-f.store)) (same_size s _ _ _ _ i.flushing) in
    let x = turn s c.loop-f.f t _ (m c.loop-f.store) _ c.loop-f.written (owed.facts s (c.requires (sym c.in_ok-fits.ensures.number)).led) i.flushing b.marks e in
    record { stands = b.stands; flushing = rw b.written x; number = b.number ∙ i.number; count = b.count ∙ i.count }

pub returns-clause-asked : goal.returns-clause-asked
returns-clause-asked g c =
    let h = holding c.args.self.now c.args.frames.now c.args.cells.now (g.S.Store.meant c.args.store.now) in
    let e = sym c.in_ok-fits.ensures.number in
    let i = c.loop-f.invariant in
    asked_fit g.K.Key.meaning _ h _ _ e c.requires i.stands
    (finish_of g.K.Key.meaning h c.loop-f.self.number.0 c.loop-f.self.frames c.loop-f.f _ _ _ e (owed.facts _ (c.requires e).led) (ap (λ (x : PoolNo). x.0) i.number) i.count
    (omega (arith, c.loop-f-test.false, c.loop-f.auto.f-end)) i.flushing) i.number i.count

pub returns-clause-loans : goal.returns-clause-loans
returns-clause-loans g c = loans_flushed g.K.Key.meaning (holding c.args.self.now c.args.frames.now c.args.cells.now (g.S.Store.meant c.args.store.now)) _ _ (sym c.in_ok-fits.ensures.number) c.requires (returns-clause-asked g c)
