use Rattle.std.proofs.Common.{vec_items, sym}
use Rattle.pool.specs.Asked.{holding}
use Rattle.desk.proofs.Steps.{named_sizes, own_sizes, own_order, other_order}
use Rattle.desk.proofs.serving.serve.Goals as goal

pub returns-then-eq : goal.returns-then-eq
returns-then-eq g c =
    let a = c.args in
    let n = c.call.new in
    let h = holding a.pool.now a.frames.now a.cells.now (g.S.Store.meant a.store.now) in
    let x = own_order g.K.Key.meaning a.order.now h (holding n.pool n.frames n.cells (g.S.Store.meant n.store)) (vec_items a.hands.now) (vec_items n.hands) c.call.result c.requires
    (own_sizes g.K.Key.meaning a.order.now h c.unwrap_or-lent.result c.requires.fits c.unwrap_or-lent.ensures (sym c.if-eq.ensures)) c.call.auto.frames c.call.auto.cells c.call.ensures in
    record { at = x.0; made = x.1 }

pub returns-else-eq : goal.returns-else-eq
returns-else-eq g c =
    let a = c.args in
    let n = c.call_with.new in
    let h = holding a.pool.now a.frames.now a.cells.now (g.S.Store.meant a.store.now) in
    let x = other_order g.K.Key.meaning a.order.now c.unwrap_or-lent.result h n.pool (g.S.Store.meant n.store) (vec_items a.hands.now) (vec_items n.hands) c.call_with.result c.requires
    (named_sizes g.K.Key.meaning a.order.now h c.unwrap_or-lent.result c.requires.fits c.unwrap_or-lent.ensures) c.call_with.ensures in
    record { at = x.0; made = x.1 }
