use Rattle.std.proofs.Common.{◌∷◌, ◌++◌, [], length, sym, ap, ap₂, ◌∙◌, subst, arith}
use Rattle.pool.specs.Asked.{holding}
use Rattle.desk.specs.Reading.{desk_of}
use Rattle.desk.specs.Serving.{Served}
use Rattle.desk.proofs.Lists.{Played, played_none, played_more, served_of}
use Rattle.desk.proofs.state.Desk.serve_each.Goals as goal

pub loop-order-init : goal.loop-order-init
loop-order-init g c =
    (c.requires.at, played_none g.K.Key.meaning (desk_of g.K.Key.meaning (holding c.args.self.now.pool c.args.frames.now c.args.cells.now (g.S.Store.meant c.args.store.now)) c.args.self.now.hands.items) c.args.orders.now c.args.replies.now.items c.requires.none)

pub returns-in_err-reserve-clause-at : goal.returns-in_err-reserve-clause-at
returns-in_err-reserve-clause-at g c = c.loop-order.invariant.0

pub returns-in_err-reserve-clause-served : goal.returns-in_err-reserve-clause-served
returns-in_err-reserve-clause-served g c =
    rw c.in_err-reserve.ensures.items (served_of g.K.Key.meaning _ _ c.args.orders.now c.loop-order.order-index c.loop-order.replies.items c.loop-order.invariant.1)

pub serve-requires : goal.serve-requires
serve-requires g c = c.loop-order.invariant.0

pub returns-in_err-reply-clause-served : goal.returns-in_err-reply-clause-served
returns-in_err-reply-clause-served g c =
    let w = g.K.Key.meaning in
    let s = c.in_err-reply.ensures.made in
    let d = desk_of w (holding c.args.self.now.pool c.args.frames.now c.args.cells.now (g.S.Store.meant c.args.store.now)) c.args.self.now.hands.items in
    let p = served_of w d _ c.args.orders.now c.loop-order.order-index c.loop-order.replies.items c.loop-order.invariant.1 in
    rw c.in_ok-reserve.ensures.items (subst (Served w c.args.orders.now d c.loop-order.replies.items) (sym (ap₂ (desk_of w) s.same s.in_hands)) p)

pub loop-order-preserved : goal.loop-order-preserved
loop-order-preserved g c =
    let w = g.K.Key.meaning in
    let m = c.in_ok-reply.ensures.made in (
      c.in_ok-reply.ensures.at,
      rw (c.push_reserved.ensures.items ∙ ap (λ x. x ++ (c.in_ok-reply.reply ∷ [])) c.in_ok-reserve.ensures.items)
          (played_more w _ _ _ c.args.orders.now c.loop-order.order-index c.loop-order.replies.items c.order-item.result c.in_ok-reply.reply c.loop-order.invariant.1 (omega arith) c.order-item.is m),
    )

pub returns-clause-at : goal.returns-clause-at
returns-clause-at g c = c.loop-order.invariant.0

pub returns-clause-served : goal.returns-clause-served
returns-clause-served g c = served_of g.K.Key.meaning _ _ c.args.orders.now c.loop-order.order-index c.loop-order.replies.items c.loop-order.invariant.1

pub returns-clause-whole : goal.returns-clause-whole
returns-clause-whole g c = let n = c.loop-order.invariant.1.count in omega arith
