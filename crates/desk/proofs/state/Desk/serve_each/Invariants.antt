use Rattle.pool.specs.Asked.{holding}
use Rattle.desk.specs.Reading.{desk_of}
use Rattle.desk.specs.Serving.{AtDesk}
use Rattle.desk.proofs.Lists.{Played}
use Rattle.desk.proofs.state.Desk.serve_each.Given as goal

abbrev pub invariant-loop-order : goal.invariant-loop-order
invariant-loop-order g l =
    let w = g.K.Key.meaning in
    let h = holding l.self.pool l.frames l.cells (g.S.Store.meant l.store) in
    let o = holding l.initial.self.pool l.initial.frames l.initial.cells (g.S.Store.meant l.initial.store) in
    AtDesk w h l.self.hands.items × Played w (desk_of w o l.initial.self.hands.items) l.orders l.order-index l.replies.items (desk_of w h l.self.hands.items)
