use Rattle.std.proofs.Common.{◌≡◌, length, vec_items, ◌∙◌}
use Rattle.pool.specs.Asked.{holding}
use Rattle.desk.proofs.Steps.{away}
use Rattle.desk.proofs.serving.call_with.Goals as goal

pub returns : goal.returns
returns g c =
    let n = c.call.new in
    let k : length c.as_mut_slice.result.now ≡ c.args.lent.bytes = c.as_mut_slice.ensures.len ∙ c.in_ok-frames.ensures.len in
    let l : length c.as_mut_slice-2.result.now ≡ c.args.lent.cells = c.as_mut_slice-2.ensures.len ∙ c.in_ok-cells.ensures in
    away g.K.Key.meaning c.args.ask.now c.args.lent
    (holding c.args.pool.now c.as_mut_slice.result.now c.as_mut_slice-2.result.now (g.S.Store.meant c.args.store.now))
    (holding n.pool n.frames n.cells (g.S.Store.meant n.store))
    (vec_items c.args.hands.now) (vec_items n.hands) c.call.result k l c.requires c.call.ensures
