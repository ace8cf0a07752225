use Rattle.std.proofs.Common.{Some}
use Rattle.chains.specs.Orders.{Sound, order_of}
use Rattle.chains.proofs.Splices.{order_is, sound_from, neighbours, unlinked, none_left}
use Rattle.chains.proofs.ends.Ends.unlink.Goals as goal

pub links_of-around-requires : goal.links_of-around-requires
unfolding Sound
links_of-around-requires g c =
    (neighbours c.args.cells.now c.args.which c.args.self c.args.i.0 _ c.requires.sound c.requires.there).here

pub tie-requires : goal.tie-requires
unfolding Sound
tie-requires g c =
    let h = neighbours c.args.cells.now c.args.which c.args.self c.args.i.0 _ c.requires.sound c.requires.there in
    let e = c.links_of-around.ensures in
    (rw e.back h.back, rw e.ahead h.ahead)

pub returns-then-self-eq1-clause-sound : goal.returns-then-self-eq1-clause-sound
unfolding Sound
returns-then-self-eq1-clause-sound g c = tt

pub returns-then-self-eq1-clause-order : goal.returns-then-self-eq1-clause-order
unfolding Sound order_of
returns-then-self-eq1-clause-order g c =
    none_left c.args.cells.now c.args.which c.args.self c.args.i.0 (order_of c.args.cells.now c.args.which (Some c.args.self)) c.requires.sound c.requires.there c.if-self-eq1.true

pub returns : goal.returns
unfolding Sound
returns g c =
    let t = c.tie.ensures in
    let e = c.links_of-around.ensures in
    let k = unlinked c.args.cells.now c.tie.new.cells c.args.which c.args.self c.args.i c.links_of-around.result c.beyond.result c.beyond-2.result _
    (order_of c.args.cells.now c.args.which (Some c.args.self)) c.requires.sound c.requires.there e.ahead e.back t.ahead t.back t.others.size c.beyond.ensures c.beyond-2.ensures in
    record {
      sound = sound_from c.tie.new.cells c.args.which _ _ k;
      order = order_is c.tie.new.cells c.args.which _ _ k;
      others = t.others;
    }
