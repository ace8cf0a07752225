use Rattle.std.proofs.Common.{◌<◌, length, [], ◌∷◌, ◌++◌, Some, ap, ◌∙◌, sym, arith}
use Rattle.chains.specs.Orders.{Sound, order_of}
use Rattle.chains.proofs.Rewired.{framed_on}
use Rattle.chains.proofs.Splices.{order_is, sound_from, alone, within, pushed}
use Rattle.chains.proofs.Steps.{room}
use Rattle.chains.proofs.ends.Ends.push.Goals as goal

pub returns-in_default : goal.returns-in_default
unfolding order_of
returns-in_default g c =
    let t = c.tie.ensures in
    let k = alone c.args.cells.now c.tie.new.cells c.args.which c.args.i _ t.ahead t.back (omega (arith, c.requires.cell, t.others.size)) in
    record {
      sound = sound_from c.tie.new.cells c.args.which _ _ k;
      order = order_is c.tie.new.cells c.args.which _ _ k ∙ sym (ap (λ x. order_of c.args.cells.now c.args.which x ++ c.args.i.0 ∷ []) c.in_default.is);
      others = t.others;
    }

pub tie-requires-2 : goal.tie-requires-2
unfolding Sound
tie-requires-2 g c =
    let s = rw c.in-Some.is at c.requires.sound in
    ((within c.args.cells.now c.args.which c.in-Some.ends _ s).0, c.requires.cell)

pub tie-requires-3 : goal.tie-requires-3
unfolding Sound
tie-requires-3 g c =
    let s = rw c.in-Some.is at c.requires.sound in
    let h : c.in-Some.ends.tail.0 < length c.args.cells.now = (within c.args.cells.now c.args.which c.in-Some.ends _ s).1 in
    let n = c.tie-2.ensures.others.size in
    (omega arith, omega arith)

pub overflow_add-result : goal.overflow_add-result
overflow_add-result g c =
    let s = rw c.in-Some.is at c.requires.sound in
    let m = rw c.in-Some.is at c.requires.free in
    omega (arith, room c.args.cells.now c.args.which c.in-Some.ends s c.args.i.0 c.requires.cell m)

pub returns : goal.returns
unfolding Sound
returns g c =
    let s = rw c.in-Some.is at c.requires.sound in
    let m = rw c.in-Some.is at c.requires.free in
    let t = c.tie-2.ensures in
    let u = c.tie-3.ensures in
    let k = pushed c.args.cells.now c.args.which c.in-Some.ends (order_of c.args.cells.now c.args.which (Some c.in-Some.ends)) s c.tie-2.new.cells c.tie-3.new.cells c.args.i _ c.requires.cell
    t.ahead t.back u.ahead u.back (u.others.size ∙ t.others.size) m in
    record {
      sound = sound_from c.tie-3.new.cells c.args.which _ _ k;
      order = order_is c.tie-3.new.cells c.args.which _ _ k ∙ sym (ap (λ x. order_of c.args.cells.now c.args.which x ++ c.args.i.0 ∷ []) c.in-Some.is);
      others = framed_on _ _ _ _ t.others u.others;
    }
