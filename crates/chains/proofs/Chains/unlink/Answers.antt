use Rattle.std.proofs.Common.{◌≡◌, ◌<◌, length, sym, ap, ◌∙◌, rules, Some}
use Rattle.chains.specs.Orders.{order_of, without}
use Rattle.chains.specs.Cells.{place}
use Rattle.chains.specs.Shape.{shape_of, ends_at, Intact}
use Rattle.chains.proofs.Shapes.{is_there, one_changed}
use Rattle.chains.proofs.Chains.unlink.Goals as goal

pub unwrap-ends-requires : goal.unwrap-ends-requires
unfolding shape_of
unwrap-ends-requires g c = rw c.at.ensures (is_there c.args.cells.now c.args.which (ends_at c.args.self.now c.args.which) c.args.i.0 c.requires.there)

pub unlink-requires : goal.unlink-requires
unfolding shape_of Intact
unlink-requires g c =
    let q : ends_at c.args.self.now c.args.which ≡ Some c.unwrap-ends.result = sym c.at.ensures ∙ c.unwrap-ends.ensures in
    record {
      sound = rw q at (c.requires.intact c.args.which);
      there = rw q at c.requires.there;
    }

pub returns : goal.returns
returns g c =
    let q : ends_at c.args.self.now c.args.which ≡ Some c.unwrap-ends.result = sym c.at.ensures ∙ c.unwrap-ends.ensures in
    let e = c.unlink.ensures in
    let w = c.args.which in
    let o = e.order ∙ ap (λ x. without c.args.i.0 (order_of c.args.cells.now w x)) (sym q) in
    let r : place w < length c.args.self.now.ends = search rules in
    let k = one_changed c.args.cells.now c.unlink.new.cells c.args.self.now _ w c.unlink.result (without c.args.i.0) e.others e.sound o (search rules) r c.requires.intact in
    record { intact = k.0; shape = k.1 }
