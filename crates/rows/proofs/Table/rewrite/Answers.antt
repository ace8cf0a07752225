use Rattle.std.proofs.Common.{refl, arith}
use Rattle.rows.proofs.Stand.{intact, row_members, less, more, put_stands}
use Rattle.rows.proofs.Table.rewrite.Goals as goal

pub rewire-requires : goal.rewire-requires
rewire-requires g c = record {
  intact = intact c.args.cells.now c.args.self.now c.requires.stands;
  there = row_members c.args.cells.now c.args.self.now c.requires.stands c.args.row c.requires.there;
}

pub sub-requires : goal.sub-requires
sub-requires g c = rw c.of.ensures (less c.args.cells.now c.args.self.now c.requires.stands c.args.row c.requires.there)

pub add-self-requires : goal.add-self-requires
add-self-requires g c = rw (c.sub.ensures, c.of.ensures, c.of-2.ensures) (more c.args.cells.now c.args.self.now c.requires.stands c.args.row c.requires.there c.args.new (omega arith))

pub returns : goal.returns
returns g c =
    let t = c.rewire in
    put_stands c.args.cells.now c.args.self.now c.requires.stands c.args.row c.requires.there t.new.cells t.new.chains c.add-self.result t.ensures.intact c.args.new c.requires.frame c.requires.cold c.requires.test t.ensures.shape
    (rw (c.add-self.ensures, c.sub.ensures, c.of.ensures, c.of-2.ensures) refl)
