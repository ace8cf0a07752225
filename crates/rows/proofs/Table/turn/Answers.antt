use Rattle.std.proofs.Common.{refl, ◌∙◌, arith}
use Rattle.rows.proofs.Stand.{intact, row_inside, row_members, less, more, turned_stands}
use Rattle.rows.proofs.Filing.{placed, turns}
use Rattle.rows.proofs.Table.turn.Goals as goal

pub refile-requires : goal.refile-requires
refile-requires g c = record {
  intact = intact c.args.cells.now c.args.self.now c.requires.stands;
  inside = row_inside c.args.cells.now c.args.self.now c.requires.stands c.args.row c.requires.there;
  there = placed _ c.args.row (row_members c.args.cells.now c.args.self.now c.requires.stands c.args.row c.requires.there);
}

pub sub-requires : goal.sub-requires
sub-requires g c = rw c.of.ensures (less c.args.cells.now c.args.self.now c.requires.stands c.args.row c.requires.there)

pub add-self-requires : goal.add-self-requires
add-self-requires g c = rw (c.sub.ensures, c.of.ensures, c.of-2.ensures) (more c.args.cells.now c.args.self.now c.requires.stands c.args.row c.requires.there c.args.new (omega arith))

pub returns : goal.returns
returns g c =
    let t = c.refile in
    turned_stands c.args.cells.now c.args.self.now c.requires.stands c.args.row c.requires.there t.new.cells t.new.chains c.add-self.result t.ensures.intact c.args.new c.requires.frame (t.ensures.shape ∙ turns _ c.args.row (row_members c.args.cells.now c.args.self.now c.requires.stands c.args.row c.requires.there) c.args.new)
    (rw (c.add-self.ensures, c.sub.ensures, c.of.ensures, c.of-2.ensures) refl)
