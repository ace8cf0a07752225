use Rattle.std.proofs.Common.{refl, ◌∙◌}
use Rattle.rows.proofs.Stand.{intact, row_inside, row_members, less, cut_stands}
use Rattle.rows.proofs.Filing.{placed, goes}
use Rattle.rows.proofs.Table.take_out.Goals as goal

pub refile-requires : goal.refile-requires
refile-requires g c = record {
  intact = intact c.args.cells.now c.args.self.now c.requires.stands;
  inside = row_inside c.args.cells.now c.args.self.now c.requires.stands c.args.row c.requires.there;
  there = placed _ c.args.row (row_members c.args.cells.now c.args.self.now c.requires.stands c.args.row c.requires.there);
}

pub sub-self-requires : goal.sub-self-requires
sub-self-requires g c = rw c.of.ensures (less c.args.cells.now c.args.self.now c.requires.stands c.args.row c.requires.there)

pub returns : goal.returns
returns g c =
    let t = c.refile in
    cut_stands c.args.cells.now c.args.self.now c.requires.stands c.args.row c.requires.there t.new.cells t.new.chains c.sub-self.result t.ensures.intact (t.ensures.shape ∙ goes _ c.args.row (row_members c.args.cells.now c.args.self.now c.requires.stands c.args.row c.requires.there))
    (rw (c.sub-self.ensures, c.of.ensures) refl)
