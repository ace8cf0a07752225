use Rattle.std.proofs.Common.{◌<◌, length, Some, None, sym, refl, ap, ◌∙◌, subst, arith}
use Rattle.chains.specs.Shape.{name_of}
use Rattle.chains.proofs.Shapes.{size_is}
use Rattle.rows.specs.Rows.{rows_in, Fits, Placed, refiled}
use Rattle.rows.proofs.Stand.{intact}
use Rattle.rows.proofs.Entering.{free_there, room_for, free_inside, free_placed, free_comes, joined_stands, fits_slot}
use Rattle.rows.proofs.Table.enter.Goals as goal

pub unwrap-i-requires : goal.unwrap-i-requires
unwrap-i-requires g c = free_there c.args.cells.now c.args.self.now c.requires.stands c.requires.room _ c.first.ensures

pub note-requires : goal.note-requires
note-requires g c = record {
  intact = intact c.args.cells.now c.args.self.now c.requires.stands;
  fits = subst (λ n. Fits n c.args.new.frame) (sym (size_is c.args.cells.now c.args.self.now.chains)) (fits_slot (length c.args.cells.now) (rows_in c.args.cells.now c.args.self.now) c.args.new.frame c.requires.frame);
}

pub refile-requires : goal.refile-requires
refile-requires g c =
    let e = ap name_of (sym c.unwrap-i.ensures) ∙ c.first.ensures in
    record {
      intact = c.note.ensures.intact;
      inside = subst (λ s. c.unwrap-i.result.0 < s.size) (sym c.note.ensures.shape) (free_inside c.args.cells.now c.args.self.now c.requires.stands c.requires.room c.unwrap-i.result e);
      there = subst (Placed c.unwrap-i.result.0 None) (sym c.note.ensures.shape) (free_placed c.args.cells.now c.args.self.now c.requires.stands c.requires.room c.unwrap-i.result e);
    }

pub add-self-requires : goal.add-self-requires
add-self-requires g c = rw c.of.ensures (room_for c.args.cells.now c.args.self.now c.requires.stands c.requires.room c.args.new (omega arith))

pub returns : goal.returns
returns g c =
    let e = ap name_of (sym c.unwrap-i.ensures) ∙ c.first.ensures in
    let t = c.refile in
    joined_stands c.args.cells.now c.args.self.now c.requires.stands c.requires.room c.unwrap-i.result e t.new.cells t.new.chains c.add-self.result t.ensures.intact c.args.new c.requires.frame
    (t.ensures.shape ∙ ap (refiled c.unwrap-i.result.0 (Some c.args.new)) c.note.ensures.shape ∙ free_comes c.args.cells.now c.args.self.now c.requires.stands c.requires.room c.unwrap-i.result e c.args.new)
    (rw (c.add-self.ensures, c.of.ensures) refl)
