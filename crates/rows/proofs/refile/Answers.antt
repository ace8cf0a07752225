use Rattle.chains.specs.declared.cell.Chain.TheVariants.{Ring, Cold, Test, Free}
use Rattle.rows.proofs.refile.Goals as goal

pub follow-requires : goal.follow-requires
follow-requires g c = record {
  intact = c.put.ensures.intact;
  cell = rw c.put.ensures.shape c.requires.inside;
  member = rw (c.put.ensures.shape, c.belongs.ensures) (c.requires.there Ring);
}

pub follow-requires-2 : goal.follow-requires-2
follow-requires-2 g c = record {
  intact = c.follow.ensures.intact;
  cell = rw (c.follow.ensures.shape, c.put.ensures.shape) c.requires.inside;
  member = rw (c.follow.ensures.shape, c.put.ensures.shape, c.belongs-3.ensures) (c.requires.there Cold);
}

pub follow-requires-3 : goal.follow-requires-3
follow-requires-3 g c = record {
  intact = c.follow-2.ensures.intact;
  cell = rw (c.follow-2.ensures.shape, c.follow.ensures.shape, c.put.ensures.shape) c.requires.inside;
  member = rw (c.follow-2.ensures.shape, c.follow.ensures.shape, c.put.ensures.shape, c.belongs-5.ensures) (c.requires.there Test);
}

pub follow-requires-4 : goal.follow-requires-4
follow-requires-4 g c = record {
  intact = c.follow-3.ensures.intact;
  cell = rw (c.follow-3.ensures.shape, c.follow-2.ensures.shape, c.follow.ensures.shape, c.put.ensures.shape) c.requires.inside;
  member = rw (c.follow-3.ensures.shape, c.follow-2.ensures.shape, c.follow.ensures.shape, c.put.ensures.shape, c.belongs-7.ensures) (c.requires.there Free);
}
