use Rattle.rows.proofs.rewire.Goals as goal

pub keep-requires : goal.keep-requires
keep-requires g c = record { intact = c.put.ensures.intact; member = rw (c.put.ensures.shape, c.is_cold_resident.ensures) c.requires.there.cold }

pub keep-requires-2 : goal.keep-requires-2
keep-requires-2 g c = record { intact = c.keep.ensures.intact; member = rw (c.keep.ensures.shape, c.put.ensures.shape) c.requires.there.test }
