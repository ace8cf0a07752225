use Rattle.std.proofs.Common.{length, refl}
use Rattle.pool.proofs.Openings.{opened_so}
use Rattle.pool.proofs.state.Pool.open.Goals as goal

pub returns-clause-opened : goal.returns-clause-opened
returns-clause-opened g c =
    opened_so g.K.Key.meaning _ _ _ _ (length c.args.cells.now) _ c.requires c.page_size-size.ensures.law refl refl refl refl c.open-ring.ensures.stands c.open-ring.ensures.state
