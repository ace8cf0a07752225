use Rattle.std.proofs.Common.{rules}
use Rattle.chains.proofs.Rewired.{links_are}
use Rattle.chains.proofs.link.links_of.Goals as goal

pub returns-clause-ahead : goal.returns-clause-ahead
returns-clause-ahead g c = (links_are _ _ _ _ _ c.requires (search rules)).0

pub returns-clause-back : goal.returns-clause-back
returns-clause-back g c = (links_are _ _ _ _ _ c.requires (search rules)).1
