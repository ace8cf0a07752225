use Rattle.rows.proofs.Stand.{linked}
use Rattle.rows.proofs.Table.idle_count.Goals as goal

pub returns : goal.returns
returns g c = (linked c.args.cells.now c.args.self.now c.requires).unlents
