use Rattle.chains.proofs.Shapes.{intact_none, order_none, no_ends}
use Rattle.chains.proofs.Chains.empty.Goals as goal

pub returns : goal.returns
returns g c = record {
  intact = intact_none c.args.cells.now _ no_ends;
  none = order_none c.args.cells.now _ no_ends;
}
