use Rattle.keys.proofs.Compare.{exactly}
use Rattle.keys.proofs.keys_compare.Goals as goal

pub returns : goal.returns
returns c = exactly
