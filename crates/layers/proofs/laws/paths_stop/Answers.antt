use Rattle.layers.proofs.Stopping.{paths_stop_lem}
use Rattle.layers.proofs.laws.paths_stop.Goals as goal

pub returns : goal.returns
returns g c = paths_stop_lem
