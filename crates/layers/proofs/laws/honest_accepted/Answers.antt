use Rattle.layers.proofs.Judging.{honest_accepted_lem}
use Rattle.layers.proofs.laws.honest_accepted.Goals as goal

pub returns : goal.returns
returns g c = honest_accepted_lem
