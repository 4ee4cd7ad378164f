use Rattle.tree.proofs.Paths.{paths_stand_lem}
use Rattle.tree.proofs.laws.paths_stand.Goals as goal

pub returns : goal.returns
returns c = paths_stand_lem
