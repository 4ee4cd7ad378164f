use Rattle.tree.proofs.Levels.{levels_stand_lem}
use Rattle.tree.proofs.laws.levels_stand.Goals as goal

pub returns : goal.returns
returns c = levels_stand_lem
