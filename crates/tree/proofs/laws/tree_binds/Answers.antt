use Rattle.tree.proofs.Binding.{tree_binds_lem}
use Rattle.tree.proofs.laws.tree_binds.Goals as goal

pub returns : goal.returns
returns c = tree_binds_lem
