use Rattle.std.proofs.Common.{refl}
use Rattle.tree.specs.Shape.{levels_from, levels_of, width, blocks_from}
use Rattle.tree.specs.Tree.{node, level, lowest, tree, root}
use Rattle.layers.specs.Verity.{walk, verity}
use Rattle.mount_cases.proofs.checks_stand.Goals as goal

pub returns : goal.returns
unfolding levels_from levels_of width blocks_from node level lowest tree root walk verity
returns c = record {
  label = refl;
  label_before_block = refl;
  label_asks = refl;
  of_tree = refl;
  longer = refl;
  shorter = refl;
  behind = refl;
  of_tree_asks = refl;
  behind_asks = refl;
  first = refl;
  last = refl;
  asks_127 = refl;
  asks_128 = refl;
  no_level = refl;
  no_level_wrong = refl;
  no_level_asks = refl;
}
