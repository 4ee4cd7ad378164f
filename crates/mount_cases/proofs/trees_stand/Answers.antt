use Rattle.std.proofs.Common.{refl}
use Rattle.tree.specs.Shape.{levels_from, levels_of, width, blocks_from}
use Rattle.tree.specs.Tree.{node, level, lowest, tree, root}
use Rattle.tree.specs.Path.{above}
use Rattle.mount_cases.proofs.trees_stand.Goals as goal

pub returns : goal.returns
unfolding levels_from levels_of width blocks_from node level lowest tree root above
returns c = record {
  levels_8 = refl;
  levels_9 = refl;
  levels_64 = refl;
  levels_65 = refl;
  fanout_64 = refl;
  levels_16385 = refl;
  width_0 = refl;
  width_1 = refl;
  width_2 = refl;
  width_3 = refl;
  all_of_it = refl;
  start_2 = refl;
  start_1 = refl;
  start_0 = refl;
  salt_first = refl;
  second_block = refl;
  slot_of_4 = refl;
  lowest_block = refl;
  lowest_level = refl;
  narrow_tree = refl;
  narrow_root = refl;
  second_slot = refl;
  above_last = refl;
  tree_of_129 = refl;
  root_of_129 = refl;
  root_of_2 = refl;
  root_of_1 = refl;
}
