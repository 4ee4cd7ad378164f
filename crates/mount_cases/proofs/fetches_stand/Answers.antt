use Rattle.std.proofs.Common.{refl}
use Rattle.tree.specs.Shape.{levels_from, levels_of, width, blocks_from}
use Rattle.tree.specs.Tree.{node, level, lowest, tree, root}
use Rattle.layers.specs.Verity.{walk, verity}
use Rattle.layers.specs.Cache.{cache_layer}
use Rattle.volume.specs.Words.{sums_to_zero}
use Rattle.volume.specs.Start.{start_of, start}
use Rattle.volume.specs.Header.{header_of, header}
use Rattle.volume.specs.Walk.{seek}
use Rattle.volume.specs.Use.{enter, follow}
use Rattle.volume.specs.Paths.{enter_all, file_at, open_path, list_path}
use Rattle.calls.specs.Calls.{begin_rules, open_rules, read_rules, whole_rules, list_rules, close_rules}
use Rattle.calls.specs.Mount.{mount}
use Rattle.mount_cases.proofs.fetches_stand.Goals as goal

pub returns : goal.returns
unfolding levels_from levels_of width blocks_from node level lowest tree root walk verity cache_layer sums_to_zero start_of start header_of header seek enter follow enter_all file_at open_path list_path begin_rules open_rules read_rules whole_rules list_rules close_rules mount
returns c = record {
  asks_two = refl;
  asks_three = refl;
  asks_one = refl;
  asks_last_byte = refl;
  asks_one_more = refl;
  none_at_start = refl;
  none_within = refl;
  no_bytes = refl;
  within = refl;
  across = refl;
  whole_block = refl;
  refused = refl;
  none_after = refl;
  begin_asks = refl;
  begin_again_asks = refl;
  list_asks = refl;
  read_asks = refl;
  alone_begin_again_asks = refl;
  alone_list_asks = refl;
  alone_read_asks = refl;
  begin_again_fetches = refl;
  bad_path_fetches = refl;
  bad_list_fetches = refl;
  list_length_fetches = refl;
  read_nothing_fetches = refl;
  close_fetches = refl;
  read_fetches = refl;
}
