use Rattle.std.proofs.Common.{refl}
use Rattle.tree.specs.Shape.{levels_from, levels_of, width, blocks_from}
use Rattle.tree.specs.Tree.{node, level, lowest, tree, root}
use Rattle.layers.specs.Verity.{walk, verity}
use Rattle.layers.specs.Cache.{cache_layer}
use Rattle.volume.specs.Words.{sums_to_zero}
use Rattle.volume.specs.Start.{start_of, start}
use Rattle.volume.specs.Header.{header_of, header}
use Rattle.volume.specs.Walk.{seek}
use Rattle.volume.specs.Use.{enter, follow}
use Rattle.volume.specs.Paths.{enter_all, file_at, open_path, list_path}
use Rattle.calls.specs.Calls.{begin_rules, open_rules, read_rules, whole_rules, list_rules, close_rules}
use Rattle.calls.specs.Mount.{mount}
use Rattle.mount_cases.proofs.calls_stand.Goals as goal

pub returns : goal.returns
unfolding levels_from levels_of width blocks_from node level lowest tree root walk verity cache_layer sums_to_zero start_of start header_of header seek enter follow enter_all file_at open_path list_path begin_rules open_rules read_rules whole_rules list_rules close_rules mount
returns c = record {
  begins_again = refl;
  open_not_begun = refl;
  read_not_begun = refl;
  whole_not_begun = refl;
  list_not_begun = refl;
  close_not_begun = refl;
  not_begun_before_held = refl;
  not_begun_before_handle = refl;
  last_handle = refl;
  all_held = refl;
  read_all_held = refl;
  read_unheld = refl;
  read_longer = refl;
  read_shorter = refl;
  read_eight = refl;
  read_nothing = refl;
  read_to_the_end = refl;
  read_past_the_end = refl;
  read_handle_before_offset = refl;
  whole_file = refl;
  whole_to_the_end = refl;
  whole_past_the_end = refl;
  whole_unheld = refl;
  whole_shorter = refl;
  whole_longer = refl;
  whole_handle_before_length = refl;
  whole_unheld_before_length = refl;
  list_first = refl;
  list_shorter = refl;
  list_longer = refl;
  list_length_before_path = refl;
  closes = refl;
  close_another = refl;
  close_unheld = refl;
  label_begin = refl;
  label_before_begun = refl;
  label_asks = refl;
  image_bytes = refl;
}
