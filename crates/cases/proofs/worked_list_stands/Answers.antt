use Rattle.std.proofs.Common.{refl}
use Rattle.tree.specs.Shape.{levels_from, levels_of, width, blocks_from}
use Rattle.layers.specs.Verity.{walk, verity}
use Rattle.volume.specs.Words.{sums_to_zero}
use Rattle.volume.specs.Start.{start_of, start}
use Rattle.volume.specs.Header.{header_of, header}
use Rattle.volume.specs.Walk.{seek}
use Rattle.volume.specs.Use.{enter, follow}
use Rattle.volume.specs.Paths.{enter_all, file_at, open_path, list_path}
use Rattle.calls.specs.Calls.{begin_rules, open_rules, read_rules, whole_rules, list_rules, close_rules}
use Rattle.cases.specs.Worked.{PathOf128}
use Rattle.cases.proofs.worked_list_stands.Goals as goal

path_of_128_stands : PathOf128
unfolding levels_from levels_of width blocks_from walk verity
path_of_128_stands = record {
  asks = refl;
  accepts = refl;
  slot_0_above = refl;
  slot_1_below = refl;
  wrong_top = refl;
  wrong_low = refl;
  wrong_data = refl;
  after_wrong_top = refl;
  after_wrong_low = refl;
  refused_top = refl;
  refused_low = refl;
  refused_data = refl;
  after_refused_top = refl;
  refused = refl;
  wrong = refl;
  top_level = refl;
  low_level = refl;
  data_level = refl;
}

pub returns : goal.returns
unfolding levels_from levels_of width blocks_from sums_to_zero start_of start header_of header seek enter follow enter_all file_at open_path list_path begin_rules open_rules read_rules whole_rules list_rules close_rules
returns c = record {
  levels_1 = refl;
  tree_1 = refl;
  levels_128 = refl;
  tree_128 = refl;
  levels_129 = refl;
  tree_129 = refl;
  path_of_128 = path_of_128_stands;
  begins = refl;
  opens = refl;
  reads = refl;
  reads_none = refl;
  reads_past = refl;
  other_name = refl;
  empty_component = refl;
  no_directory = refl;
  broken_sum = refl;
  eight_links = refl;
  nine_links = refl;
}
