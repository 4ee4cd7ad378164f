use Rattle.std.proofs.Common.{refl}
use Rattle.volume.specs.Words.{sums_to_zero}
use Rattle.volume.specs.Start.{start_of, start}
use Rattle.volume.specs.Header.{header_of, header}
use Rattle.volume.specs.Walk.{seek}
use Rattle.volume.specs.Use.{enter, follow}
use Rattle.volume.specs.Paths.{enter_all, file_at, open_path, list_path}
use Rattle.calls.specs.Calls.{begin_rules, open_rules, list_rules}
use Rattle.volume_cases.proofs.paths_stand.Goals as goal

pub returns : goal.returns
unfolding sums_to_zero start_of start header_of header seek enter follow enter_all file_at open_path list_path begin_rules open_rules list_rules
returns c = record {
  in_front = refl;
  alone = refl;
  dot = refl;
  dots = refl;
  dot_within = refl;
  dots_behind = refl;
  empty_path = refl;
  first_bad = refl;
  bad_before_missing = refl;
  listed_empty = refl;
  listed_dot = refl;
  listed_first_bad = refl;
  third = refl;
  third_missing = refl;
  second_missing = refl;
  first_missing = refl;
  third_is_file = refl;
  second_sought = refl;
  second_followed = refl;
  second_entered = refl;
  second_outside = refl;
  second_link_info = refl;
  second_file_info = refl;
  second_data = refl;
  second_links = refl;
  second_linked_directory = refl;
  second_linked_info = refl;
  second_ninth_info = refl;
  second_eighth_info = refl;
  second_eighth_to_directory = refl;
  second_directory = refl;
  second_pipe = refl;
  second_eighth_to_pipe = refl;
  second_passed = refl;
  index_missing = refl;
  index_of_root = refl;
  index_fault = refl;
  listed_missing = refl;
  listed_second_missing = refl;
  third_not_listed = refl;
  not_listed = refl;
}
