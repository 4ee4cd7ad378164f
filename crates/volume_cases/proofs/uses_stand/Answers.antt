use Rattle.std.proofs.Common.{refl}
use Rattle.volume.specs.Words.{sums_to_zero}
use Rattle.volume.specs.Start.{start_of, start}
use Rattle.volume.specs.Header.{header_of, header}
use Rattle.volume.specs.Walk.{seek}
use Rattle.volume.specs.Use.{enter, follow}
use Rattle.volume.specs.Paths.{enter_all, file_at, open_path, list_path}
use Rattle.calls.specs.Calls.{begin_rules, open_rules, list_rules}
use Rattle.volume_cases.proofs.uses_stand.Goals as goal

pub returns : goal.returns
unfolding sums_to_zero start_of start header_of header seek enter follow enter_all file_at open_path list_path begin_rules open_rules list_rules
returns c = record {
  link_info = refl;
  file_info = refl;
  directory_itself = refl;
  directory_below = refl;
  directory_unaligned = refl;
  directory_behind = refl;
  empty_directory = refl;
  empty_listed = refl;
  kind_before_info = refl;
  listed_kind_before_info = refl;
  directory_before_info = refl;
  symbolic_link = refl;
  pipe = refl;
  listed_info = refl;
  at_the_end = refl;
  past_the_end = refl;
  past_the_end_by_48 = refl;
  info_before_data = refl;
  link = refl;
  link_outside = refl;
  linked_directory = refl;
  eighth_to_directory = refl;
  linked_pipe = refl;
  eighth_to_pipe = refl;
  link_before_the_last = refl;
  ninth_info = refl;
  eighth_file_info = refl;
}
