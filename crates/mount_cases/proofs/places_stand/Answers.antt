use Rattle.std.proofs.Common.{refl}
use Rattle.volume.specs.Words.{sums_to_zero}
use Rattle.volume.specs.Start.{start_of, start}
use Rattle.volume.specs.Header.{header_of, header}
use Rattle.volume.specs.Walk.{seek}
use Rattle.volume.specs.Use.{enter, follow}
use Rattle.volume.specs.Paths.{enter_all, file_at, open_path, list_path}
use Rattle.calls.specs.Calls.{begin_rules, open_rules, read_rules, whole_rules, list_rules, close_rules}
use Rattle.mount_cases.proofs.places_stand.Goals as goal

pub returns : goal.returns
unfolding sums_to_zero start_of start header_of header seek enter follow enter_all file_at open_path list_path begin_rules open_rules read_rules whole_rules list_rules close_rules
returns c = record {
  of_begin = refl;
  of_begin_later = refl;
  of_open = refl;
  of_list = refl;
  of_read = refl;
  of_read_later = refl;
  of_whole = refl;
  of_second = refl;
  of_target = refl;
  of_index = refl;
}
