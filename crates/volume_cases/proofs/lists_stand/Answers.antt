use Rattle.std.proofs.Common.{refl}
use Rattle.volume.specs.Words.{sums_to_zero}
use Rattle.volume.specs.Start.{start_of, start}
use Rattle.volume.specs.Header.{header_of, header}
use Rattle.volume.specs.Walk.{seek}
use Rattle.volume.specs.Use.{enter, follow}
use Rattle.volume.specs.Paths.{enter_all, file_at, open_path, list_path}
use Rattle.calls.specs.Calls.{begin_rules, open_rules, list_rules}
use Rattle.volume_cases.proofs.lists_stand.Goals as goal

pub returns : goal.returns
unfolding sums_to_zero start_of start header_of header seek enter follow enter_all file_at open_path list_path begin_rules open_rules list_rules
returns c = record {
  longer_wanted = refl;
  shorter_wanted = refl;
  one_dot = refl;
  three_dots = refl;
  first_of_two = refl;
  entry_0 = refl;
  entry_1 = refl;
  entry_2 = refl;
  not_looked_at = refl;
  second = refl;
  third = refl;
}
