use Rattle.std.proofs.Common.{refl}
use Rattle.volume.specs.Words.{sums_to_zero}
use Rattle.volume.specs.Start.{start_of, start}
use Rattle.volume.specs.Header.{header_of, header}
use Rattle.volume.specs.Walk.{seek}
use Rattle.volume.specs.Use.{enter, follow}
use Rattle.volume.specs.Paths.{enter_all, file_at, open_path, list_path}
use Rattle.calls.specs.Calls.{begin_rules, open_rules, whole_rules, list_rules}
use Rattle.cases.proofs.mixed_card_stands.Goals as goal

pub returns : goal.returns
unfolding sums_to_zero start_of start header_of header seek enter follow enter_all file_at open_path list_path begin_rules open_rules whole_rules list_rules
returns c = record {
  root = refl;
  dir = refl;
  sub = refl;
  noexec = refl;
  empty = refl;
  bytes_of_a = refl;
  bytes_of_dir_hard = refl;
  bytes_of_dir_sub_deep = refl;
  bytes_of_dir_sub_hardrun = refl;
  bytes_of_run = refl;
  bytes_of_noexec_f = refl;
  bytes_of_zero = refl;
  long = refl;
  longest = refl;
  no_file_pipe = refl;
  no_file_dir_hardpipe = refl;
  no_file_dir_hardsym = refl;
  no_file_sym = refl;
  no_file_dir_sub = refl;
}
