use Rattle.std.proofs.Common.{refl}
use Rattle.volume.specs.Words.{sums_to_zero}
use Rattle.volume.specs.Start.{start_of, start}
use Rattle.volume.specs.Header.{header_of, header}
use Rattle.volume.specs.Walk.{seek}
use Rattle.volume.specs.Use.{enter, follow}
use Rattle.volume.specs.Paths.{enter_all, file_at, open_path, list_path}
use Rattle.calls.specs.Calls.{begin_rules, open_rules, list_rules}
use Rattle.volume_cases.proofs.headers_stand.Goals as goal

pub returns : goal.returns
unfolding sums_to_zero start_of start header_of header seek enter follow enter_all file_at open_path list_path begin_rules open_rules list_rules
returns c = record {
  below_root = refl;
  behind_the_end = refl;
  no_room = refl;
  name_of_15 = refl;
  name_of_16 = refl;
  sum = refl;
  sum_half_more = refl;
  behind_the_name = refl;
  free_bytes = refl;
  next_itself = refl;
  next_before = refl;
  next_of_dot = refl;
  name_before_sum = refl;
  sum_before_next = refl;
  name_before_next = refl;
  hard_link = refl;
  directory = refl;
  file = refl;
  symbolic_link = refl;
  block_device = refl;
  char_device = refl;
  socket = refl;
  pipe = refl;
  executable = refl;
}
