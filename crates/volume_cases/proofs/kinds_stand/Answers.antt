use Rattle.std.proofs.Common.{refl}
use Rattle.volume.specs.Words.{sums_to_zero}
use Rattle.volume.specs.Start.{start_of, start}
use Rattle.volume.specs.Header.{header_of, header}
use Rattle.volume.specs.Walk.{seek}
use Rattle.volume.specs.Use.{enter, follow}
use Rattle.volume.specs.Paths.{enter_all, file_at, open_path, list_path}
use Rattle.calls.specs.Calls.{begin_rules, open_rules, list_rules}
use Rattle.volume_cases.proofs.kinds_stand.Goals as goal

pub returns : goal.returns
unfolding sums_to_zero start_of start header_of header seek enter follow enter_all file_at open_path list_path begin_rules open_rules list_rules
returns c = record {
  symbolic_link_not_passed = refl;
  block_device_not_passed = refl;
  char_device_not_passed = refl;
  socket_not_passed = refl;
  pipe_not_passed = refl;
  symbolic_link_not_listed = refl;
  block_device_not_listed = refl;
  char_device_not_listed = refl;
  socket_not_listed = refl;
  pipe_not_listed = refl;
  symbolic_link_not_opened = refl;
  block_device_not_opened = refl;
  char_device_not_opened = refl;
  socket_not_opened = refl;
  pipe_not_opened = refl;
  symbolic_link_not_linked = refl;
  block_device_not_linked = refl;
  char_device_not_linked = refl;
  socket_not_linked = refl;
  pipe_not_linked = refl;
  symbolic_link_not_eighth = refl;
  block_device_not_eighth = refl;
  char_device_not_eighth = refl;
  socket_not_eighth = refl;
  pipe_not_eighth = refl;
}
