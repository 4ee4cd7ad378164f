use Rattle.std.proofs.Common.{refl}
use Rattle.volume.specs.Words.{sums_to_zero}
use Rattle.volume.specs.Start.{start_of, start}
use Rattle.volume.specs.Header.{header_of, header}
use Rattle.volume.specs.Walk.{seek}
use Rattle.volume.specs.Use.{enter, follow}
use Rattle.volume.specs.Paths.{enter_all, file_at, open_path, list_path}
use Rattle.calls.specs.Calls.{begin_rules, open_rules, read_rules, whole_rules, list_rules, close_rules}
use Rattle.mount_cases.proofs.states_stand.Goals as goal

pub returns : goal.returns
unfolding sums_to_zero start_of start header_of header seek enter follow enter_all file_at open_path list_path begin_rules open_rules read_rules whole_rules list_rules close_rules
returns c = record {
  begins = refl;
  begins_again = refl;
  begin_keeps_held = refl;
  opens = refl;
  last_handle = refl;
  whole_closes = refl;
  closes = refl;
  reads = refl;
  lists = refl;
  begin_refused = refl;
  open_refused = refl;
  all_held = refl;
  read_refused = refl;
  whole_refused = refl;
  whole_unheld = refl;
  list_refused = refl;
  close_refused = refl;
  not_begun = refl;
}
