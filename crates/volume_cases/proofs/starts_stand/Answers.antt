use Rattle.std.proofs.Common.{refl}
use Rattle.volume.specs.Words.{sums_to_zero}
use Rattle.volume.specs.Start.{start_of, start}
use Rattle.volume.specs.Header.{header_of, header}
use Rattle.volume.specs.Walk.{seek}
use Rattle.volume.specs.Use.{enter, follow}
use Rattle.volume.specs.Paths.{enter_all, file_at, open_path, list_path}
use Rattle.calls.specs.Calls.{begin_rules, open_rules, list_rules}
use Rattle.volume_cases.proofs.starts_stand.Goals as goal

pub returns : goal.returns
unfolding sums_to_zero start_of start header_of header seek enter follow enter_all file_at open_path list_path begin_rules open_rules list_rules
returns c = record {
  other_text = refl;
  other_half = refl;
  other_end = refl;
  odd_size = refl;
  size_above = refl;
  full_size = refl;
  text_before_size = refl;
  sum_before_name = refl;
  sum_16_more = refl;
  sum_half_more = refl;
  words_behind = refl;
  no_words = refl;
  endless_name = refl;
  longest_name = refl;
  name_of_16 = refl;
  name_of_15 = refl;
  no_header = refl;
}
