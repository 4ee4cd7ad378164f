use Rattle.std.proofs.Common.{refl}
use Rattle.mount_cases.proofs.numbers_stand.Goals as goal

pub returns : goal.returns
returns c = record {
  label = refl;
  no_block = refl;
  refused = refl;
  mismatch = refl;
  data_level = refl;
  tree_level = refl;
  text = refl;
  size = refl;
  sum = refl;
  volume_name = refl;
  range = refl;
  name = refl;
  header_sum = refl;
  next = refl;
  info = refl;
  file_data = refl;
  links = refl;
  linked_directory = refl;
  component = refl;
  missing = refl;
  not_directory = refl;
  not_file = refl;
  mount_label = refl;
  handle = refl;
  offset = refl;
  buffer_length = refl;
  held = refl;
  not_begun = refl;
  no_place = refl;
  place_of_12 = refl;
  place_of_10 = refl;
  place_of_11 = refl;
  of_mount = refl;
  of_volume = refl;
  of_volume_storage = refl;
  of_path = refl;
  of_path_volume = refl;
  of_path_storage = refl;
  at_mount = refl;
  at_volume = refl;
  at_volume_storage = refl;
  at_path = refl;
  at_path_volume = refl;
  at_path_storage = refl;
  holds_none = refl;
  holds_volume = refl;
  holds_path = refl;
}
