use Rattle.std.proofs.Common.{refl}
use Rattle.tree.specs.Shape.{levels_from, levels_of, width, blocks_from}
use Rattle.geometry.specs.Limits.{starts}
use Rattle.label_cases.proofs.limits_stand.Goals as goal

pub returns : goal.returns
unfolding levels_from levels_of width blocks_from starts
returns c = record {
  block_512 = refl;
  block_1024 = refl;
  block_2048 = refl;
  block_4096 = refl;
  block_0 = refl;
  block_256 = refl;
  block_511 = refl;
  block_513 = refl;
  block_640 = refl;
  block_1536 = refl;
  block_4095 = refl;
  block_8192 = refl;
  count_0 = refl;
  count_1 = refl;
  count_most = refl;
  count_more = refl;
  slot_32 = refl;
  slot_64 = refl;
  slot_0 = refl;
  slot_16 = refl;
  slot_31 = refl;
  slot_33 = refl;
  slot_48 = refl;
  slot_63 = refl;
  slot_65 = refl;
  slot_128 = refl;
  least = refl;
  most = refl;
  data_out = refl;
  hash_out = refl;
  count_out = refl;
  slot_out = refl;
  tells = refl;
  right_number = refl;
  number_2 = refl;
  another_number = refl;
  no_number = refl;
  longest_salt = refl;
  longer_salt = refl;
  shorter_root = refl;
  longer_root = refl;
  another_root = refl;
  data_limit = refl;
  hash_limit = refl;
  no_block = refl;
  all_blocks = refl;
  one_block_more = refl;
  other_digest_length = refl;
  number = refl;
  starts_of_3 = refl;
}
