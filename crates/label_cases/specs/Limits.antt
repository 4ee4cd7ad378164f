-- Limits: which numbers a tree may have, and which label is good.
use Rattle.std.specs.Prelude.{◌≡◌, ℕ, true, false, List, [], ◌∷◌, replicate}
use Rattle.std.specs.Borrow.{Bor}
use Rattle.geometry.specs.declared.label.Label.{Label}
use Rattle.geometry.specs.declared.label.LabelFault.TheVariants.{Limit}
use Rattle.geometry.specs.Label.{told, good, number_of}
use Rattle.geometry.specs.Limits.{is_block_size, is_slot, is_count, within, shape, starts}

abbrev pub borrowed : List ℕ → Bor (List ℕ)
borrowed bytes = record { ref_ptr = (0, 0); now = bytes }

-- a label for three blocks of 512 bytes under tree blocks of 4,096, by its number and the lengths of its salt and root
abbrev pub label_of : ℕ → ℕ → ℕ → Label
label_of number salt root = record {
  digest = number;
  data_block = 512;
  hash_block = 4096;
  blocks = 3;
  salt = borrowed (replicate salt 0);
  root = borrowed (replicate root 0);
}

-- the same with other sizes
abbrev pub label_for : ℕ → ℕ → ℕ → Label
label_for data_block hash_block blocks = record {
  digest = 1;
  data_block = data_block;
  hash_block = hash_block;
  blocks = blocks;
  salt = borrowed [];
  root = borrowed (replicate 32 0);
}

pub record LimitCases : Type 0 where
  -- blocks of 512, 1,024, 2,048 and 4,096 bytes, and no others
  pub block_512 : is_block_size 512 ≡ true
  pub block_1024 : is_block_size 1024 ≡ true
  pub block_2048 : is_block_size 2048 ≡ true
  pub block_4096 : is_block_size 4096 ≡ true
  pub block_0 : is_block_size 0 ≡ false
  pub block_256 : is_block_size 256 ≡ false
  pub block_511 : is_block_size 511 ≡ false
  pub block_513 : is_block_size 513 ≡ false
  pub block_640 : is_block_size 640 ≡ false
  pub block_1536 : is_block_size 1536 ≡ false
  pub block_4095 : is_block_size 4095 ≡ false
  pub block_8192 : is_block_size 8192 ≡ false
  -- 1 to 1,048,576 data blocks
  pub count_0 : is_count 0 ≡ false
  pub count_1 : is_count 1 ≡ true
  pub count_most : is_count 1048576 ≡ true
  pub count_more : is_count 1048577 ≡ false
  -- slots of 32 and 64 bytes, and no others
  pub slot_32 : is_slot 32 ≡ true
  pub slot_64 : is_slot 64 ≡ true
  pub slot_0 : is_slot 0 ≡ false
  pub slot_16 : is_slot 16 ≡ false
  pub slot_31 : is_slot 31 ≡ false
  pub slot_33 : is_slot 33 ≡ false
  pub slot_48 : is_slot 48 ≡ false
  pub slot_63 : is_slot 63 ≡ false
  pub slot_65 : is_slot 65 ≡ false
  pub slot_128 : is_slot 128 ≡ false
  -- each of the four numbers counts
  pub least : within (shape 512 512 1 32) ≡ true
  pub most : within (shape 4096 4096 1048576 64) ≡ true
  pub data_out : within (shape 640 512 1 32) ≡ false
  pub hash_out : within (shape 512 640 1 32) ≡ false
  pub count_out : within (shape 512 512 0 32) ≡ false
  pub slot_out : within (shape 512 512 1 48) ≡ false
  -- the shape that a label tells: its slots are as long as a digest
  pub tells : told 64 (label_of 1 0 32) ≡ record { data_block = 512; hash_block = 4096; blocks = 3; slot = 64 }
  -- the digest's number
  pub right_number : good 1 32 (label_of 1 0 32) ≡ true
  pub number_2 : good 2 64 (label_of 2 0 64) ≡ true
  pub another_number : good 1 32 (label_of 2 0 32) ≡ false
  pub no_number : good 1 32 (label_of 0 0 32) ≡ false
  -- a salt of 256 bytes, and of 257
  pub longest_salt : good 1 32 (label_of 1 256 32) ≡ true
  pub longer_salt : good 1 32 (label_of 1 257 32) ≡ false
  -- a root a byte short, one a byte too long, and one of another digest
  pub shorter_root : good 1 32 (label_of 1 0 31) ≡ false
  pub longer_root : good 1 32 (label_of 1 0 33) ≡ false
  pub another_root : good 2 64 (label_of 2 0 32) ≡ false
  -- the limits of the tree's numbers are the label's
  pub data_limit : good 1 32 (label_for 640 512 1) ≡ false
  pub hash_limit : good 1 32 (label_for 512 640 1) ≡ false
  pub no_block : good 1 32 (label_for 512 512 0) ≡ false
  pub all_blocks : good 1 32 (label_for 512 512 1048576) ≡ true
  pub one_block_more : good 1 32 (label_for 512 512 1048577) ≡ false
  pub other_digest_length : good 1 48 (label_of 1 0 48) ≡ false
  pub number : number_of Limit ≡ 2
  -- where each of seven levels starts: 16,385 blocks have three, and 0 stands past the last
  pub starts_of_3 : starts (shape 4096 4096 16385 32) ≡ 3 ∷ 1 ∷ 0 ∷ 0 ∷ 0 ∷ 0 ∷ 0 ∷ []
