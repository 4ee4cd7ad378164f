-- The text of a label: what veritysetup printed of a card of 14 blocks, the label that it tells, and texts that tell none.
use Rattle.std.specs.Prelude.{◌≡◌, ℕ, List, [], ◌∷◌, ◌++◌, replicate, codes, Result, Ok, Err, Some, None}
use Rattle.std.specs.List.{flat_map}
use Rattle.text.specs.declared.function.Function.TheVariants.{Sha256, Sha512}
use Rattle.label_text.specs.declared.fault.Fault.{Fault}
use Rattle.label_text.specs.declared.fault.Fault.TheVariants.{Missing, Doubled, Malformed}
use Rattle.label_text.specs.declared.key.Key.TheVariants.{HashType, DataBlocks, DataBlockSize, HashBlockSize, HashAlgorithm, Salt, RootHash}
use Rattle.label_text.specs.Label.{Told, label_in, fitting, of_tree}
use Rattle.label_text.specs.Printed.{text_of}

-- a line feed behind each line
abbrev pub text : List (List ℕ) → List ℕ
text lines = flat_map (λ line. line ++ codes "\n") lines

-- the seven lines that are read, by some of their values
abbrev pub first_lines : List ℕ → List ℕ → List ℕ → List ℕ → List (List ℕ)
first_lines type blocks data_block hash_block =
    (codes "Hash type:       \t" ++ type) ∷ (codes "Data blocks:     \t" ++ blocks) ∷ (codes "Data block size: \t" ++ data_block) ∷ (codes "Hash block size: \t" ++ hash_block) ∷ []

abbrev pub last_lines : List ℕ → List ℕ → List ℕ → List (List ℕ)
last_lines function salt root = (codes "Hash algorithm:  \t" ++ function) ∷ (codes "Salt:            \t" ++ salt) ∷ (codes "Root hash:      \t" ++ root) ∷ []

abbrev pub usual_first : List (List ℕ)
usual_first = first_lines (codes "1") (codes "14") (codes "512") (codes "1024")

abbrev pub salt_digits : List ℕ
salt_digits = codes "cadf26c749d54e6e535e604c31ed407b786b07c389aaf4144b0804e8741b7d87"

abbrev pub root_digits : List ℕ
root_digits = codes "1d55a2fcd7192d93a25d3be1b2513b90145843e7e453a346936a4132c9174e8a"

abbrev pub usual_last : List (List ℕ)
usual_last = last_lines (codes "sha256") salt_digits root_digits

abbrev pub root_bytes : List ℕ
root_bytes =
    0x1d ∷ 0x55 ∷ 0xa2 ∷ 0xfc ∷ 0xd7 ∷ 0x19 ∷ 0x2d ∷ 0x93 ∷ 0xa2 ∷ 0x5d ∷ 0x3b ∷ 0xe1 ∷ 0xb2 ∷ 0x51 ∷ 0x3b ∷ 0x90 ∷ 0x14 ∷ 0x58 ∷ 0x43 ∷ 0xe7 ∷ 0xe4 ∷ 0x53 ∷ 0xa3 ∷ 0x46 ∷ 0x93 ∷ 0x6a ∷ 0x41 ∷ 0x32 ∷ 0xc9 ∷ 0x17 ∷ 0x4e ∷ 0x8a ∷ []

-- the label of 14 blocks, with a salt
abbrev pub salted_with : List ℕ → Told
salted_with salt = record { function = Sha256; blocks = 14; data_block = 512; hash_block = 1024; salt = salt; root = root_bytes }

abbrev pub of_14 : Told
of_14 =
    salted_with
    (0xca ∷ 0xdf ∷ 0x26 ∷ 0xc7 ∷ 0x49 ∷ 0xd5 ∷ 0x4e ∷ 0x6e ∷ 0x53 ∷ 0x5e ∷ 0x60 ∷ 0x4c ∷ 0x31 ∷ 0xed ∷ 0x40 ∷ 0x7b ∷ 0x78 ∷ 0x6b ∷ 0x07 ∷ 0xc3 ∷ 0x89 ∷ 0xaa ∷ 0xf4 ∷ 0x14 ∷ 0x4b ∷ 0x08 ∷ 0x04 ∷ 0xe8 ∷ 0x74 ∷ 0x1b ∷ 0x7d ∷ 0x87 ∷ [])

-- what lines tell
abbrev pub reads : List (List ℕ) → Result Told Fault
reads lines = label_in (text lines)

abbrev pub with_salt : List ℕ → Result Told Fault
with_salt salt = reads (usual_first ++ last_lines (codes "sha256") salt root_digits)

abbrev pub with_blocks : List ℕ → Result Told Fault
with_blocks blocks = reads (first_lines (codes "1") blocks (codes "512") (codes "1024") ++ usual_last)

abbrev pub with_type : List ℕ → Result Told Fault
with_type type = reads (first_lines type (codes "14") (codes "512") (codes "1024") ++ usual_last)

abbrev pub with_root : List ℕ → List ℕ → Result Told Fault
with_root function root = reads (usual_first ++ last_lines function salt_digits root)

-- the lines that are printed, by the number of blocks, the line of the tree's blocks if there is one, and the salt
abbrev pub printed_lines : List ℕ → List (List ℕ) → List ℕ → List (List ℕ)
printed_lines blocks tree_blocks salt =
    codes "Hash type:       \t1" ∷ (codes "Data blocks:     \t" ++ blocks) ∷ codes "Data block size: \t512" ∷ tree_blocks ++ codes "Hash block size: \t1024" ∷ last_lines (codes "sha256") salt root_digits

pub record TextCases : Type 0 where
  -- the lines in another order, lines that no label needs between them, and the last one without a line feed
  pub told : reads (usual_first ++ usual_last) ≡ Ok of_14
  pub other_order : reads (usual_last ++ usual_first) ≡ Ok of_14
  pub others_between : reads (codes "VERITY header information for tree" ∷ codes "UUID:            \t" ∷ usual_first ++ codes "Hash blocks:     \t1" ∷ [] ++ usual_last) ≡ Ok of_14
  pub no_last_feed : label_in (text (usual_last ++ first_lines (codes "1") (codes "14") (codes "512") (codes "1024")) ++ codes "Hash blocks: 1") ≡ Ok of_14
  -- any blanks behind a key, and none before it
  pub blanks : reads (codes "Hash type:1" ∷ codes "Data blocks: \t 14" ∷ codes "Data block size:\t\t512" ∷ codes "Hash block size: 1024" ∷ usual_last) ≡ Ok of_14
  pub blank_before : reads (codes " Hash type: 1" ∷ []) ≡ Err (Missing HashType)
  pub blank_behind : with_type (codes "1 ") ≡ Err (Malformed HashType)
  -- the type is 1
  pub type_0 : with_type (codes "0") ≡ Err (Malformed HashType)
  pub type_11 : with_type (codes "11") ≡ Err (Malformed HashType)
  -- a number has one digit or more, nothing else, and 32 bits
  pub no_digit : with_blocks (codes "") ≡ Err (Malformed DataBlocks)
  pub no_number : with_blocks (codes "1x") ≡ Err (Malformed DataBlocks)
  pub too_large : with_blocks (codes "4294967296") ≡ Err (Malformed DataBlocks)
  pub largest : with_blocks (codes "4294967295") ≡ Ok (record of_14 { blocks = 4294967295 })
  pub data_size : reads (first_lines (codes "1") (codes "14") (codes "-1") (codes "1024") ++ usual_last) ≡ Err (Malformed DataBlockSize)
  pub hash_size : reads (first_lines (codes "1") (codes "14") (codes "512") (codes "1k") ++ usual_last) ≡ Err (Malformed HashBlockSize)
  -- a digest has a name, and a root as long as it is
  pub no_function : with_root (codes "md5") root_digits ≡ Err (Malformed HashAlgorithm)
  pub capitals : with_root (codes "SHA256") root_digits ≡ Err (Malformed HashAlgorithm)
  pub longer_digest : with_root (codes "sha512") root_digits ≡ Err (Malformed RootHash)
  pub sha512 : with_root (codes "sha512") (root_digits ++ root_digits) ≡ Ok (record of_14 { function = Sha512; root = root_bytes ++ root_bytes })
  pub longer_root : with_root (codes "sha256") (root_digits ++ codes "00") ≡ Err (Malformed RootHash)
  pub no_hex : with_root (codes "sha256") (replicate 64 0x67) ≡ Err (Malformed RootHash)
  -- a salt is pairs of digits, in either case of letters, or `-`; it has 256 bytes at most
  pub no_salt : with_salt (codes "-") ≡ Ok (salted_with [])
  pub short_salt : with_salt (codes "6f") ≡ Ok (salted_with (0x6f ∷ []))
  pub salt_in_capitals : with_salt (codes "6F0a") ≡ Ok (salted_with (0x6f ∷ 0x0a ∷ []))
  pub empty_salt : with_salt (codes "") ≡ Err (Malformed Salt)
  pub odd_salt : with_salt (codes "6f0") ≡ Err (Malformed Salt)
  pub longest_salt : with_salt (replicate 512 0x30) ≡ Ok (salted_with (replicate 256 0))
  pub longer_salt : with_salt (replicate 514 0x30) ≡ Err (Malformed Salt)
  -- each line stands once; of several faults it is that of the first key
  pub no_line : label_in [] ≡ Err (Missing HashType)
  pub no_root_line : reads (usual_first ++ codes "Hash algorithm: sha256" ∷ codes "Salt: -" ∷ []) ≡ Err (Missing RootHash)
  pub twice : reads (usual_first ++ usual_last ++ codes "Salt: -" ∷ []) ≡ Err (Doubled Salt)
  pub twice_the_same : reads (usual_first ++ usual_first ++ usual_last) ≡ Err (Doubled HashType)
  pub first_fault : reads (first_lines (codes "1") (codes "x") (codes "x") (codes "x") ++ last_lines (codes "x") (codes "x") (codes "x")) ≡ Err (Malformed DataBlocks)
  pub function_before_salt : reads (usual_first ++ last_lines (codes "x") (codes "x") (codes "x")) ≡ Err (Malformed HashAlgorithm)
  pub salt_before_root : reads (usual_first ++ last_lines (codes "sha256") (codes "x") (codes "x")) ≡ Err (Malformed Salt)
  -- what is printed of it: the tree's blocks are told where the numbers are within the limits
  pub printed : text_of of_14 ≡ text (printed_lines (codes "14") (codes "Hash blocks:     \t1" ∷ []) salt_digits)
  pub printed_unsalted : text_of (salted_with []) ≡ text (printed_lines (codes "14") (codes "Hash blocks:     \t1" ∷ []) (codes "-"))
  pub printed_outside : text_of (record of_14 { blocks = 0 }) ≡ text (printed_lines (codes "0") [] salt_digits)
  -- what a label can hold
  pub fits : fitting of_14 ≡ Some of_14
  pub longest_fits : fitting (salted_with (replicate 256 0)) ≡ Some (salted_with (replicate 256 0))
  pub longer_fits_not : fitting (salted_with (replicate 257 0)) ≡ None
  pub other_root_fits_not : fitting (record of_14 { function = Sha512 }) ≡ None
  pub of_shape : of_tree Sha256 (record { data_block = 512; hash_block = 1024; blocks = 14; slot = 32 }) (0x6f ∷ []) root_bytes ≡ salted_with (0x6f ∷ [])
