-- How a line begins, as ASCII codes.
use Rattle.std.specs.Prelude.{ℕ, List, codes}
use Rattle.label_text.specs.declared.key.Key.{Key}
use Rattle.label_text.specs.declared.key.Key.TheVariants.{HashType, DataBlocks, DataBlockSize, HashBlockSize, HashAlgorithm, Salt, RootHash}

-- the key and its colon, as each line with it begins
abbrev pub front_of : Key → List ℕ
front_of HashType = codes "Hash type:"
front_of DataBlocks = codes "Data blocks:"
front_of DataBlockSize = codes "Data block size:"
front_of HashBlockSize = codes "Hash block size:"
front_of HashAlgorithm = codes "Hash algorithm:"
front_of Salt = codes "Salt:"
front_of RootHash = codes "Root hash:"

-- the same with the blanks that veritysetup prints behind it
abbrev pub heading_of : Key → List ℕ
heading_of HashType = codes "Hash type:       \t"
heading_of DataBlocks = codes "Data blocks:     \t"
heading_of DataBlockSize = codes "Data block size: \t"
heading_of HashBlockSize = codes "Hash block size: \t"
heading_of HashAlgorithm = codes "Hash algorithm:  \t"
heading_of Salt = codes "Salt:            \t"
heading_of RootHash = codes "Root hash:      \t"
