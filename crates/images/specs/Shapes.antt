-- The shape of the trees that are worked out by hand.
use Rattle.std.specs.Prelude.{ℕ}
use Rattle.tree.specs.Shape.{Shape}

-- 128 slots of 32 bytes in a block of 4,096, over n data blocks
abbrev pub usual : ℕ → Shape
usual n = record { data_block = 4096; hash_block = 4096; blocks = n; slot = 32 }
