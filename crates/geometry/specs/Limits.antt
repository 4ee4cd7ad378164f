-- The limits of a tree's numbers.
use Rattle.std.specs.Prelude.{ℕ, Bool, ◌&&◌, ◌||◌, List, map, ◌==◌, nat_le}
use Rattle.std.specs.List.{range_with_len}
use Rattle.tree.specs.Shape.{Shape, start}

-- the longest block
abbrev pub block_limit : ℕ
block_limit = 4096

-- a block has 512, 1,024, 2,048 or 4,096 bytes
abbrev pub is_block_size : ℕ → Bool
is_block_size n = n == 512 || n == 1024 || n == 2048 || n == 4096

-- a slot is as long as a digest: 32 or 64 bytes
abbrev pub is_slot : ℕ → Bool
is_slot n = n == 32 || n == 64

-- there are 1 to 1,048,576 data blocks
abbrev pub is_count : ℕ → Bool
is_count n = nat_le 1 n && nat_le n 1048576

abbrev pub within : Shape → Bool
within s = is_block_size s.data_block && is_block_size s.hash_block && is_count s.blocks && is_slot s.slot

abbrev pub shape : ℕ → ℕ → ℕ → ℕ → Shape
shape d e n l = record { data_block = d; hash_block = e; blocks = n; slot = l }

-- where each of seven levels starts; no tree within the limits has more
unfoldable pub starts : Shape → List ℕ
starts s = map (start s) (range_with_len 0 7)
