-- The numbers of a tree: how many levels, how wide each is, and where it starts.
use Rattle.std.specs.Prelude.{ℕ, zero, suc, ◌+◌, ◌-◌, ◌/◌, ◌^◌, true, false, nat_le}

pub record Shape : Type 0 where
  -- bytes of a data block
  pub data_block : ℕ
  -- bytes of a tree block
  pub hash_block : ℕ
  -- the number of data blocks
  pub blocks : ℕ
  -- bytes of a slot
  pub slot : ℕ

-- slots of a tree block
abbrev pub fanout : Shape → ℕ
fanout s = s.hash_block / s.slot

-- the first of the numbers from m on, at most `fuel` of them passed over, whose power of f is at least n
unfoldable pub levels_from : ℕ → ℕ → ℕ → ℕ → ℕ
levels_from f n zero m = m
levels_from f n (suc fuel) m = elim (nat_le n (f ^ m)) [ true ↦ m | false ↦ levels_from f n fuel (suc m) ]

-- how many levels: the least number m, 0 included, with f^m ≥ n
unfoldable pub levels_of : ℕ → ℕ → ℕ
levels_of f n = levels_from f n n 0

abbrev pub levels : Shape → ℕ
levels s = levels_of (fanout s) s.blocks

-- blocks i steps above the data: N / F^i, rounded up; level i of the tree is i + 1 steps above
unfoldable pub width : Shape → ℕ → ℕ
width s i = (s.blocks + fanout s ^ i - 1) / fanout s ^ i

-- tree blocks of n levels from level i up
unfoldable pub blocks_from : Shape → ℕ → ℕ → ℕ
blocks_from s i zero = 0
blocks_from s i (suc n) = width s (suc i) + blocks_from s (suc i) n

-- tree blocks in all
abbrev pub tree_blocks : Shape → ℕ
tree_blocks s = blocks_from s 0 (levels s)

-- tree blocks before level i: those of the levels above it, since the top level comes first
abbrev pub start : Shape → ℕ → ℕ
start s i = blocks_from s (suc i) (levels s - suc i)
