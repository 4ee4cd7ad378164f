-- The padded message: the message, one byte 80 hex, zeros, and the message's length in bits.
use Rattle.std.specs.Prelude.{ℕ, ◌+◌, ◌-◌, ◌*◌, ◌/◌, ◌%◌, List, [], ◌∷◌, ◌++◌, length, replicate}
use Rattle.sha2_block.specs.Variant.{Variant}
use Rattle.sha2_block.specs.Bytes.{big_endian}

-- a block has sixteen words, and the length two
abbrev pub block_bytes : Variant → ℕ
block_bytes v = 16 * (v.bits / 8)

abbrev pub length_bytes : Variant → ℕ
length_bytes v = 2 * (v.bits / 8)

-- how many zero bytes a message of n bytes gets: the fewest with which the whole ends a block
unfoldable pub zeros : Variant → ℕ → ℕ
zeros v n = (block_bytes v - (n + 1 + length_bytes v) % block_bytes v) % block_bytes v

unfoldable pub padded : Variant → List ℕ → List ℕ
padded v m = m ++ (0x80 ∷ []) ++ replicate (zeros v (length m)) 0 ++ big_endian (length_bytes v) (8 * length m)
