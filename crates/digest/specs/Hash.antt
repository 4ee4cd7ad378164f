-- SHA-256 and SHA-512: the block step over the padded message, and the last state's bytes.
use Rattle.std.specs.Prelude.{ℕ, zero, suc, ◌+◌, ◌*◌, ◌/◌, List, ◌++◌, map, length, take, drop, slice_index}
use Rattle.std.specs.List.{range_with_len}
use Rattle.constants.specs.Rule.{starting_words}
use Rattle.sha2_block.specs.Variant.{Variant, upper, words32, words64}
use Rattle.sha2_block.specs.Bytes.{number, big_endian}
use Rattle.sha2_block.specs.Block.{Eight, block_step}
use Rattle.digest.specs.Padding.{block_bytes, padded}

-- word i of a row of bytes, counted from 0
unfoldable pub word_at : Variant → List ℕ → ℕ → ℕ
word_at v bytes i = number (take (v.bits / 8) (drop (i * (v.bits / 8)) bytes))

-- the sixteen words of block i
unfoldable pub block_at : Variant → List ℕ → ℕ → List ℕ
block_at v bytes i = map (λ j. word_at v bytes (16 * i + j)) (range_with_len 0 16)

-- the state after the first n blocks, from a starting state
unfoldable pub state_after : Variant → Eight → List ℕ → ℕ → Eight
state_after v start bytes zero = start
state_after v start bytes (suc n) = block_step v (state_after v start bytes n) (block_at v bytes n)

-- the state after the whole padded message
unfoldable pub last_state : Variant → Eight → List ℕ → Eight
last_state v start m = let bytes = padded v m in state_after v start bytes (length bytes / block_bytes v)

unfoldable pub state_bytes : Variant → Eight → List ℕ
state_bytes v s =
    let bytes = big_endian (v.bits / 8) in
    bytes s.a ++ bytes s.b ++ bytes s.c ++ bytes s.d ++ bytes s.e ++ bytes s.f ++ bytes s.g ++ bytes s.h

-- eight words of 64 bits as a starting state: their upper bits
unfoldable pub start_of : Variant → List ℕ → Eight
start_of v ws =
    let word : ℕ → ℕ = λ i. upper v.bits (slice_index ws i) in
    record { a = word 0; b = word 1; c = word 2; d = word 3; e = word 4; f = word 5; g = word 6; h = word 7 }

-- a digest function: its words, its starting words, and how many bytes of the last state it keeps
unfoldable pub hash : Variant → List ℕ → ℕ → List ℕ → List ℕ
hash v start size m = take size (state_bytes v (last_state v (start_of v start) m))

unfoldable pub sha256 : List ℕ → List ℕ
sha256 m = hash words32 starting_words 32 m

unfoldable pub sha512 : List ℕ → List ℕ
sha512 m = hash words64 starting_words 64 m
