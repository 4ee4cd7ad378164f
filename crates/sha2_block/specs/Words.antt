-- The functions on words. A word of a variant is a number below 2^bits.
use Rattle.std.specs.Prelude.{ℕ, ◌+◌, ◌-◌, ◌*◌, ◌/◌, ◌%◌, ◌^◌, bit_and, bit_or, bit_xor}
use Rattle.sha2_block.specs.Variant.{Variant, Amounts}

-- x rotated right by n, in w bits
abbrev pub rotr : ℕ → ℕ → ℕ → ℕ
rotr w n x = bit_or (x / 2 ^ n) ((x * 2 ^ (w - n)) % 2 ^ w)

-- x shifted right by n
abbrev pub shr : ℕ → ℕ → ℕ
shr n x = x / 2 ^ n

-- the complement of x in w bits
abbrev pub complement : ℕ → ℕ → ℕ
complement w x = 2 ^ w - 1 - x

-- a sum, which wraps at the word
abbrev pub plus : Variant → ℕ → ℕ → ℕ
plus v x y = (x + y) % 2 ^ v.bits

abbrev pub rotations : ℕ → Amounts → ℕ → ℕ
rotations w n x = bit_xor (bit_xor (rotr w n.first x) (rotr w n.second x)) (rotr w n.third x)

abbrev pub rotations_and_shift : ℕ → Amounts → ℕ → ℕ
rotations_and_shift w n x = bit_xor (bit_xor (rotr w n.first x) (rotr w n.second x)) (shr n.third x)

-- Σ0, Σ1, σ0, σ1
abbrev pub big_sigma0 : Variant → ℕ → ℕ
big_sigma0 v x = rotations v.bits v.big0 x

abbrev pub big_sigma1 : Variant → ℕ → ℕ
big_sigma1 v x = rotations v.bits v.big1 x

abbrev pub small_sigma0 : Variant → ℕ → ℕ
small_sigma0 v x = rotations_and_shift v.bits v.small0 x

abbrev pub small_sigma1 : Variant → ℕ → ℕ
small_sigma1 v x = rotations_and_shift v.bits v.small1 x

-- Ch: the bits of y where x has 1, else those of z
abbrev pub choice : Variant → ℕ → ℕ → ℕ → ℕ
choice v x y z = bit_xor (bit_and x y) (bit_and (complement v.bits x) z)

-- Maj: the majority of each bit
abbrev pub majority : ℕ → ℕ → ℕ → ℕ
majority x y z = bit_xor (bit_xor (bit_and x y) (bit_and x z)) (bit_and y z)
