-- Words of a volume: 32 bits, big-endian.
use Rattle.std.specs.Prelude.{ℕ, zero, suc, ◌+◌, ◌*◌, ◌/◌, ◌%◌, Bool, List, length, take, drop, ◌==◌, Option, position}
use Rattle.sha2_block.specs.Bytes.{number}

-- the word at an offset
abbrev pub word : List ℕ → ℕ → ℕ
word bytes at = number (take 4 (drop at bytes))

-- the sum of n words from an offset
abbrev pub words_sum : List ℕ → ℕ → ℕ → ℕ
words_sum bytes at zero = 0
words_sum bytes at (suc n) = word bytes at + words_sum bytes (at + 4) n

-- the words of some bytes sum to 0 modulo 2^32
unfoldable pub sums_to_zero : List ℕ → Bool
sums_to_zero bytes = words_sum bytes 0 (length bytes / 4) % 4294967296 == 0

-- n rounded up to a multiple of 16
abbrev pub up_to_16 : ℕ → ℕ
up_to_16 n = (n + 15) / 16 * 16

-- n is a multiple of 16
abbrev pub is_16 : ℕ → Bool
is_16 n = n % 16 == 0

-- how many bytes precede the first zero byte
abbrev pub zero_at : List ℕ → Option ℕ
zero_at bytes = position (λ b. b == 0) bytes
