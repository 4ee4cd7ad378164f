-- At most N bytes, and what pairs of digits give where they are so few.
use Rattle.std.specs.Prelude.{ℕ, ◌*◌, if◌then◌else◌, List, length, take, Option, Some, None, nat_le}
use Rattle.text.specs.declared.bytes.Bytes.{Bytes}
use Rattle.text.specs.Hex.{unhex_of}

abbrev pub bytes_of : {N : ℕ} → Bytes N → List ℕ
bytes_of b = take b.len b.buffer

abbrev pub at_most : ℕ → List ℕ → Option (List ℕ)
at_most limit bytes = if nat_le (length bytes) limit then Some bytes else None

abbrev pub unhexed : ℕ → List ℕ → Option (List ℕ)
unhexed limit text = if nat_le (length text) (2 * limit) then unhex_of text else None
