-- What padding and joining do, in words of their own.
use Rattle.std.specs.Prelude.{◌≡◌, ℕ, ◌+◌, ◌*◌, ◌%◌, ◌≤◌, ◌⊎◌, List, [], ◌∷◌, ◌++◌, length, replicate}
use Rattle.sha2_block.specs.Variant.{Variant}
use Rattle.sha2_block.specs.Bytes.{big_endian}
use Rattle.digest.specs.Padding.{block_bytes, length_bytes, padded}
use Rattle.digest.specs.Answer.{answer, written}

pub record Padding (v : Variant) (m : List ℕ) : Type 0 where
  -- the padded message is whole blocks
  pub whole : length (padded v m) % block_bytes v ≡ 0
  -- it is the message, one byte 80 hex, some zeros and the bit length
  pub zeros : ℕ
  pub parts : padded v m ≡ m ++ (0x80 ∷ []) ++ replicate zeros 0 ++ big_endian (length_bytes v) (8 * length m)
  -- fewer zeros would not do
  pub fewest : (k : ℕ) → (length m + 1 + k + length_bytes v) % block_bytes v ≡ 0 → zeros ≤ k

abbrev pub PaddingStands : Type 0
PaddingStands = (v : Variant) → ((v.bits ≡ 32) ⊎ (v.bits ≡ 64)) → (m : List ℕ) → Padding v m

-- two ways to split one string: the same answer, and the same bytes
abbrev pub SplitStands : Type 0
SplitStands =
    (size : ℕ) (meaning : List ℕ → List ℕ) (a b c d out : List ℕ) → a ++ b ≡ c ++ d
    → (answer size a b out ≡ answer size c d out) × (written size meaning a b out ≡ written size meaning c d out)
