-- The whole part of a root.
use Rattle.std.specs.Prelude.{ℕ, zero, suc, ◌+◌, ◌^◌, ◌<◌, ◌≤◌, true, false, nat_le}

-- c is the greatest number whose e-th power is at most n
abbrev pub GreatestRoot : ℕ → ℕ → ℕ → Type 0
GreatestRoot e n c = (c ^ e ≤ n) × (n < (c + 1) ^ e)

-- the greatest such number from c to below c + 2^k, found bit by bit from the top
unfoldable pub root_from : ℕ → ℕ → ℕ → ℕ → ℕ
root_from e n zero c = c
root_from e n (suc k) c = elim (nat_le ((c + 2 ^ k) ^ e) n) [ true ↦ root_from e n k (c + 2 ^ k) | false ↦ root_from e n k c ]
