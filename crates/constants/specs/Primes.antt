-- Prime numbers, and which one comes t-th.
use Rattle.std.specs.Prelude.{ℕ, zero, suc, ◌-◌, ◌%◌, ◌<◌, ◌≤◌, Bool, true, false, cond, ◌&&◌, List, [], ◌∷◌, ◌++◌, ◌==◌, ◌≢◌, nat_le}

-- p is prime: at least 2, and no number from 2 to below p divides it
abbrev pub Prime : ℕ → Type 0
Prime p = (2 ≤ p) × ((d : ℕ) → 2 ≤ d → d < p → p % d ≢ 0)

-- as a test: no number from 2 to n + 1 divides p
unfoldable pub undivided : ℕ → ℕ → Bool
undivided p zero = true
undivided p (suc n) = elim (p % suc (suc n) == 0) [ true ↦ false | false ↦ undivided p n ]

-- as a test: p is prime
unfoldable pub is_prime : ℕ → Bool
is_prime p = nat_le 2 p && undivided p (p - 2)

-- the primes below n, in rising order
unfoldable pub primes_below : ℕ → List ℕ
primes_below zero = []
primes_below (suc n) = primes_below n ++ cond (is_prime n) (n ∷ []) []
