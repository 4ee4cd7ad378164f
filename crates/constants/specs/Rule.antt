-- SHA-512's constants: the first 64 bits of the fractional parts of roots of primes.
use Rattle.std.specs.Prelude.{◌≡◌, ℕ, ◌*◌, ◌%◌, ◌^◌, ◌<◌, List, map, length, slice_index}
use Rattle.constants.specs.Primes.{Prime, primes_below}
use Rattle.constants.specs.Roots.{GreatestRoot, root_from}

-- the constant that a prime p gives by its e-th root: a root times 2^64, whole, modulo 2^64
-- (a root of a prime below 2^8 has fewer than 72 bits then)
unfoldable pub constant_of : ℕ → ℕ → ℕ
constant_of e p = root_from e (p * 2 ^ (64 * e)) 72 0 % 2 ^ 64

-- the 80 round constants come from cube roots, the 8 starting words from square roots
unfoldable pub round_constants : List ℕ
round_constants = map (constant_of 3) (primes_below 410)

unfoldable pub starting_words : List ℕ
starting_words = map (constant_of 2) (primes_below 20)

-- p is the t-th prime, counted from 0: a prime with t primes below it
abbrev pub NthPrime : ℕ → ℕ → Type 0
NthPrime t p = Prime p × (length (primes_below p) ≡ t)

-- k comes from the t-th prime p by its e-th root: k is c modulo 2^64,
-- with c the greatest number such that c^e ≤ p · 2^(64 · e)
abbrev pub FromPrime : ℕ → ℕ → ℕ → Type 0
FromPrime e t k = (p : ℕ) × (c : ℕ) × NthPrime t p × GreatestRoot e (p * 2 ^ (64 * e)) c × (k ≡ c % 2 ^ 64)

-- a table of n constants: entry t comes from the t-th prime by its e-th root
abbrev pub RootTable : ℕ → ℕ → List ℕ → Type 0
RootTable e n ks = (length ks ≡ n) × ((t : ℕ) → t < n → FromPrime e t (slice_index ks t))
