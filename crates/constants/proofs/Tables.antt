-- The rule of a table of constants, from a test over the primes that it comes from.
use Rattle.std.proofs.Common.{◌≡◌, ℕ, zero, suc, ◌+◌, ◌*◌, ◌^◌, ◌<◌, Bool, true, ◌&&◌, ltb, List, [], ◌∷◌, map, length, get_or, refl, ◌∙◌, arith}
use Rattle.std.proofs.lemmas.List.{length-map, get_or-map}
use Rattle.std.proofs.lemmas.Bool.{ltb-true, and_parts}
use Rattle.constants.specs.Primes.{undivided, is_prime, primes_below}
use Rattle.constants.specs.Roots.{root_from}
use Rattle.constants.specs.Rule.{RootTable, constant_of, round_constants, starting_words}
use Rattle.constants.proofs.Primes.{nth_prime}
use Rattle.constants.proofs.Roots.{greatest}

-- the test: the search for each prime's root ends above that root
unfoldable in_range : ℕ → List ℕ → Bool
in_range e [] = true
in_range e (p ∷ ps) = ltb (p * 2 ^ (64 * e)) ((0 + 2 ^ 72) ^ e) && in_range e ps

in_range_at : (e : ℕ) (ps : List ℕ) (t : ℕ) → in_range e ps ≡ true → t < length ps → get_or ps t 0 * 2 ^ (64 * e) < (0 + 2 ^ 72) ^ e
unfolding in_range
in_range_at e [] t h below = absurd (omega arith)
in_range_at e (p ∷ ps) zero h below = ltb-true (p * 2 ^ (64 * e)) ((0 + 2 ^ 72) ^ e) (and_parts (ltb (p * 2 ^ (64 * e)) ((0 + 2 ^ 72) ^ e)) (in_range e ps) h).0
in_range_at e (p ∷ ps) (suc t) h below = in_range_at e ps t (and_parts (ltb (p * 2 ^ (64 * e)) ((0 + 2 ^ 72) ^ e)) (in_range e ps) h).1 (omega arith)

from_test : (e m n : ℕ) → 0 ^ e ≡ 0 → length (primes_below m) ≡ n → in_range e (primes_below m) ≡ true → RootTable e n (map (constant_of e) (primes_below m))
unfolding constant_of
from_test e m n none count range = (
  length-map (primes_below m) (constant_of e) ∙ count,
  λ t h.
      let below : t < length (primes_below m) = omega (arith, count) in
      let p = get_or (primes_below m) t 0 in (
        p,
        root_from e (p * 2 ^ (64 * e)) 72 0,
        nth_prime m t below,
        greatest e (p * 2 ^ (64 * e)) 72 0 (omega (arith, none)) (in_range_at e (primes_below m) t range below),
        get_or-map (constant_of e) (primes_below m) t 0 0 below,
      ),
)

pub round_rule : RootTable 3 80 round_constants
unfolding undivided is_prime primes_below in_range round_constants
round_rule = from_test 3 410 80 refl refl refl

pub start_rule : RootTable 2 8 starting_words
unfolding undivided is_prime primes_below in_range starting_words
start_rule = from_test 2 20 8 refl refl refl
