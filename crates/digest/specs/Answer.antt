-- What a digest answers, by the lengths alone: the buffer has to have the digest's length,
-- and the joined string at most 4,352 bytes. The one refusal is number 3, with no place.
use Rattle.std.specs.Prelude.{ℕ, ◌+◌, Bool, cond, ◌&&◌, List, ◌++◌, length, replicate, Ok, Err, Result, ◌==◌, nat_le}
use Rattle.digest.specs.declared.refusal.Refusal.{Refusal}
use Rattle.digest.specs.declared.refusal.Refusal.TheVariants.{Length}

-- the size of the digest, the two strings and the buffer fit
abbrev pub accepts : ℕ → List ℕ → List ℕ → List ℕ → Bool
accepts size first second out = length out == size && nat_le (length first + length second) 4352

abbrev pub answer : ℕ → List ℕ → List ℕ → List ℕ → Result (Unit {0}) Refusal
answer size first second out = cond (accepts size first second out) (Ok tt) (Err Length)

-- what the buffer holds then: the digest of the joined string, or zeros
abbrev pub written : ℕ → (List ℕ → List ℕ) → List ℕ → List ℕ → List ℕ → List ℕ
written size meaning first second out = cond (accepts size first second out) (meaning (first ++ second)) (replicate (length out) 0)

-- the number of a refusal
abbrev pub number_of : Refusal → ℕ
number_of Length = 3
