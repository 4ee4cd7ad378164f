-- Counting levels: the least number is one number.
use Rattle.std.proofs.Common.{◌≡◌, ℕ, ◌+◌, ◌-◌, ◌/◌, ◌^◌, ◌<◌, ◌≤◌, inl, inr, Option, None, Some, MatchOption, unwrap_or, arith}
use native.Mathlib.Nat.{one-le-pow, pow-le-pow_left, pow-le-pow_right}
use Rattle.std.proofs.lemmas.Nat.{mul-le, div_below}
use Rattle.std.proofs.lemmas.Bool.{cases_lt, cases_order}
use Rattle.tree.specs.Shape.{levels_of}
use Rattle.tree.proofs.Levels.{levels_stand_lem}

-- a number that is enough, where fewer are not, is the number of levels
pub least_is : (f n r : ℕ) → 2 ≤ f → n ≤ f ^ r → ((m : ℕ) → m < r → f ^ m < n) → r ≡ levels_of f n
least_is f n r two enough fewer =
    let law = levels_stand_lem f n two in
    elim (cases_order r (levels_of f n)) [
      | inl same ↦ same
      | inr (inl below) ↦ absurd (omega (arith, law.1 r below))
      | inr (inr above) ↦ absurd (omega (arith, fewer (levels_of f n) above, law.0))
    ]

-- the first number below seven that is enough, or seven
pub least_found : (f n : ℕ) (r : Option ℕ) → 8 ≤ f → n ≤ 1048576
    → MatchOption r ((k : ℕ) → 0 ≤ k → k < 7 → f ^ k < n) (λ i. (0 ≤ i) × (i < 7) × (n ≤ f ^ i) × ((k : ℕ) → 0 ≤ k → k < i → f ^ k < n))
    → unwrap_or r 7 ≡ levels_of f n
least_found f n None wide few none = least_is f n 7 (omega arith) (omega (arith, pow-le-pow_left wide 7)) (λ m below. none m (omega arith) below)
least_found f n (Some i) wide few first = least_is f n i (omega arith) first.2 (λ m below. first.3 m (omega arith) below)

-- seven levels are enough within the limits
pub at_most_seven : (f n r : ℕ) → 8 ≤ f → n ≤ 1048576 → ((m : ℕ) → m < r → f ^ m < n) → r ≤ 7
at_most_seven f n r wide few fewer =
    elim (cases_lt 7 r) [
      | inl more ↦ absurd (omega (arith, fewer 7 more, pow-le-pow_left wide 7))
      | inr le ↦ le
    ]

-- no power of a fanout, through seven levels, comes near the end of a machine word
pub reach_bounds : (f k : ℕ) → 8 ≤ f → f ≤ 128 → k ≤ 7 → (1 ≤ f ^ k) × (f ^ k ≤ 2 ^ 49)
reach_bounds f k wide narrow few =
    let left = pow-le-pow_left narrow k in
    let right : 128 ^ k ≤ 128 ^ 7 = pow-le-pow_right (let h : 0 < 128 = omega arith in h) few in
    (one-le-pow k f (omega arith), omega arith)

-- rounding up after a division gives no more than there was
pub rounded_le : (b r : ℕ) → 1 ≤ b → 1 ≤ r → (b + r - 1) / r ≤ b
rounded_le b r some pos =
    let more = mul-le b 1 b r (omega arith) pos in
    omega (arith, div_below (b + r - 1) r (b + 1) (omega arith) (omega arith))

-- a block of any level reaches some data
pub reach_some : (f i : ℕ) → 8 ≤ f → 0 < f ^ i
reach_some f i wide = one-le-pow i f (omega arith)
