-- The number of levels is the least one that is enough.
use Rattle.std.proofs.Common.{◌≡◌, ℕ, zero, suc, ◌+◌, ◌^◌, ◌<◌, ◌≤◌, Bool, true, false, leb, sym, refl, subst, inl, inr, add-zero, pow-suc, zero-add, arith}
use native.Mathlib.Nat.{pow-zero}
use Rattle.std.proofs.lemmas.Nat.{mul-le}
use Rattle.std.proofs.lemmas.Bool.{leb-true, leb-false, cases_lt}
use Rattle.tree.specs.Shape.{levels_from, levels_of}
use Rattle.tree.specs.Laws.{LevelsStand}

abbrev Least : ℕ → ℕ → ℕ → Type 0
Least f n l = (n ≤ f ^ l) × ((m : ℕ) → m < l → f ^ m < n)

power_above : (f n : ℕ) → 2 ≤ f → n < f ^ n
power_above f zero two = omega (arith, pow-zero f)
power_above f (suc n) two =
    let before = power_above f n two in
    omega (arith, pow-suc f n, mul-le (n + 1) 2 (f ^ n) f (omega arith) two)

one_more : (f n m : ℕ) → f ^ m < n → ((k : ℕ) → k < m → f ^ k < n) → (k : ℕ) → k < suc m → f ^ k < n
one_more f n m here below k h = elim (cases_lt k m) [ inl l ↦ below k l | inr l ↦ subst (λ j. f ^ j < n) (omega arith) here ]

step : (f n m next : ℕ) (b : Bool) → leb n (f ^ m) ≡ b → ((k : ℕ) → k < m → f ^ k < n) → (f ^ m < n → Least f n next)
    → Least f n (elim b [ true ↦ m | false ↦ next ])
step f n m next true e below after = (leb-true n (f ^ m) e, below)
step f n m next false e below after = after (leb-false n (f ^ m) e)

least : (f n fuel m : ℕ) → n ≤ f ^ (m + fuel) → ((k : ℕ) → k < m → f ^ k < n) → Least f n (levels_from f n fuel m)
unfolding levels_from
least f n zero m enough below = (subst (λ k. n ≤ f ^ k) (add-zero m) enough, below)
least f n (suc fuel) m enough below =
    step f n m (levels_from f n fuel (suc m)) (leb n (f ^ m)) refl below
    (λ here. least f n fuel (suc m) (subst (λ k. n ≤ f ^ k) (omega arith) enough) (one_more f n m here below))

pub levels_stand_lem : LevelsStand
unfolding levels_of
levels_stand_lem f n two =
    least f n n 0 (subst (λ k. n ≤ f ^ k) (sym (zero-add n)) (omega (arith, power_above f n two))) (λ k h. absurd (omega arith))
