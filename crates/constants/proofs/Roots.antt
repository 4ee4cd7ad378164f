-- `root_from` finds the greatest root, if it lies where it looks.
use Rattle.std.proofs.Common.{◌≡◌, ℕ, zero, suc, ◌+◌, ◌^◌, ◌<◌, ◌≤◌, Bool, true, false, leb, refl, subst, arith}
use Rattle.std.proofs.lemmas.Bool.{leb-true, leb-false}
use Rattle.constants.specs.Roots.{GreatestRoot, root_from}

abbrev Step : ℕ → ℕ → ℕ → ℕ → Bool → ℕ
Step e n k c b = elim b [ true ↦ root_from e n k (c + 2 ^ k) | false ↦ root_from e n k c ]

pub greatest : (e n k c : ℕ) → c ^ e ≤ n → n < (c + 2 ^ k) ^ e → GreatestRoot e n (root_from e n k c)
unfolding root_from
greatest e n zero c low high = (low, high)
greatest e n (suc k) c low high =
    step (leb ((c + 2 ^ k) ^ e) n) refl
    (λ taken. greatest e n k (c + 2 ^ k) taken (subst (λ top. n < top ^ e) (omega arith) high))
    (λ left. greatest e n k c low left)
  where
    step : (b : Bool) → leb ((c + 2 ^ k) ^ e) n ≡ b
        → ((c + 2 ^ k) ^ e ≤ n → GreatestRoot e n (root_from e n k (c + 2 ^ k)))
        → (n < (c + 2 ^ k) ^ e → GreatestRoot e n (root_from e n k c))
        → GreatestRoot e n (Step e n k c b)
    step true t up down = up (leb-true ((c + 2 ^ k) ^ e) n t)
    step false t up down = down (leb-false ((c + 2 ^ k) ^ e) n t)
