-- Bytes of an image, by its blocks.
use Rattle.std.proofs.Common.{◌≡◌, ℕ, ◌+◌, ◌-◌, ◌≤◌, List, ◌++◌, take, drop, sym, ap, ap₂, ◌∙◌, arith}
use Rattle.std.proofs.lemmas.List.{take-take, take-append-drop, drop-take}

-- two pieces in a row
pub joined : (n m : ℕ) (xs : List ℕ) → take n xs ++ take m (drop n xs) ≡ take (n + m) xs
joined n m xs =
    ap₂ (λ a b. a ++ b) (sym (take-take n (n + m) xs (omega arith))) (sym (drop-take n m xs)) ∙ take-append-drop n (take (n + m) xs)

-- a piece of a piece
pub within : (r n k : ℕ) (xs : List ℕ) → r + n ≤ k → take n (drop r (take k xs)) ≡ take n (drop r xs)
within r n k xs room =
    let parts : k ≡ r + (k - r) = omega arith in
    ap (λ j. take n (drop r (take j xs))) parts ∙ ap (take n) (drop-take r (k - r) xs) ∙ take-take n (k - r) (drop r xs) (omega arith)
