-- The front of a buffer of zeros.
use Rattle.std.proofs.Common.{◌≡◌, ℕ, ◌+◌, ◌-◌, ◌≤◌, List, ◌++◌, length, take, drop, replicate, Result, Ok, Err, OnOk, OnErr, sym, ap, ◌∙◌, arith}
use Rattle.std.proofs.lemmas.List.{take-append-le, take_all, drop-replicate, replicate-append-replicate}
use Rattle.calls.specs.Calls.{filled_to}

module _ (n count : ℕ) (inside : count ≤ n) where
  -- bytes written to it
  module _ (bytes : List ℕ) (long : length bytes ≡ count) where
    pub front-of : take count (bytes ++ drop count (replicate n 0)) ≡ bytes
    front-of = take-append-le count bytes (drop count (replicate n 0)) (omega (arith, long)) ∙ take_all count bytes (omega (arith, long))

    pub front-filled : bytes ++ drop count (replicate n 0) ≡ filled_to n bytes
    front-filled = ap (λ xs. bytes ++ xs) (drop-replicate count n 0 ∙ ap (λ k. replicate (n - k) 0) (sym long))

  -- and zeros
  pub front-zeros : ◌++◌ {A = ℕ} (replicate count 0) (drop count (replicate n 0)) ≡ replicate n 0
  front-zeros = let sum : count + (n - count) ≡ n = omega (arith, inside) in ap (λ xs. ◌++◌ {A = ℕ} (replicate count 0) xs) (drop-replicate count n 0) ∙ replicate-append-replicate count (n - count) 0 ∙ ap (λ k. replicate k 0) sum

-- what holds whether a call is refused or not
pub always-ok : {X E : Type 0} (r : Result X E) (P : Type 0) → P → OnOk r P
always-ok (Ok x) P p = p
always-ok (Err e) P p = tt

pub on-err : {X E : Type 0} (r : Result X E) (P Q : Type 0) → (P → Q) → OnErr r P → OnErr r Q
on-err (Ok x) P Q f p = tt
on-err (Err e) P Q f p = f p
