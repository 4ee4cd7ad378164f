-- Pieces joined over a row of numbers.
use Rattle.std.proofs.Common.{◌≡◌, ℕ, zero, suc, ◌+◌, ◌*◌, ◌<◌, ◌≤◌, List, ◌∷◌, ◌++◌, replicate, sym, refl, ap, ◌∙◌, ap₂, add-zero, zero-add, arith}
use Rattle.std.specs.List.{range_with_len, flat_map}
use Rattle.std.proofs.lemmas.Grind.{flat_map-append}
use Rattle.std.proofs.lemmas.List.{append-nil, replicate-append-replicate}

range_split : (m n a : ℕ) → range_with_len a (m + n) ≡ range_with_len a m ++ range_with_len (a + m) n
range_split zero n a = ap₂ range_with_len (sym (add-zero a)) (zero-add n)
range_split (suc m) n a =
    let more : suc m + n ≡ suc (m + n) = omega arith in
    let last : a + 1 + m ≡ a + suc m = omega arith in
    ap (range_with_len a) more ∙ ap (λ xs. a ∷ xs) (range_split m n (a + 1) ∙ ap (λ b. range_with_len (a + 1) m ++ range_with_len b n) last)

module _ (f : ℕ → List ℕ) where
  pub joined_split : (m n a : ℕ) → flat_map f (range_with_len a (m + n)) ≡ flat_map f (range_with_len a m) ++ flat_map f (range_with_len (a + m) n)
  joined_split m n a = ap (flat_map f) (range_split m n a) ∙ flat_map-append f (range_with_len a m) (range_with_len (a + m) n)

  pub joined_more : (n : ℕ) → flat_map f (range_with_len 0 (n + 1)) ≡ flat_map f (range_with_len 0 n) ++ f n
  joined_more n = joined_split n 1 0 ∙ ap (λ xs. flat_map f (range_with_len 0 n) ++ xs) (append-nil (f (0 + n)) ∙ ap f (zero-add n))

  pub joined_shift : (b n c : ℕ) → flat_map (λ t. f (b + t)) (range_with_len c n) ≡ flat_map f (range_with_len (b + c) n)
  joined_shift b zero c = refl
  joined_shift b (suc n) c =
      let next : b + (c + 1) ≡ b + c + 1 = omega arith in
      ap (λ xs. f (b + c) ++ xs) (joined_shift b n (c + 1) ∙ ap (λ k. flat_map f (range_with_len k n)) next)

  -- rows of w pieces each
  pub joined_rows : (w n a : ℕ) → flat_map (λ j. flat_map (λ t. f (j * w + t)) (range_with_len 0 w)) (range_with_len a n) ≡ flat_map f (range_with_len (a * w) (n * w))
  joined_rows w zero a =
      let none : 0 ≡ 0 * w = omega arith in
      ap (λ k. flat_map f (range_with_len (a * w) k)) none
  joined_rows w (suc n) a =
      let next : (a + 1) * w ≡ a * w + w = omega arith in
      let more : w + n * w ≡ suc n * w = omega arith in
      ap₂ (λ xs ys. xs ++ ys) (joined_shift (a * w) w 0 ∙ ap (λ k. flat_map f (range_with_len k w)) (add-zero (a * w)))
      (joined_rows w n (a + 1) ∙ ap (λ k. flat_map f (range_with_len k (n * w))) next)
      ∙ sym (joined_split w (n * w) (a * w)) ∙ ap (λ k. flat_map f (range_with_len (a * w) k)) more

pub joined_same : (f g : ℕ → List ℕ) (n a : ℕ) → ((k : ℕ) → a ≤ k → k < a + n → f k ≡ g k) → flat_map f (range_with_len a n) ≡ flat_map g (range_with_len a n)
joined_same f g zero a same = refl
joined_same f g (suc n) a same =
    ap₂ (λ xs ys. xs ++ ys) (same a (omega arith) (omega arith)) (joined_same f g n (a + 1) (λ k low high. same k (omega arith) (omega arith)))

pub joined_zeros : (m n a : ℕ) → flat_map (λ (k : ℕ). replicate {A = ℕ} m 0) (range_with_len a n) ≡ replicate (n * m) 0
joined_zeros m zero a =
    let none : 0 ≡ 0 * m = omega arith in
    ap (λ k. replicate k 0) none
joined_zeros m (suc n) a =
    let more : m + n * m ≡ suc n * m = omega arith in
    ap (λ xs. replicate m 0 ++ xs) (joined_zeros m n (a + 1)) ∙ replicate-append-replicate m (n * m) 0 ∙ ap (λ k. replicate k 0) more
