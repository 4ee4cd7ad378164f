-- Words that come behind a schedule depend on its last sixteen alone.
use Rattle.std.proofs.Common.{◌≡◌, ℕ, zero, suc, ◌+◌, ◌-◌, ◌≤◌, List, [], ◌∷◌, ◌++◌, length, drop, sym, refl, ap, ◌∙◌, suc-add, zero-add, arith}
use Rattle.std.proofs.lemmas.List.{append_assoc, append-nil, length_push}
use Rattle.sha2_block.specs.Variant.{Variant}
use Rattle.sha2_block.specs.Block.{next_word, one_more, extended}
use Rattle.sha2_block.specs.Window.{shifted}

module _ (v : Variant) where
  pub length-one_more : (ws : List ℕ) → length (one_more v ws) ≡ length ws + 1
  unfolding one_more
  length-one_more ws = length_push ws (next_word v ws)

  pub length-extended : (n : ℕ) (ws : List ℕ) → length (extended v n ws) ≡ length ws + n
  unfolding extended
  length-extended zero ws = omega arith
  length-extended (suc n) ws = omega (arith, length-one_more (extended v n ws), length-extended n ws)

  -- what is extended begins with what it was
  pub grown : (n : ℕ) (ws : List ℕ) → (more : List ℕ) × (extended v n ws ≡ ws ++ more)
  unfolding extended one_more
  grown zero ws = ([], sym (append-nil ws))
  grown (suc n) ws =
      let g = grown n ws in
      let x = next_word v (extended v n ws) in
      (g.0 ++ x ∷ [], ap (λ xs. xs ++ x ∷ []) g.1 ∙ append_assoc ws g.0 (x ∷ []))

  -- the first extension may as well come first
  pub extended-one_more : (n : ℕ) (ws : List ℕ) → extended v (suc n) ws ≡ extended v n (one_more v ws)
  unfolding extended
  extended-one_more zero ws = refl
  extended-one_more (suc n) ws = ap (one_more v) (extended-one_more n ws)

  pub extended-plus : (m n : ℕ) (ws : List ℕ) → extended v (m + n) ws ≡ extended v m (extended v n ws)
  unfolding extended
  extended-plus zero n ws = ap (λ k. extended v k ws) (zero-add n)
  extended-plus (suc m) n ws = ap (λ k. extended v k ws) (suc-add m n) ∙ ap (one_more v) (extended-plus m n ws)

  -- a word in front of sixteen changes nothing behind them
  next_word-cons : (x : ℕ) (ws : List ℕ) → 16 ≤ length ws → next_word v (x ∷ ws) ≡ next_word v ws
  unfolding next_word
  next_word-cons x ws long =
      let t = length ws in
      let e2 : suc t - 2 ≡ suc (t - 2) = omega arith in
      let e7 : suc t - 7 ≡ suc (t - 7) = omega arith in
      let e15 : suc t - 15 ≡ suc (t - 15) = omega arith in
      let e16 : suc t - 16 ≡ suc (t - 16) = omega arith in
      rw (e2, e7, e15, e16) refl

  one_more-cons : (x : ℕ) (ws : List ℕ) → 16 ≤ length ws → one_more v (x ∷ ws) ≡ x ∷ one_more v ws
  unfolding one_more
  one_more-cons x ws long = ap (λ w. x ∷ (ws ++ w ∷ [])) (next_word-cons x ws long)

  pub extended-cons : (n x : ℕ) (ws : List ℕ) → 16 ≤ length ws → extended v n (x ∷ ws) ≡ x ∷ extended v n ws
  unfolding extended
  extended-cons zero x ws long = refl
  extended-cons (suc n) x ws long = ap (one_more v) (extended-cons n x ws long) ∙ one_more-cons x (extended v n ws) (omega (arith, length-extended n ws))

  -- the window that moves on is what stands behind its first word
  pub extended-shifted : (n : ℕ) (ws : List ℕ) → length ws ≡ 16 → drop 1 (extended v (suc n) ws) ≡ extended v n (shifted v ws)
  unfolding shifted one_more
  extended-shifted n [] long = absurd (omega arith)
  extended-shifted n (x ∷ ws) long =
      ap (drop 1) (extended-one_more n (x ∷ ws)) ∙ ap (drop 1) (extended-cons n x (ws ++ next_word v (x ∷ ws) ∷ []) (omega (arith, length_push ws (next_word v (x ∷ ws)))))
