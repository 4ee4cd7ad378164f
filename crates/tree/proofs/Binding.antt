-- Two images with one root are equal, or two blocks have one salted digest.
use Rattle.std.proofs.Common.{◌≡◌, ℕ, zero, suc, ◌*◌, ◌/◌, ◌%◌, ◌<◌, ◌⊎◌, List, length, drop, sym, ap, ◌∙◌, subst, inl, inr, mul-le-mul_right, arith}
use mathlib.Core.List.{List-discrete}
use native.Mathlib.Decide.{ℕ_discrete}
use Rattle.std.proofs.lemmas.List.{length-take-le, length-drop}
use Rattle.std.proofs.lemmas.Bool.{cases_lt}
use Rattle.tree.specs.Shape.{Shape, fanout, levels, width}
use Rattle.tree.specs.Tree.{node, root}
use Rattle.tree.specs.Path.{held}
use Rattle.tree.specs.Laws.{Sound, Collision, TreeBinds}
use Rattle.tree.proofs.Pieces.{same_blocks}
use Rattle.tree.proofs.Widths.{parent, width_zero, width_top}
use Rattle.tree.proofs.Slots.{held_of, length-node}

same_or_not : (xs ys : List ℕ) → (xs ≡ ys) ⊎ (xs ≡ ys → ⊥)
same_or_not xs ys = elim (List-discrete ℕ_discrete xs ys) [ yes e ↦ inl e | no d ↦ inr d ]

-- each of some, or one exception
each_or : (P : ℕ → Type 0) (X : Type 0) (n : ℕ) → ((j : ℕ) → j < n → P j ⊎ X) → ((j : ℕ) → j < n → P j) ⊎ X
each_or P X zero try = inl (λ j h. absurd (omega arith))
each_or P X (suc n) try =
    elim (try n (omega arith)) [
      | inr x ↦ inr x
      | inl last ↦ elim (each_or P X n (λ j h. try j (omega arith))) [
        | inr x ↦ inr x
        | inl before ↦ inl (λ j h. elim (cases_lt j n) [ inl l ↦ before j l | inr l ↦ subst P (omega arith) last ])
      ]
    ]

module _ (h : List ℕ → List ℕ) (s : Shape) (size : ℕ) (sound : Sound h s size) (a b : List ℕ)
    (la : length a ≡ s.blocks * s.data_block) (lb : length b ≡ s.blocks * s.data_block) where
  Same : ℕ → Type 0
  Same i = (j : ℕ) → j < width s i → node h s a i j ≡ node h s b i j

  length-data : (xs : List ℕ) → length xs ≡ s.blocks * s.data_block → (j : ℕ) → j < s.blocks → length (node h s xs 0 j) ≡ s.data_block
  unfolding node
  length-data xs long j inside =
      let d = s.data_block in
      length-take-le d (drop (j * d) xs) (omega (arith, length-drop (j * d) xs, mul-le-mul_right d inside))

  lengths : (i j : ℕ) → j < width s i → length (node h s a i j) ≡ length (node h s b i j)
  lengths zero j there =
      let wide : 0 < fanout s = omega (arith, sound.wide) in
      let inside : j < s.blocks = omega (arith, width_zero s wide) in
      length-data a la j inside ∙ sym (length-data b lb j inside)
  lengths (suc i) j there = length-node h s size sound a i j ∙ sym (length-node h s size sound b i j)

  decided : (i j : ℕ) → j < width s i → h (node h s a i j) ≡ h (node h s b i j) → (node h s a i j ≡ node h s b i j) ⊎ Collision h s a b
  decided i j there digests =
      elim (same_or_not (node h s a i j) (node h s b i j)) [ inl e ↦ inl e | inr d ↦ inr (i, j, lengths i j there, d, digests) ]

  step : (i : ℕ) → Same (suc i) → Same i ⊎ Collision h s a b
  unfolding Same
  step i same =
      let f = fanout s in
      let wide : 0 < f = omega (arith, sound.wide) in
      each_or (λ j. node h s a i j ≡ node h s b i j) (Collision h s a b) (width s i) (λ j there. decided i j there
      (sym (held_of h s size sound a i j there) ∙ ap (λ x. held s size x (j % f)) (same (j / f) (parent s wide i j there)) ∙ held_of h s size sound b i j there))

  down : (i : ℕ) → Same i → Same 0 ⊎ Collision h s a b
  down zero same = inl same
  down (suc i) same = elim (step i same) [ inl e ↦ down i e | inr x ↦ inr x ]

  top : root h s a ≡ root h s b → Same (levels s) ⊎ Collision h s a b
  unfolding root Same
  top same =
      let l = levels s in
      let one = width_top s sound.wide sound.some in
      each_or (λ j. node h s a l j ≡ node h s b l j) (Collision h s a b) (width s l) (λ j there.
      decided l j there (subst (λ k. h (node h s a l k) ≡ h (node h s b l k)) (omega arith) same))

  all_data : Same 0 → a ≡ b
  unfolding Same node
  all_data same =
      let wide : 0 < fanout s = omega (arith, sound.wide) in
      same_blocks s.blocks s.data_block a b la lb (λ k inside. same k (omega (arith, width_zero s wide)))

pub tree_binds_lem : TreeBinds
tree_binds_lem h s size sound a b la lb same =
    elim (top h s size sound a b la lb same) [
      | inr x ↦ inr x
      | inl high ↦ elim (down h s size sound a b la lb (levels s) high) [
        | inr x ↦ inr x
        | inl low ↦ inl (all_data h s size sound a b la lb low)
      ]
    ]
