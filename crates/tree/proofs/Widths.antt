-- How wide each level is.
use Rattle.std.proofs.Common.{◌≡◌, ℕ, suc, ◌+◌, ◌-◌, ◌*◌, ◌/◌, ◌^◌, ◌<◌, ◌≤◌, sym, ap, ◌∙◌, subst, inl, inr, mul-le-mul_right, pow-suc, div-mul-le_self, div-one, arith}
use native.Mathlib.Nat.{div-eq_of_lt, div-div-eq-div-mul, pow-zero, one-le-pow}
use Rattle.std.proofs.lemmas.Nat.{le-div}
use Rattle.std.proofs.lemmas.Bool.{cases_lt}
use Rattle.tree.specs.Shape.{Shape, fanout, levels, width}
use Rattle.tree.proofs.Levels.{levels_stand_lem}

module _ (s : Shape) (wide : 0 < fanout s) where
  pub power_pos : (i : ℕ) → 0 < fanout s ^ i
  power_pos i = omega (arith, one-le-pow i (fanout s) wide)

  -- block j is there where its first data block is
  pub in_width : (i j : ℕ) → j * fanout s ^ i < s.blocks → j < width s i
  unfolding width
  in_width i j h =
      let p = fanout s ^ i in
      let pos = power_pos i in
      le-div (suc j) (s.blocks + p - 1) p pos (omega arith)

  pub under_width : (i j : ℕ) → j < width s i → j * fanout s ^ i < s.blocks
  unfolding width
  under_width i j h =
      let p = fanout s ^ i in
      let pos = power_pos i in
      let whole = s.blocks + p - 1 in
      omega (arith, mul-le-mul_right p h, div-mul-le_self whole p)

  -- the block above data block k
  pub above_data : (i k : ℕ) → k < s.blocks → k / fanout s ^ i < width s i
  above_data i k h = in_width i (k / fanout s ^ i) (omega (arith, div-mul-le_self k (fanout s ^ i)))

  -- and the one above it
  pub step_up : (i k : ℕ) → k / fanout s ^ i / fanout s ≡ k / fanout s ^ suc i
  step_up i k = div-div-eq-div-mul k (fanout s ^ i) (fanout s) ∙ ap (λ p. k / p) (sym (pow-suc (fanout s) i))

  pub parent : (i j : ℕ) → j < width s i → j / fanout s < width s (suc i)
  parent i j h =
      let f = fanout s in
      let p = f ^ i in
      in_width (suc i) (j / f) (subst (λ q. j / f * q < s.blocks) (sym (pow-suc f i)) (omega (arith, under_width i j h, mul-le-mul_right p (div-mul-le_self j f))))

  pub width_zero : width s 0 ≡ s.blocks
  unfolding width
  width_zero = ap (λ p. (s.blocks + p - 1) / p) (pow-zero (fanout s)) ∙ div-one (s.blocks + 1 - 1) ∙ omega arith

pub width_top : (s : Shape) → 2 ≤ fanout s → 1 ≤ s.blocks → width s (levels s) ≡ 1
width_top s wide some =
    let l = levels s in
    let enough = (levels_stand_lem (fanout s) s.blocks wide).0 in
    let one = in_width s (omega arith) l 0 (omega arith) in
    elim (cases_lt 1 (width s l)) [
      | inl more ↦ absurd (omega (arith, under_width s (omega arith) l 1 more))
      | inr h ↦ omega arith
    ]

pub top_of : (s : Shape) (k : ℕ) → 2 ≤ fanout s → k < s.blocks → k / fanout s ^ levels s ≡ 0
top_of s k wide h = div-eq_of_lt (omega (arith, (levels_stand_lem (fanout s) s.blocks wide).0))
