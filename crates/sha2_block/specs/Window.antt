-- The code's rolling window: of the schedule only sixteen words are kept.
use Rattle.std.specs.Prelude.{◌≡◌, ℕ, zero, suc, ◌+◌, List, [], ◌∷◌, drop}
use Rattle.sha2_block.specs.declared.block.State.{State}
use Rattle.sha2_block.specs.declared.block.Words.{Words}
use Rattle.sha2_block.specs.Variant.{Variant}
use Rattle.sha2_block.specs.Block.{Eight, one_more, extended, rounds_from}

-- the window one word on: its first word goes, and the next of the schedule comes behind the last
unfoldable pub shifted : Variant → List ℕ → List ℕ
shifted v ws = drop 1 (one_more v ws)

-- the window after n words have gone
unfoldable pub window_after : Variant → ℕ → List ℕ → List ℕ
window_after v zero ws = ws
window_after v (suc n) ws = window_after v n (shifted v ws)

-- n rounds from round t on, where ws are the sixteen schedule words from W_t on
unfoldable pub rounds_left : Variant → ℕ → List ℕ → ℕ → Eight → Eight
rounds_left v t ws n s = rounds_from v t (extended v n ws) n s

-- n rounds from round t on lead from the window ws and the working words s to ws' and s':
-- whatever rounds are left after them come to the same from there
abbrev pub LeadsTo : Variant → ℕ → ℕ → List ℕ → Eight → List ℕ → Eight → Type 0
LeadsTo v t n ws s ws' s' = (m : ℕ) → rounds_left v t ws (n + m) s ≡ rounds_left v (t + n) ws' m s'

-- a state of the code, and sixteen words of it, by the numbers that they stand for
abbrev pub eight : {W : Type 0} → (W → ℕ) → State W → Eight
eight value s = record {
  a = value s.a;
  b = value s.b;
  c = value s.c;
  d = value s.d;
  e = value s.e;
  f = value s.f;
  g = value s.g;
  h = value s.h;
}

abbrev pub sixteen : {W : Type 0} → (W → ℕ) → Words W → List ℕ
sixteen value w =
    value w.w0 ∷ value w.w1 ∷ value w.w2 ∷ value w.w3 ∷ value w.w4 ∷ value w.w5 ∷ value w.w6 ∷ value w.w7
    ∷ value w.w8 ∷ value w.w9 ∷ value w.w10 ∷ value w.w11 ∷ value w.w12 ∷ value w.w13 ∷ value w.w14 ∷ value w.w15 ∷ []
