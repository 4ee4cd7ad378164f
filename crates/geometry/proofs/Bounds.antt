-- What the limits say of a shape's other numbers.
use Rattle.std.specs.Slice.{IsItemAt}
use Rattle.std.specs.Option.{option_copied}
use Rattle.std.proofs.Common.{Option, Bor, unwrap_or, ◌≡◌, ℕ, zero, suc, ◌+◌, ◌-◌, ◌*◌, ◌/◌, ◌%◌, ◌^◌, ◌<◌, ◌≤◌, ◌⊎◌, true, List, length, get_or, sym, ap, ◌∙◌, subst, inl, inr, le_trans, zero-add, arith}
use native.Mathlib.Nat.{one-le-pow, pow-le-pow_right}
use Rattle.std.proofs.lemmas.Nat.{div_below, le-div, mul-le}
use Rattle.std.proofs.lemmas.List.FromFn.{get_or-map-range_with_len, length-map-range_with_len}
use Rattle.std.proofs.lemmas.List.{get_or_past}
use Rattle.std.proofs.lemmas.Bool.{cases_lt}
use Rattle.std.proofs.lemmas.Bool.Decides.{nat_tests}
use Rattle.tree.specs.Shape.{Shape, fanout, levels, width, blocks_from, start, tree_blocks}
use Rattle.tree.proofs.Levels.{levels_stand_lem}
use Rattle.geometry.specs.declared.geometry.Geometry.{Geometry}
use Rattle.geometry.specs.Of.{shape_of}
use Rattle.geometry.specs.Limits.{is_block_size, within, starts}
use Rattle.geometry.proofs.Counting.{at_most_seven, rounded_le}

-- the sizes of a block
sizes : (n : ℕ) → is_block_size n ≡ true → (512 ≤ n) × (n ≤ 4096) × (n % 64 ≡ 0)
sizes n h = grind (arith, nat_tests)

-- the slots of a block
quotient : (n l : ℕ) → 512 ≤ n → n ≤ 4096 → n % 64 ≡ 0 → (l ≡ 32) ⊎ (l ≡ 64) → (8 ≤ n / l) × (n / l ≤ 128) × (n / l * l ≡ n)
quotient n l low high even (inl is) = subst (λ k. (8 ≤ n / k) × (n / k ≤ 128) × (n / k * k ≡ n)) (sym is) (omega arith, omega arith, omega arith)
quotient n l low high even (inr is) = subst (λ k. (8 ≤ n / k) × (n / k ≤ 128) × (n / k * k ≡ n)) (sym is) (omega arith, omega arith, omega arith)

-- a shape within the limits
pub record Bounds (s : Shape) : Type 0 where
  pub data_low : 512 ≤ s.data_block
  pub data_high : s.data_block ≤ 4096
  pub hash_low : 512 ≤ s.hash_block
  pub hash_high : s.hash_block ≤ 4096
  pub some : 1 ≤ s.blocks
  pub few : s.blocks ≤ 1048576
  pub wide : 8 ≤ fanout s
  pub narrow : fanout s ≤ 128
  pub filled : fanout s * s.slot ≡ s.hash_block
  pub low : levels s ≤ 7

pub bounds : (s : Shape) → within s ≡ true → Bounds s
bounds s h =
    let parts : (is_block_size s.data_block ≡ true) × (is_block_size s.hash_block ≡ true) × (1 ≤ s.blocks) × (s.blocks ≤ 1048576) × ((s.slot ≡ 32) ⊎ (s.slot ≡ 64)) = grind (arith, nat_tests) in
    let low = sizes s.data_block parts.0 in
    let high = sizes s.hash_block parts.1 in
    let fan = quotient s.hash_block s.slot high.0 high.1 high.2 parts.4 in
    record {
      data_low = low.0;
      data_high = low.1;
      hash_low = high.0;
      hash_high = high.1;
      some = parts.2;
      few = parts.3;
      wide = fan.0;
      narrow = fan.1;
      filled = fan.2;
      low = at_most_seven (fanout s) s.blocks (levels s) fan.0 parts.3 (levels_stand_lem (fanout s) s.blocks (omega (arith, fan.0))).1;
    }

-- and so every geometry's
pub bounds_of : (g : Geometry) → Bounds (shape_of g)
bounds_of g = bounds (shape_of g) g.limits

-- no tree block comes before the top level, and none before a level that is not there
pub start_none : (s : Shape) (j : ℕ) → levels s ≤ suc j → 0 ≡ start s j
unfolding blocks_from
start_none s j above = ap (blocks_from s (suc j)) (let e : 0 ≡ levels s - suc j = omega arith in e)

pub start_at : (s : Shape) (found : List ℕ) (j : ℕ) → found ≡ starts s → j < 7 → get_or found j 0 ≡ start s j
unfolding starts
start_at s found j is below = ap (λ xs. get_or xs j 0) is ∙ get_or-map-range_with_len (start s) 0 7 j j 0 below (zero-add j)

-- the start that a geometry keeps of a level, or 0 where it keeps none
pub start_kept : (g : Geometry) (j : ℕ) (r : Option (Bor ℕ)) → IsItemAt g.starts j r → unwrap_or (option_copied r) 0 ≡ start (shape_of g) j
unfolding starts
start_kept g j r item =
    let s = shape_of g in
    let long : length g.starts ≡ 7 = ap length g.begins ∙ length-map-range_with_len (start s) 0 7 in
    item.4 (omega arith) 0
    ∙ elim (cases_lt j 7) [
      | inl below ↦ start_at s g.starts j g.begins below
      | inr past ↦ get_or_past g.starts j 0 (omega arith) ∙ start_none s j (omega (arith, bounds_of g))
    ]

-- above the data, past the levels, there is one block
pub width_one : (s : Shape) (i : ℕ) → 1 ≤ s.blocks → 2 ≤ fanout s → levels s ≤ i → 1 ≡ width s i
unfolding width
width_one s i some wide above =
    let p = fanout s ^ i in
    let enough : s.blocks ≤ p = le_trans (levels_stand_lem (fanout s) s.blocks wide).0 (pow-le-pow_right (let h : 0 < fanout s = omega arith in h) above) in
    let pos : 0 < p = omega arith in
    let top = div_below (s.blocks + p - 1) p 2 pos (omega arith) in
    let low = le-div 1 (s.blocks + p - 1) p pos (omega arith) in
    omega arith

pub blocks_none : (s : Shape) → levels s ≡ 0 → 0 ≡ tree_blocks s
unfolding blocks_from
blocks_none s none = ap (blocks_from s 0) (sym none)

pub blocks_some : (s : Shape) → (levels s ≡ 0 → ⊥) → width s 1 + start s 0 ≡ tree_blocks s
unfolding blocks_from
blocks_some s some = ap (blocks_from s 0) (let e : suc (levels s - 1) ≡ levels s = omega arith in e)

width_bound : (s : Shape) (i : ℕ) → 1 ≤ s.blocks → 1 ≤ fanout s → width s i ≤ s.blocks
unfolding width
width_bound s i some pos = rounded_le s.blocks (fanout s ^ i) some (one-le-pow i (fanout s) pos)

-- no level has more blocks than the data
pub blocks_bound : (s : Shape) (i n : ℕ) → 1 ≤ s.blocks → 1 ≤ fanout s → s.blocks ≤ 1048576 → blocks_from s i n ≤ n * 1048576
unfolding blocks_from
blocks_bound s i zero some pos few = omega arith
blocks_bound s i (suc n) some pos few = omega (arith, width_bound s (suc i) some pos, blocks_bound s (suc i) n some pos few)

pub tree_bound : (s : Shape) → Bounds s → tree_blocks s ≤ 7340032
tree_bound s b = omega (arith, b, blocks_bound s 0 (levels s) b.some (omega (arith, b.wide)) b.few)

pub tree_bytes : (s : Shape) (n : ℕ) → Bounds s → n ≡ tree_blocks s → n * s.hash_block ≤ 30064771072
tree_bytes s n b is = omega (arith, mul-le n s.hash_block 7340032 4096 (omega (arith, tree_bound s b)) b.hash_high)
