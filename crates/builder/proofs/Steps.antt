-- The levels above level 0 are the tree over level 0, taken as an image of tree blocks.
use Rattle.std.proofs.Common.{◌≡◌, ℕ, zero, suc, ◌+◌, ◌*◌, ◌^◌, ◌<◌, cond, ltb, List, [], ◌++◌, length, take, drop, replicate, sym, ap, ◌∙◌, ap₂, inl, inr, arith}
use native.Mathlib.Nat.{pow-zero}
use Rattle.std.specs.List.{range_with_len, flat_map}
use Rattle.std.proofs.lemmas.List.{append_assoc, append-nil, take_all}
use Rattle.std.proofs.lemmas.Bool.{cond-true, cond-false, lt-ltb, le-ltb, cases_lt}
use Rattle.tree.specs.Shape.{Shape, fanout, levels, width}
use Rattle.tree.specs.Tree.{block_of, in_slot, node, level, lowest, tree, root}
use Rattle.tree.specs.Laws.{Sound}
use Rattle.tree.proofs.Levels.{levels_stand_lem}
use Rattle.tree.proofs.Places.{in_level}
use Rattle.tree.proofs.Widths.{width_top}
use Rattle.builder.specs.Parts.{IsRow, over, row_slots, tree_len}
use Rattle.builder.proofs.Joins.{joined_same}
use Rattle.builder.proofs.Over.{width_over, levels_over, no_level, over_over, some_over}
use Rattle.builder.proofs.Rows.{level_is}

module _ {h : List ℕ → List ℕ} {s : Shape} {size : ℕ} (sound : Sound h s size) (row : List ℕ) where
  abbrev up : Shape
  up = over s 1

  abbrev base : List ℕ
  base = level h s row 0

  width_up : (i : ℕ) → width up i ≡ width s (suc i)
  width_up i = width_over s sound.wide 1 i ∙ ap (width s) (let e : 1 + i ≡ suc i = omega arith in e)

  node_up : (i j : ℕ) → j < width up i → node h up base i j ≡ node h s row (suc i) j
  unfolding node
  node_up zero j there = ap (λ xs. block_of s.hash_block xs j) (sym (append-nil base)) ∙ in_level h s size sound row 0 j [] (omega (arith, there, width_up 0))
  node_up (suc i) j there =
      let w = width up i in
      let v = width s (suc i) in
      let zeros = replicate {A = ℕ} s.slot 0 in
      joined_same
      (λ t. cond (ltb (j * fanout s + t) w) (in_slot s.slot (h (node h up base i (j * fanout s + t)))) zeros)
      (λ t. cond (ltb (j * fanout s + t) v) (in_slot s.slot (h (node h s row (suc i) (j * fanout s + t)))) zeros)
      (fanout s) 0
      (λ t low high.
      let k = j * fanout s + t in
      let x = in_slot s.slot (h (node h up base i k)) in
      let y = in_slot s.slot (h (node h s row (suc i) k)) in
      elim (cases_lt k w) [
        | inl less ↦
            cond-true (ltb k w) x zeros (lt-ltb k w less) ∙ ap (λ b. in_slot s.slot (h b)) (node_up i k less)
            ∙ sym (cond-true (ltb k v) y zeros (lt-ltb k v (omega (arith, less, width_up i))))
        | inr past ↦ cond-false (ltb k w) x zeros (le-ltb k w past) ∙ sym (cond-false (ltb k v) y zeros (le-ltb k v (omega (arith, past, width_up i))))
      ])

  level_up : (i : ℕ) → level h up base i ≡ level h s row (suc i)
  unfolding level
  level_up i =
      joined_same (node h up base (suc i)) (node h s row (suc (suc i))) (width up (suc i)) 0 (λ k low high. node_up (suc i) k (omega (arith, high)))
      ∙ ap (λ n. flat_map (node h s row (suc (suc i))) (range_with_len 0 n)) (width_up (suc i))

  lowest_up : (m : ℕ) → lowest h up base m ++ base ≡ lowest h s row (suc m)
  unfolding lowest
  lowest_up zero = sym (append-nil base)
  lowest_up (suc m) = append_assoc (level h up base m) (lowest h up base m) base ∙ ap₂ (λ xs ys. xs ++ ys) (level_up m) (lowest_up m)

  -- some levels
  module _ (more : 0 < levels s) where
    levels_up : levels s ≡ suc (levels up)
    levels_up = omega (arith, levels_over s sound.wide 1 more, more)

    pub tree_up : tree h s row ≡ tree h up base ++ base
    unfolding tree
    tree_up = ap (lowest h s row) levels_up ∙ sym (lowest_up (levels up))

    pub root_up : root h s row ≡ root h up base
    unfolding root
    root_up =
        let l = levels up in
        let one = width_top up sound.wide (some_over s sound.wide 1 sound.some) in
        ap (λ m. h (node h s row m 0)) levels_up ∙ ap h (sym (node_up l 0 (omega (arith, one))))

  -- no level: one block
  module _ (none : levels s ≡ 0) where
    pub one_block : s.blocks ≡ 1
    one_block =
        let one : fanout s ^ levels s ≡ 1 = ap (λ k. fanout s ^ k) none ∙ pow-zero (fanout s) in
        omega (arith, (levels_stand_lem (fanout s) s.blocks sound.wide).0, sound.some)

    pub no_tree : {buf : List ℕ} → buf ≡ replicate (tree_len s) 0 → buf ≡ tree h s row
    unfolding tree lowest
    no_tree zeros = zeros ∙ no_level s none ∙ sym (ap (lowest h s row) none)

    pub length-one : IsRow s row → length row ≡ s.data_block
    length-one whole = whole ∙ ap (λ k. k * s.data_block) one_block ∙ omega arith

    pub one_root : IsRow s row → h row ≡ root h s row
    unfolding root node
    one_root whole =
        let first : 0 * s.data_block ≡ 0 = omega arith in
        sym (ap (λ m. h (node h s row m 0)) none ∙ ap h (ap (λ k. take s.data_block (drop k row)) first ∙ take_all s.data_block row (omega (arith, length-one whole))))

-- level i is written over the row below it
module _ {h : List ℕ → List ℕ} (s : Shape) {size : ℕ} (i : ℕ) (sound : Sound h (over s i) size) (more : 0 < levels (over s i)) (row : List ℕ) {at : List ℕ} where
  pub is_level : {total slot : ℕ} → total ≡ width s (i + 1) * s.hash_block → slot ≡ s.slot → at ≡ in_slot total (row_slots h (over s i) slot row) → at ≡ level h (over s i) row 0
  is_level long same made =
      made ∙ ap₂ (λ n x. in_slot n (row_slots h (over s i) x row)) (long ∙ ap (λ w. w * s.hash_block) (sym (width_over s sound.wide i 1))) same ∙ sym (level_is sound row)

  pub tree_next : {above : List ℕ} → at ≡ level h (over s i) row 0 → above ≡ tree h (over s (i + 1)) at → above ++ at ≡ tree h (over s i) row
  tree_next is made =
      ap (λ xs. xs ++ at) made ∙ ap₂ (λ u xs. tree h u xs ++ xs) (sym (over_over s sound.wide i)) is ∙ sym (tree_up sound row more)

  pub root_next : {top : List ℕ} → at ≡ level h (over s i) row 0 → top ≡ root h (over s (i + 1)) at → top ≡ root h (over s i) row
  root_next is made = made ∙ ap₂ (root h) (sym (over_over s sound.wide i)) is ∙ sym (root_up sound row more)
