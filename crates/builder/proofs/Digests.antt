-- Digests of data blocks, joined, and the tree over them.
use Rattle.std.proofs.Common.{◌≡◌, ℕ, ◌+◌, ◌-◌, ◌*◌, ◌/◌, ◌<◌, List, [], ◌++◌, length, take, drop, replicate, sym, ap, ap₂, ◌∙◌, inl, inr, refl, mul-le-mul_right, zero-add, arith}
use native.Mathlib.Nat.{mul-div_cancel, div-add-mod'}
use Rattle.std.proofs.Math.Nat.{mul-add-div_right}
use Rattle.std.proofs.Math.Seq.{drop-append-add}
use Rattle.std.specs.Bool.{◌==◌}
use Rattle.std.specs.List.{range_with_len, flat_map}
use Rattle.std.proofs.lemmas.Bool.{cond-true, cond-false, cases_eq, eq-eqb, ne_eqb}
use Rattle.std.proofs.lemmas.List.{append-nil, length-append, length-drop, length-take-le, length-take, take-append-le, drop-append-le}
use Rattle.tree.specs.Shape.{Shape, levels, width}
use Rattle.tree.specs.Tree.{block_of, in_slot, node, level, lowest, tree, root}
use Rattle.tree.specs.Laws.{Sound}
use Rattle.tree.proofs.Pieces.{piece, length_pieces, same_blocks}
use Rattle.tree.proofs.Slots.{length-in_slot}
use Rattle.builder.specs.Above.{level_zero, tree_above, root_above, AboveStands}
use Rattle.builder.specs.InParts.{digests_of, PartsStand}
use Rattle.builder.specs.Parts.{IsRow, over, slots_of, row_slots}
use Rattle.builder.proofs.Joins.{joined_split, joined_same, joined_shift}
use Rattle.builder.proofs.Rows.{level_is}
use Rattle.builder.proofs.Steps.{tree_up, root_up, one_block}

-- bytes that fill their slot
bare_slot : (slot : ℕ) (d : List ℕ) → length d ≡ slot → in_slot slot d ≡ d
bare_slot slot d full = let none : slot - length d ≡ 0 = omega arith in ap (λ k. d ++ replicate k 0) none ∙ append-nil d

-- blocks that fill their slots
bare_slots : (slot n : ℕ) (block : ℕ → List ℕ) → ((k : ℕ) → k < n → length (block k) ≡ slot) → slots_of slot block n ≡ flat_map block (range_with_len 0 n)
bare_slots slot n block full = joined_same (λ k. in_slot slot (block k)) block n 0 (λ k low high. bare_slot slot (block k) (full k (omega (arith, high))))

-- whole blocks, joined again
rejoined : (size n : ℕ) (xs : List ℕ) → length xs ≡ n * size → slots_of size (block_of size xs) n ≡ xs
rejoined size n xs whole =
    let full : (k : ℕ) → k < n → length (block_of size xs k) ≡ size = λ k there.
    length-take-le size (drop (k * size) xs) (omega (arith, length-drop (k * size) xs, mul-le-mul_right size there)) in
    let slot : ℕ → List ℕ = λ k. in_slot size (block_of size xs k) in
    let long : (k : ℕ) → length (slot k) ≡ size = λ k. length-in_slot size (length (block_of size xs k)) (block_of size xs k) refl (omega (arith, length-take size (drop (k * size) xs))) in
    same_blocks n size (slots_of size (block_of size xs) n) xs (length_pieces slot size long n 0) whole
    (λ k there. piece slot size long n 0 k there ∙ ap slot (zero-add k) ∙ bare_slot size (block_of size xs k) (full k there))

module _ {h : List ℕ → List ℕ} {s : Shape} {size : ℕ} (sound : Sound h s size) (image : List ℕ) (whole : IsRow s image) where
  abbrev hashed : ℕ → List ℕ
  hashed k = h (block_of s.data_block image k)

  count : length image / s.data_block ≡ s.blocks
  count = ap (λ k. k / s.data_block) whole ∙ mul-div_cancel s.blocks sound.bytes

  length-hashed : (k : ℕ) → length (hashed k) ≡ size
  length-hashed k = sound.sized (block_of s.data_block image k)

  -- in slots as long as a digest
  pub digests_are : (total : ℕ) → total ≡ s.blocks * size → in_slot total (row_slots h s size image) ≡ digests_of h s.data_block image
  digests_are total room =
      let joined = bare_slots size s.blocks hashed (λ k there. length-hashed k) in
      bare_slot total (slots_of size hashed s.blocks) (ap length joined ∙ length_pieces hashed size length-hashed s.blocks 0 ∙ sym room)
      ∙ joined ∙ ap (λ n. flat_map hashed (range_with_len 0 n)) (sym count)

  -- in the slots of level 0
  level_zero_is : level_zero size s (digests_of h s.data_block image) ≡ level h s image 0
  level_zero_is =
      let digests = digests_of h s.data_block image in
      ap (in_slot (width s 1 * s.hash_block))
      (joined_same (λ k. in_slot s.slot (block_of size digests k)) (λ k. in_slot s.slot (hashed k)) s.blocks 0
      (λ k low high. ap (in_slot s.slot) (piece hashed size length-hashed (length image / s.data_block) 0 k (omega (arith, high, count)) ∙ ap hashed (zero-add k))))
      ∙ sym (level_is sound image)

module _ (size : ℕ) (h : List ℕ → List ℕ) (s : Shape) (digests : List ℕ) where
  abbrev row : List ℕ
  row = level_zero size s digests

  pub above_none : levels s ≡ 0 → (tree_above size h s digests ≡ []) × (root_above size h s digests ≡ digests)
  unfolding tree_above root_above
  above_none none = (
    cond-true (levels s == 0) [] (tree h (over s 1) row ++ row) (eq-eqb (levels s) 0 none),
    cond-true (levels s == 0) digests (root h (over s 1) row) (eq-eqb (levels s) 0 none),
  )

  pub above_some : (levels s ≡ 0 → ⊥) → (tree_above size h s digests ≡ tree h (over s 1) row ++ row) × (root_above size h s digests ≡ root h (over s 1) row)
  unfolding tree_above root_above
  above_some more = (
    cond-false (levels s == 0) [] (tree h (over s 1) row ++ row) (ne_eqb (levels s) 0 more),
    cond-false (levels s == 0) digests (root h (over s 1) row) (ne_eqb (levels s) 0 more),
  )

  -- level 0 is the digests as they are, where a slot is as long as a digest
  module _ (more : levels s ≡ 0 → ⊥) (bare : s.slot ≡ size) (whole : length digests ≡ s.blocks * size) {total : ℕ} (long : total ≡ width s 1 * s.hash_block)
      {level : List ℕ} (copied : level ≡ in_slot total digests) where
    full : level ≡ row
    full =
        copied ∙ ap₂ in_slot long (sym (ap (λ k. slots_of k (block_of size digests) s.blocks) bare ∙ rejoined size s.blocks digests whole))

    pub copied_tree : {above : List ℕ} → above ≡ tree h (over s 1) level → above ++ level ≡ tree_above size h s digests
    copied_tree made = ap₂ (λ xs ys. xs ++ ys) (made ∙ ap (tree h (over s 1)) full) full ∙ sym (above_some more).0

    pub copied_root : {top : List ℕ} → top ≡ root h (over s 1) level → top ≡ root_above size h s digests
    copied_root made = made ∙ ap (root h (over s 1)) full ∙ sym (above_some more).1

pub above_stands_lem : AboveStands
unfolding tree lowest root node
above_stands_lem h s size sound image whole =
    let digests = digests_of h s.data_block image in
    let full = level_zero_is sound image whole in
    elim (cases_eq (levels s) 0) [
      | inl none ↦
          let alone = above_none size h s digests none in
          let one : length image / s.data_block ≡ 1 = count sound image whole ∙ one_block sound image none in
          let first : List ℕ = h (block_of s.data_block image 0) in (
            alone.0 ∙ sym (ap (lowest h s image) none),
            alone.1 ∙ ap (λ n. flat_map (λ k. h (block_of s.data_block image k)) (range_with_len 0 n)) one ∙ append-nil first ∙ sym (ap (λ m. h (node h s image m 0)) none),
          )
      | inr more ↦
          let higher = above_some size h s digests more in
          let some : 0 < levels s = omega (arith, more) in (
            higher.0 ∙ ap (λ xs. tree h (over s 1) xs ++ xs) full ∙ sym (tree_up sound image some),
            higher.1 ∙ ap (root h (over s 1)) full ∙ sym (root_up sound image some),
          )
    ]

-- the blocks of a joined image are those of its parts
pub parts_stand_lem : PartsStand
parts_stand_lem h d a b some whole =
    let m = length a / d in
    let n = length b / d in
    let f : ℕ → List ℕ = λ k. h (block_of d (a ++ b) k) in
    let la : m * d ≡ length a = omega (arith, div-add-mod' (length a) d, whole) in
    let count : length (a ++ b) / d ≡ m + n = ap (λ k. k / d) (length-append a b ∙ ap (λ k. k + length b) (sym la)) ∙ mul-add-div_right some m (length b) in
    let start : 0 + m ≡ m + 0 = omega arith in
    ap (λ k. flat_map f (range_with_len 0 k)) count ∙ joined_split f m n 0
    ∙ ap₂ (λ xs ys. xs ++ ys)
    (joined_same f (λ k. h (block_of d a k)) m 0
    (λ k low high.
    let far = mul-le-mul_right d high in
    ap h (ap (take d) (drop-append-le (k * d) a b (omega (arith, la, far))) ∙ take-append-le d (drop (k * d) a) b (omega (arith, length-drop (k * d) a, la, far)))))
    (ap (λ k. flat_map f (range_with_len k n)) start ∙ sym (joined_shift f m n 0)
    ∙ joined_same (λ t. f (m + t)) (λ k. h (block_of d b k)) n 0
    (λ k low high.
    let far : (m + k) * d ≡ length a + k * d = omega (arith, la) in
    ap h (ap (take d) (ap (λ x. drop x (a ++ b)) far ∙ drop-append-add a b (k * d)))))
