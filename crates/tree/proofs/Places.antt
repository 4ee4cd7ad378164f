-- Where each tree block lies, and how long the tree is.
use Rattle.std.proofs.Common.{◌≡◌, ℕ, zero, suc, ◌+◌, ◌-◌, ◌*◌, ◌<◌, ◌≤◌, List, ◌++◌, length, take, drop, sym, ap, ◌∙◌, ap₂, add-zero, add-suc, mul-le-mul_right, zero-add, arith}
use Rattle.std.proofs.lemmas.List.{length-append, length-drop, take-append-le, drop-append-le, drop_at, drop-drop}
use Rattle.tree.specs.Shape.{Shape, levels, width, blocks_from, tree_blocks, start}
use Rattle.tree.specs.Tree.{block_of, node, level, lowest, tree}
use Rattle.tree.specs.Laws.{Sound, PlacesStand}
use Rattle.tree.proofs.Pieces.{piece, length_pieces}
use Rattle.tree.proofs.Slots.{length-node}

-- the top level of some counts last
blocks_last : (s : Shape) (i n : ℕ) → blocks_from s i (suc n) ≡ blocks_from s i n + width s (suc (i + n))
unfolding blocks_from
blocks_last s i zero = rw (add-zero i) (omega arith)
blocks_last s i (suc n) =
    let same : suc i + n ≡ i + suc n = omega arith in
    let last = rw same at (blocks_last s (suc i) n) in
    omega arith

module _ (h : List ℕ → List ℕ) (s : Shape) (size : ℕ) (sound : Sound h s size) (image : List ℕ) where
  pub length-level : (i : ℕ) → length (level h s image i) ≡ width s (suc i) * s.hash_block
  unfolding level
  length-level i = length_pieces (node h s image (suc i)) s.hash_block (length-node h s size sound image i) (width s (suc i)) 0

  length-lowest : (m : ℕ) → length (lowest h s image m) ≡ blocks_from s 0 m * s.hash_block
  unfolding lowest blocks_from
  length-lowest zero = omega arith
  length-lowest (suc m) =
      let last : blocks_from s 0 (suc m) ≡ blocks_from s 0 m + width s (suc m) = rw zero-add at (blocks_last s 0 m) in
      length-append (level h s image m) (lowest h s image m) ∙ ap₂ (λ x y. x + y) (length-level m) (length-lowest m)
      ∙ sym (ap (λ n. n * s.hash_block) last ∙ omega arith)

  pub length-tree : length (tree h s image) ≡ tree_blocks s * s.hash_block
  unfolding tree
  length-tree = length-lowest (levels s)

  -- behind d levels comes level i
  behind : (i d : ℕ) → drop (blocks_from s (suc i) d * s.hash_block) (lowest h s image (suc i + d)) ≡ level h s image i ++ lowest h s image i
  unfolding lowest blocks_from
  behind i zero =
      let none : 0 * s.hash_block ≡ 0 = omega arith in
      ap₂ (λ k m. drop k (lowest h s image m)) none (add-zero (suc i))
  behind i (suc d) =
      let m = suc i + d in
      let b = blocks_from s (suc i) d in
      let top = level h s image m in
      let rest = lowest h s image m in
      let w = width s (suc m) * s.hash_block in
      let far : blocks_from s (suc i) (suc d) * s.hash_block ≡ w + b * s.hash_block = ap (λ n. n * s.hash_block) (blocks_last s (suc i) d) ∙ omega arith in
      ap₂ (λ k n. drop k (lowest h s image n)) far (add-suc (suc i) d)
      ∙ sym (drop-drop (b * s.hash_block) w (top ++ rest)) ∙ ap (drop (b * s.hash_block)) (drop_at top rest w (length-level m)) ∙ behind i d

  pub in_level : (i j : ℕ) (more : List ℕ) → j < width s (suc i) → block_of s.hash_block (level h s image i ++ more) j ≡ node h s image (suc i) j
  unfolding level
  in_level i j more there =
      let b = s.hash_block in
      let row = level h s image i in
      let long = length-level i in
      let room : suc j * b ≤ width s (suc i) * b = mul-le-mul_right b there in
      ap (take b) (drop-append-le (j * b) row more (omega arith)) ∙ take-append-le b (drop (j * b) row) more (omega (arith, length-drop (j * b) row))
      ∙ piece (node h s image (suc i)) b (length-node h s size sound image i) (width s (suc i)) 0 j there ∙ ap (node h s image (suc i)) (zero-add j)

  pub place : (i j : ℕ) → i < levels s → j < width s (suc i) → block_of s.hash_block (tree h s image) (start s i + j) ≡ node h s image (suc i) j
  unfolding tree
  place i j low there =
      let b = s.hash_block in
      let d = levels s - suc i in
      let whole : suc i + d ≡ levels s = omega arith in
      let far : (start s i + j) * b ≡ start s i * b + j * b = omega arith in
      ap (λ n. take b (drop n (tree h s image))) far
      ∙ ap (take b) (sym (drop-drop (j * b) (start s i * b) (tree h s image)))
      ∙ ap (λ m. take b (drop (j * b) (drop (start s i * b) (lowest h s image m)))) (sym whole)
      ∙ ap (λ xs. take b (drop (j * b) xs)) (behind i d)
      ∙ in_level i j (lowest h s image i) there

pub places_stand_lem : PlacesStand
places_stand_lem h s size sound image = (length-tree h s size sound image, place h s size sound image)
