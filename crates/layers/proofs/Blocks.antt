-- The publisher's blocks for the questions of a path.
use Rattle.std.proofs.Common.{◌≡◌, ℕ, zero, suc, ◌+◌, ◌-◌, ◌*◌, ◌/◌, ◌^◌, ◌<◌, ◌≤◌, true, eqb, ltb, ◌&&◌, length, drop, Some, None, refl, ap, ◌∙◌, mul-le-mul_right, arith}
use Rattle.std.proofs.lemmas.List.{length-take, length-drop}
use Rattle.std.proofs.lemmas.Bool.{cond-true, lt-ltb, eq-eqb, and_from}
use Rattle.tree.specs.Shape.{Shape, fanout, levels, width, blocks_from, tree_blocks, start}
use Rattle.tree.specs.Tree.{block_of, node, tree}
use Rattle.tree.proofs.Places.{place}
use Rattle.tree.proofs.Widths.{above_data}
use Rattle.layers.specs.Fault.{Lies}
use Rattle.layers.specs.Verity.{tree_place}
use Rattle.layers.specs.Path.{data_question, tree_question}
use Rattle.layers.specs.Publisher.{Publisher, Whole, right_block}

-- the levels from i up are not more than all
from_low : (s : Shape) (i : ℕ) → i ≤ levels s → blocks_from s i (levels s - i) ≤ blocks_from s 0 (levels s)
unfolding blocks_from
from_low s zero low = let all : levels s - 0 ≡ levels s = omega arith in omega (arith, ap (blocks_from s 0) all)
from_low s (suc i) low =
    let left : levels s - i ≡ suc (levels s - suc i) = omega arith in
    let one : blocks_from s i (levels s - i) ≡ width s (suc i) + blocks_from s (suc i) (levels s - suc i) = ap (blocks_from s i) left in
    omega (arith, from_low s i (omega arith), one)

-- a block that is there
pub within : (bytes n k : ℕ) → k < n → (eqb bytes bytes && ltb k n) ≡ true
within bytes n k there = and_from (eqb bytes bytes) (ltb k n) (eq-eqb bytes bytes refl) (lt-ltb k n there)

-- block j of level i lies in the tree
pub in_tree : (s : Shape) (i j : ℕ) → i < levels s → j < width s (suc i) → start s i + j < tree_blocks s
unfolding blocks_from
in_tree s i j low there =
    let left : levels s - i ≡ suc (levels s - suc i) = omega arith in
    let one : blocks_from s i (levels s - i) ≡ width s (suc i) + blocks_from s (suc i) (levels s - suc i) = ap (blocks_from s i) left in
    omega (arith, from_low s i (omega arith), one)

-- the block of level i above a data block lies on that level
pub tree-lies : (s : Shape) → 0 < fanout s → (k i : ℕ) → k < s.blocks → i < levels s → Lies s (tree_place s k i)
tree-lies s pos k i there low =
    let up = above_data s pos (suc i) k there in
    (low, omega arith, omega arith)

module _ (p : Publisher) (whole : Whole p) (k : ℕ) (there : k < p.shape.blocks) where
  pub right_data : right_block p (data_question p.shape k) ≡ Some (node p.salted p.shape p.image 0 k)
  unfolding right_block node
  right_data =
      let s = p.shape in
      cond-true (eqb s.data_block s.data_block && ltb k s.blocks) (Some (block_of s.data_block p.image k)) None (within s.data_block s.blocks k there)

  pub right_tree : (i : ℕ) → i < levels p.shape → right_block p (tree_question p.shape k i) ≡ Some (node p.salted p.shape p.image (suc i) (k / fanout p.shape ^ suc i))
  unfolding right_block
  right_tree i low =
      let s = p.shape in
      let j = k / fanout s ^ suc i in
      let pos : 0 < fanout s = omega (arith, whole.sound.wide) in
      let up = above_data s pos (suc i) k there in
      let row = tree p.salted s p.image in
      cond-true (eqb s.hash_block s.hash_block && ltb (start s i + j) (tree_blocks s)) (Some (block_of s.hash_block row (start s i + j))) None
      (within s.hash_block (tree_blocks s) (start s i + j) (in_tree s i j low up))
      ∙ ap Some (place p.salted s p.size whole.sound p.image i j low up)

  -- a data block is whole
  pub length-data : length (node p.salted p.shape p.image 0 k) ≡ p.shape.data_block
  unfolding node
  length-data =
      let d = p.shape.data_block in
      let room = mul-le-mul_right d there in
      omega (arith, length-take d (drop (k * d) p.image), length-drop (k * d) p.image, whole.filled, room)
