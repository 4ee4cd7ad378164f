-- What `build_above` answers and writes: the tree over the digests of data blocks.
use Rattle.std.specs.Prelude.{◌≡◌, ℕ, ◌*◌, ◌/◌, Bool, cond, ◌&&◌, List, [], ◌++◌, length, Result, ◌==◌}
use Rattle.geometry.specs.Limits.{shape}
use Rattle.tree.specs.Shape.{Shape, levels, width}
use Rattle.tree.specs.Tree.{block_of, in_slot, salted, tree, root}
use Rattle.tree.specs.Laws.{Sound}
use Rattle.builder.specs.declared.fault.BuildFault.{BuildFault}
use Rattle.builder.specs.declared.base.Base.{Base}
use Rattle.builder.specs.Check.{in_limits, has_room, verdict, written}
use Rattle.builder.specs.InParts.{digests_of}
use Rattle.builder.specs.Parts.{over, slots_of}

-- the shape of the tree over the blocks of these digests: the whole digests count, and a slot is as long as a digest
abbrev pub shape_above : ℕ → Base → Shape
shape_above size base = shape base.data_block base.hash_block (length base.digests.now / size) size

abbrev pub above_limits_met : ℕ → Base → Bool
above_limits_met size base = in_limits (shape_above size base) base.salt.now

-- the digests are whole, and the buffers are as long as the tree and the root
abbrev pub above_fits : ℕ → Base → List ℕ → List ℕ → Bool
above_fits size base for_tree for_root =
    length base.digests.now == (shape_above size base).blocks * size && has_room size (shape_above size base) for_tree for_root

abbrev pub above_answer : ℕ → Base → List ℕ → List ℕ → Result (Unit {0}) BuildFault
above_answer size base for_tree for_root = verdict (above_limits_met size base) (above_fits size base for_tree for_root)

-- level 0 over data blocks of these digests: each in its slot, and zeros behind them to whole tree blocks
abbrev pub level_zero : ℕ → Shape → List ℕ → List ℕ
level_zero size s digests = in_slot (width s 1 * s.hash_block) (slots_of s.slot (block_of size digests) s.blocks)

-- the tree over data blocks of these digests: without a level nothing, and else the tree over level 0, and level 0 behind it
unfoldable pub tree_above : ℕ → (List ℕ → List ℕ) → Shape → List ℕ → List ℕ
tree_above size h s digests = cond (levels s == 0) [] (tree h (over s 1) (level_zero size s digests) ++ level_zero size s digests)

-- its root: without a level the one digest, and else that of the tree over level 0
unfoldable pub root_above : ℕ → (List ℕ → List ℕ) → Shape → List ℕ → List ℕ
root_above size h s digests = cond (levels s == 0) digests (root h (over s 1) (level_zero size s digests))

-- what the tree's buffer holds after `build_above`: the tree over the digests, or zeros
abbrev pub tree_above_after : ℕ → (List ℕ → List ℕ) → Base → List ℕ → List ℕ → List ℕ
tree_above_after size meaning base for_tree for_root =
    written (above_limits_met size base) (above_fits size base for_tree for_root)
    (tree_above size (salted meaning base.salt.now) (shape_above size base) base.digests.now) for_tree

-- and the root's: its root, or zeros
abbrev pub root_above_after : ℕ → (List ℕ → List ℕ) → Base → List ℕ → List ℕ → List ℕ
root_above_after size meaning base for_tree for_root =
    written (above_limits_met size base) (above_fits size base for_tree for_root)
    (root_above size (salted meaning base.salt.now) (shape_above size base) base.digests.now) for_root

-- over the digests of an image's blocks they are the tree and the root of the image
abbrev pub AboveStands : Type 0
AboveStands =
    (h : List ℕ → List ℕ) (s : Shape) (size : ℕ) → Sound h s size → (image : List ℕ) → length image ≡ s.blocks * s.data_block
    → (tree_above size h s (digests_of h s.data_block image) ≡ tree h s image) × (root_above size h s (digests_of h s.data_block image) ≡ root h s image)
