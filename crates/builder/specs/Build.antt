-- What `build` answers and writes, for a digest of this size and meaning.
use Rattle.std.specs.Prelude.{ℕ, ◌/◌, Bool, ◌&&◌, List, length, Result}
use Rattle.geometry.specs.Limits.{shape}
use Rattle.tree.specs.Shape.{Shape}
use Rattle.tree.specs.Tree.{salted, tree, root}
use Rattle.builder.specs.declared.fault.BuildFault.{BuildFault}
use Rattle.builder.specs.declared.source.Source.{Source}
use Rattle.builder.specs.Check.{in_limits, is_whole, has_room, verdict, written}

-- the shape of the tree over a source: the image's whole blocks count, and a slot is as long as a digest
abbrev pub shape_for : ℕ → Source → Shape
shape_for size source = shape source.data_block source.hash_block (length source.image.now / source.data_block) size

abbrev pub limits_met : ℕ → Source → Bool
limits_met size source = in_limits (shape_for size source) source.salt.now

-- the image is whole blocks, and the buffers are as long as the tree and the root
abbrev pub lengths_fit : ℕ → Source → List ℕ → List ℕ → Bool
lengths_fit size source for_tree for_root = is_whole (shape_for size source) source.image.now && has_room size (shape_for size source) for_tree for_root

abbrev pub answer : ℕ → Source → List ℕ → List ℕ → Result (Unit {0}) BuildFault
answer size source for_tree for_root = verdict (limits_met size source) (lengths_fit size source for_tree for_root)

-- what the tree's buffer holds then: the tree, or zeros
abbrev pub tree_after : ℕ → (List ℕ → List ℕ) → Source → List ℕ → List ℕ → List ℕ
tree_after size meaning source for_tree for_root =
    written (limits_met size source) (lengths_fit size source for_tree for_root)
    (tree (salted meaning source.salt.now) (shape_for size source) source.image.now) for_tree

-- and the root's: the root, or zeros
abbrev pub root_after : ℕ → (List ℕ → List ℕ) → Source → List ℕ → List ℕ → List ℕ
root_after size meaning source for_tree for_root =
    written (limits_met size source) (lengths_fit size source for_tree for_root)
    (root (salted meaning source.salt.now) (shape_for size source) source.image.now) for_root
