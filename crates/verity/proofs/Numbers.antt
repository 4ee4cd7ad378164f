-- The numbers of a path's places fit their types, and a slot lies in its block.
use Rattle.std.proofs.Common.{ℕ, suc, ◌+◌, ◌/◌, ◌^◌, ◌<◌, arith}
use Rattle.tree.specs.Shape.{fanout, levels, start}
use Rattle.geometry.specs.declared.geometry.Geometry.{Geometry}
use Rattle.geometry.specs.Of.{shape_of}
use Rattle.geometry.proofs.Bounds.{bounds_of, tree_bound}
use Rattle.tree.proofs.Widths.{above_data}
use Rattle.layers.proofs.Blocks.{in_tree}

-- the number of a block of level i above data block k
pub block_low : (g : Geometry) (i k : ℕ) → i < levels (shape_of g) → k < (shape_of g).blocks → start (shape_of g) i + k / fanout (shape_of g) ^ suc i < 7340032
block_low g i k low there =
    let s = shape_of g in
    omega (arith, in_tree s i (k / fanout s ^ suc i) low (above_data s (omega (arith, (bounds_of g).wide)) (suc i) k there), tree_bound s (bounds_of g))
