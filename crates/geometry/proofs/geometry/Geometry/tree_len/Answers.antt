use Rattle.std.proofs.Common.{arith}
use Rattle.geometry.specs.Of.{shape_of}
use Rattle.geometry.proofs.Bounds.{bounds_of, tree_bytes}
use Rattle.geometry.proofs.geometry.Geometry.tree_len.Goals as goal

pub overflow_mul-result : goal.overflow_mul-result
overflow_mul-result c =
    let g = c.args.self.now in
    record { fits = omega (arith, tree_bytes (shape_of g) c.tree_blocks.result (bounds_of g) c.tree_blocks.ensures) }
