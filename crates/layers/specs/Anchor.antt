-- What a good label tells: all that the path check needs to know.
use Rattle.std.specs.Prelude.{ℕ, List}
use Rattle.tree.specs.Shape.{Shape}

pub record Anchor : Type 0 where
  -- the salted digest of a block, and how many bytes it has
  pub salted : List ℕ → List ℕ
  pub size : ℕ
  pub shape : Shape
  -- the salted digest of the block on top
  pub root : List ℕ
