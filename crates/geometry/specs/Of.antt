-- The shape of a geometry.
use Rattle.std.specs.Prelude.{◌≡◌, true, false, Option, MatchOption}
use Rattle.tree.specs.Shape.{Shape}
use Rattle.geometry.specs.declared.geometry.Geometry.{Geometry}
use Rattle.geometry.specs.Limits.{shape, within}

abbrev pub shape_of : Geometry → Shape
shape_of g = shape g.data_block g.hash_block g.spread.blocks g.slot

-- a geometry of this shape is made exactly where the shape is within the limits
abbrev pub MadeOf : Shape → Option Geometry → Type 0
MadeOf s r = MatchOption r (within s ≡ false) (λ g. (within s ≡ true) × (shape_of g ≡ s))
