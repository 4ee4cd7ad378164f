-- When a label is good: its number is the digest's, its sizes are within the limits, and its root is as long as a digest.
use Rattle.std.specs.Prelude.{◌≡◌, ℕ, Bool, true, false, ◌&&◌, length, Result, MatchResult, ◌==◌, nat_le}
use Rattle.tree.specs.Shape.{Shape}
use Rattle.geometry.specs.declared.geometry.Geometry.{Geometry}
use Rattle.geometry.specs.declared.label.Label.{Label}
use Rattle.geometry.specs.declared.label.LabelFault.{LabelFault}
use Rattle.geometry.specs.declared.label.LabelFault.TheVariants.{Limit}
use Rattle.geometry.specs.Limits.{shape, within}
use Rattle.geometry.specs.Of.{shape_of}

-- the shape that a label tells, with slots as long as a digest
abbrev pub told : ℕ → Label → Shape
told size l = shape l.data_block l.hash_block l.blocks size

-- for a digest of this number and size
abbrev pub good : ℕ → ℕ → Label → Bool
good id size l = l.digest == id && within (told size l) && nat_le (length l.salt.now) 256 && length l.root.now == size

-- the geometry of a good label, or the refusal of another
abbrev pub Checked : ℕ → ℕ → Label → Result Geometry LabelFault → Type 0
Checked id size l r = MatchResult r (λ g. (good id size l ≡ true) × (shape_of g ≡ told size l)) (λ e. good id size l ≡ false)

-- the number of a refusal; it has no place
abbrev pub number_of : LabelFault → ℕ
number_of Limit = 2
