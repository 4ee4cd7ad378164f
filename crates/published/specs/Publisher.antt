-- The publisher of an image that was built.
use Rattle.std.specs.Prelude.{ℕ, List}
use Rattle.tree.specs.Tree.{salted}
use Rattle.geometry.specs.Of.{shape_of}
use Rattle.builder.specs.declared.source.Source.{Source}
use Rattle.builder.specs.Build.{shape_for}
use Rattle.layers.specs.Publisher.{Publisher}
use Rattle.published.specs.declared.published.Published.{Published}

-- of a source, for a digest of this size and meaning
abbrev pub publisher_over : ℕ → (List ℕ → List ℕ) → Source → Publisher
publisher_over size meaning source = record { salted = salted meaning source.salt.now; size = size; shape = shape_for size source; image = source.image.now }

-- of a value of `Published`
abbrev pub publisher_of : {H : Type 0} {h : _} → Published H h → Publisher
publisher_of {h = h} b = record { salted = salted h.meaning b.source.salt.now; size = h.LEN; shape = shape_of b.geometry; image = b.source.image.now }

-- the image, the sizes and the salt
abbrev pub source_of : {H : Type 0} {h : _} → Published H h → Source
source_of b = b.source
