-- The path check as a device.
use Rattle.std.specs.Prelude.{Option}
use Rattle.layers.specs.Anchor.{Anchor}
use Rattle.verity.specs.declared.verity.Verity.{Verity}
use Rattle.verity.specs.Anchored.{kept}

-- what its label tells, or that it was refused
abbrev pub label_of : {H D : Type 0} {h d : _} → Verity H D h d → Option Anchor
label_of v = kept v.anchor

-- the device below
abbrev pub below_of : {H D : Type 0} {h d : _} → Verity H D h d → D
below_of v = v.below
