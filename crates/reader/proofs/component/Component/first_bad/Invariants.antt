use Rattle.std.proofs.Common.{◌≡◌}
use Rattle.volume.specs.Paths.{first_bad, parts}
use Rattle.reader.specs.Parts.{parts_of}
use Rattle.reader.proofs.Parting.{left}
use Rattle.reader.proofs.component.Component.first_bad.Given as goal

abbrev pub invariant-loop-part : goal.invariant-loop-part
invariant-loop-part l = first_bad (parts l.path) ≡ first_bad (parts_of l.part)

abbrev pub decreases-loop-part : goal.decreases-loop-part
decreases-loop-part l = left l.part
