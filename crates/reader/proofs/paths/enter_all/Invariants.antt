use Rattle.volume.specs.Paths.{enter_all, parts}
use Rattle.reader.specs.Parts.{parts_of}
use Rattle.reader.proofs.Parting.{left}
use Rattle.reader.proofs.Entering.{Left}
use Rattle.reader.proofs.paths.enter_all.Given as goal

abbrev pub invariant-loop-part : goal.invariant-loop-part
invariant-loop-part g l = Left g.D.Device.meaning g.D.Device.moves l.romfs.block.bytes l.romfs.start enter_all l.fn.store (parts l.path) l.store (parts_of l.part) l.list

abbrev pub decreases-loop-part : goal.decreases-loop-part
decreases-loop-part g l = left l.part
