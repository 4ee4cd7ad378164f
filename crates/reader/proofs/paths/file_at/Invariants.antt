use Rattle.std.proofs.Common.{Some}
use Rattle.volume.specs.Paths.{file_at}
use Rattle.reader.specs.Parts.{parts_of}
use Rattle.reader.proofs.Parting.{left}
use Rattle.reader.proofs.Entering.{Left}
use Rattle.reader.proofs.paths.file_at.Given as goal

abbrev pub invariant-loop-header : goal.invariant-loop-header
invariant-loop-header g l = Left g.D.Device.meaning g.D.Device.moves l.romfs.block.bytes l.romfs.start file_at l.fn.store (parts_of (Some l.fn.first)) l.store (parts_of (Some l.component)) l.list

abbrev pub decreases-loop-header : goal.decreases-loop-header
decreases-loop-header g l = left (Some l.component)
