use Rattle.std.proofs.Common.{◌+◌, ◌-◌, cond, ◌==◌}
use Rattle.reader.specs.Sought.{sought_value}
use Rattle.reader.proofs.Seeking.{Seeking}
use Rattle.reader.proofs.walk.find.Given as goal

abbrev pub invariant-loop-at : goal.invariant-loop-at
invariant-loop-at g l = Seeking g.D.Device.meaning g.D.Device.moves l.romfs.block.bytes l.romfs.start l.place l.fn.store (sought_value l.fn.sought) l.first l.store (sought_value l.sought) l.at

abbrev pub decreases-loop-at : goal.decreases-loop-at
decreases-loop-at g l = cond (l.at == 0) 0 (l.romfs.start.size + 1 - l.at)
