use Rattle.std.proofs.Common.{◌-◌}
use Rattle.reader.proofs.using.«+follow».Given as goal

abbrev pub decreases-follow : goal.decreases-follow
decreases-follow g l = 8 - l.links
