use Rattle.std.proofs.Common.{◌-◌}
use Rattle.geometry.specs.Of.{shape_of}
use Rattle.tree.specs.Shape.{levels}
use Rattle.builder.proofs.job.Job.+climb.Given as goal

abbrev pub decreases-climb : goal.decreases-climb
decreases-climb g l = levels (shape_of l.self.now.geometry) - l.i
