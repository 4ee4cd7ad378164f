use Rattle.std.proofs.Common.{rules}
use Rattle.builder.proofs.Over.{over_data, row_over, zeros_over}
use Rattle.builder.proofs.make.build.Goals as goal

pub climb-requires-clause-below : goal.climb-requires-clause-below
climb-requires-clause-below g c = row_over c.in_ok-job.job.geometry _ (search rules)

pub climb-requires-clause-zeros : goal.climb-requires-clause-zeros
climb-requires-clause-zeros g c = zeros_over c.in_ok-job.job.geometry (search rules)

pub returns-clause-tree : goal.returns-clause-tree
returns-clause-tree g c = let made = rw (over_data c.in_ok-job.job.geometry) at c.climb.ensures.tree in search rules

pub returns-clause-root : goal.returns-clause-root
returns-clause-root g c = let made = rw (over_data c.in_ok-job.job.geometry) at c.climb.ensures.root in search rules
