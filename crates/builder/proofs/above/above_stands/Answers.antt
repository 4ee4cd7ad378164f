use Rattle.builder.proofs.Digests.{above_stands_lem}
use Rattle.builder.proofs.above.above_stands.Goals as goal

pub returns : goal.returns
returns c = above_stands_lem
