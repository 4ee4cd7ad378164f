use Rattle.builder.proofs.Digests.{parts_stand_lem}
use Rattle.builder.proofs.hash.parts_stand.Goals as goal

pub returns : goal.returns
returns c = parts_stand_lem
