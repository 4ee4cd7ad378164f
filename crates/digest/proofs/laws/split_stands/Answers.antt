use Rattle.digest.proofs.Joining.{split_stands_lem}
use Rattle.digest.proofs.laws.split_stands.Goals as goal

pub returns : goal.returns
returns c = split_stands_lem
