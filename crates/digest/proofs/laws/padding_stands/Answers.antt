use Rattle.digest.proofs.Joining.{padding_stands_lem}
use Rattle.digest.proofs.laws.padding_stands.Goals as goal

pub returns : goal.returns
returns c = padding_stands_lem
