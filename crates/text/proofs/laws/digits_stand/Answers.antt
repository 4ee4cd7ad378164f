use Rattle.text.proofs.Pairs.{digits_stand_lem}
use Rattle.text.proofs.laws.digits_stand.Goals as goal

pub returns : goal.returns
returns c = digits_stand_lem
