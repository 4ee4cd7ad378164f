use Rattle.text.proofs.Numbers.{number_of-decimal}
use Rattle.text.proofs.laws.numbers_stand.Goals as goal

pub returns : goal.returns
returns c = number_of-decimal
