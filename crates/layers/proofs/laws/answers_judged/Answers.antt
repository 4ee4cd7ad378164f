use Rattle.layers.proofs.Judging.{answers_judged_lem}
use Rattle.layers.proofs.laws.answers_judged.Goals as goal

pub returns : goal.returns
returns g c = answers_judged_lem
