use Rattle.std.proofs.Common.{arith, inr}
use Rattle.volume.proofs.Steps.{steps}
use Rattle.volume.proofs.laws.steps_suffice.Goals as goal

pub returns : goal.returns
returns g c = λ start place sought at n more. steps start place n _ sought at (inr (omega arith, omega arith)) (inr (omega arith, omega arith))
