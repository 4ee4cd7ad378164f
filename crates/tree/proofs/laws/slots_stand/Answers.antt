use Rattle.tree.proofs.Slots.{slots_stand_lem}
use Rattle.tree.proofs.laws.slots_stand.Goals as goal

pub returns : goal.returns
returns c = slots_stand_lem
