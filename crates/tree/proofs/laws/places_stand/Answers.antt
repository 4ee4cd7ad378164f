use Rattle.tree.proofs.Places.{places_stand_lem}
use Rattle.tree.proofs.laws.places_stand.Goals as goal

pub returns : goal.returns
returns c = places_stand_lem
