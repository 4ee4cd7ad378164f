-- What the code seeks, as the rules take it.
use Rattle.volume.specs.Walk as walk
use Rattle.reader.specs.declared.sought.Sought.{Sought}
use Rattle.reader.specs.declared.sought.Sought.TheVariants.{Name, Index}

abbrev pub sought_value : Sought → walk.Sought
sought_value (Name wanted) = walk.by_name wanted.now
sought_value (Index i) = walk.by_index i
