-- The areas as they are printed.
use Rattle.std.specs.Prelude.{ℕ, List, codes}
use Rattle.device.specs.declared.question.Area.{Area}
use Rattle.device.specs.declared.question.Area.TheVariants.{Data, Tree}

abbrev pub area_name : Area → List ℕ
area_name Data = codes "data"
area_name Tree = codes "tree"
