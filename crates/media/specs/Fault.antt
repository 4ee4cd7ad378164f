-- The numbers of the refusals, and what each prints; the place of each is its area and block.
use Rattle.std.specs.Prelude.{ℕ, List, ◌++◌, codes}
use Rattle.std.specs.Fmt.{decimal}
use Rattle.device.specs.Area.{area_name}
use Rattle.media.specs.declared.fault.Outside.{Outside}
use Rattle.media.specs.declared.fault.Spent.{Spent}

abbrev pub outside_number : Outside → ℕ
outside_number refusal = 8

abbrev pub spent_number : Spent → ℕ
spent_number refusal = 9

abbrev pub outside_text : Outside → List ℕ
outside_text r = decimal (outside_number r) ++ (codes ": block " ++ (decimal r.block ++ (codes " of the " ++ (area_name r.area ++ codes " area is not all there"))))

abbrev pub spent_text : Spent → List ℕ
spent_text r = decimal (spent_number r) ++ (codes ": the tape has too few bytes left for block " ++ (decimal r.block ++ (codes " of the " ++ (area_name r.area ++ codes " area"))))
