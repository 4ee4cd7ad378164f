-- What a fault prints: its number and its sentence.
use Rattle.std.specs.Prelude.{ℕ, List, codes}
use Rattle.builder.specs.declared.fault.BuildFault.{BuildFault}
use Rattle.builder.specs.declared.fault.BuildFault.TheVariants.{Limit, Length}

abbrev pub number_of : BuildFault → ℕ
number_of Limit = 2
number_of Length = 3

abbrev pub sentence_of : BuildFault → List ℕ
sentence_of Limit = codes "a block size, a number of blocks or a salt outside its limit"
sentence_of Length = codes "an image or a buffer of the wrong length"
