-- What a storage fault prints: its number, and the block that it names.
use Rattle.std.specs.Prelude.{ℕ, List, ◌++◌, Option, Some, codes}
use Rattle.std.specs.Fmt.{◌++?◌, decimal}
use Rattle.layers.specs.Fault.{number_of}
use Rattle.layers.specs.declared.fault.Level.{Level}
use Rattle.layers.specs.declared.fault.Level.TheVariants.{Data, Tree}
use Rattle.layers.specs.declared.fault.Place.{Place}
use Rattle.layers.specs.declared.fault.StorageFault.{StorageFault}
use Rattle.layers.specs.declared.fault.StorageFault.TheVariants.{Label, NoBlock, Refused, Mismatch}

abbrev pub block_text : ℕ → Level → List ℕ
block_text block Data = codes "data block " ++ decimal block
block_text block (Tree level) = codes "tree block " ++ (decimal block ++ (codes " on level " ++ decimal level))

abbrev pub place_text : Place → List ℕ
place_text place = block_text place.block place.level

-- by what a refusal of the device below prints
abbrev pub sentence_of : {R : Type 0} → (R → Option (List ℕ)) → StorageFault R → Option (List ℕ)
sentence_of below Label = Some (codes "a label with a value outside its limit, or of another digest")
sentence_of below (NoBlock block) = Some (decimal block ++ codes " is no data block, or not asked for whole")
sentence_of below (Refused place refusal) = Some (place_text place) ++? Some (codes " is refused (") ++? below refusal ++? Some (codes ")")
sentence_of below (Mismatch place) = Some (place_text place ++ codes " is not the one that the root digest stands for")

abbrev pub fault_text : {R : Type 0} → (R → Option (List ℕ)) → StorageFault R → Option (List ℕ)
fault_text below fault = Some (decimal (number_of fault)) ++? Some (codes ": ") ++? sentence_of below fault
