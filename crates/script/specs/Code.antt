-- A refusal in short: its number with its places, one within the other.
use Rattle.std.specs.Prelude.{ℕ, List, ◌++◌, codes}
use Rattle.std.specs.Fmt.{decimal}
use Rattle.device.specs.Area.{area_name}
use Rattle.layers.specs.Fault.{data_place, number_of}
use Rattle.layers.specs.declared.fault.Level.{Level}
use Rattle.layers.specs.declared.fault.Level.TheVariants.{Data, Tree}
use Rattle.layers.specs.declared.fault.Place.{Place}
use Rattle.layers.specs.declared.fault.StorageFault.{StorageFault}
use Rattle.layers.specs.declared.fault.StorageFault.TheVariants.{Label, NoBlock, Refused, Mismatch}
use Rattle.volume.specs.Fault.{path_number, volume_number}
use Rattle.volume.specs.declared.fault.VolumeFault.{VolumeFault}
use Rattle.volume.specs.declared.fault.VolumeFault.TheVariants as volume
use Rattle.volume.specs.declared.fault.PathFault.TheVariants as path
use Rattle.calls.specs.Refusal.{mount_number}
use Rattle.calls.specs.declared.refusal.Refusal.{Refusal}
use Rattle.calls.specs.declared.refusal.Refusal.TheVariants.{Mount, Volume, Path}
use Rattle.script.specs.declared.bottom.Bottom.{Bottom}

abbrev pub bottom_text : Bottom → List ℕ
bottom_text b = decimal b.number ++ (codes "[" ++ (area_name b.area ++ (codes " " ++ (decimal b.block ++ codes "]"))))

abbrev pub level_block : ℕ → Level → List ℕ
level_block block Data = codes "[level data block " ++ (decimal block ++ codes "]")
level_block block (Tree level) = codes "[level " ++ (decimal level ++ (codes " block " ++ (decimal block ++ codes "]")))

abbrev pub block_code : Place → List ℕ
block_code place = level_block place.block place.level

-- by what a refusal of the device at the bottom is in short
abbrev pub storage_code : {R : Type 0} → (R → Bottom) → StorageFault R → List ℕ
storage_code short Label = decimal 2
storage_code short (NoBlock block) = decimal 12 ++ block_code (data_place block)
storage_code short (Refused place below) = decimal 10 ++ (block_code place ++ (codes "(" ++ (bottom_text (short below) ++ codes ")")))
storage_code short (Mismatch place) = decimal 11 ++ block_code place

abbrev pub volume_code : {R : Type 0} → (R → Bottom) → VolumeFault (StorageFault R) → List ℕ
volume_code short (volume.Rule at rule) = codes "volume@" ++ (decimal at ++ (codes ":" ++ decimal (volume_number rule)))
volume_code short (volume.Storage at fault) = codes "volume@" ++ (decimal at ++ (codes "(" ++ (storage_code short fault ++ codes ")")))

abbrev pub code_text : {R : Type 0} → (R → Bottom) → Refusal (StorageFault R) → List ℕ
code_text short (Mount rule) = decimal (mount_number rule)
code_text short (Volume fault) = volume_code short fault
code_text short (Path (path.Rule at rule)) = codes "path@" ++ (decimal at ++ (codes ":" ++ decimal (path_number rule)))
code_text short (Path (path.Volume at fault)) = codes "path@" ++ (decimal at ++ (codes "(" ++ (volume_code short fault ++ codes ")")))
