-- The numbers of the mount's own rules, and the storage fault that a refusal is or holds.
use Rattle.std.specs.Prelude.{ℕ, Option, Some, None}
use Rattle.layers.specs.declared.fault.StorageFault.{StorageFault}
use Rattle.layers.specs.Fault.{number_of, place_of}
use Rattle.volume.specs.declared.fault.VolumeFault.{VolumeFault}
use Rattle.volume.specs.declared.fault.VolumeFault.TheVariants as volume
use Rattle.volume.specs.declared.fault.PathFault.TheVariants as path
use Rattle.volume.specs.Fault.{volume_number, path_number, volume_holds, path_holds}
use Rattle.calls.specs.declared.refusal.Places.{Places}
use Rattle.calls.specs.declared.refusal.MountRule.{MountRule}
use Rattle.calls.specs.declared.refusal.MountRule.TheVariants.{Label, Handle, Offset, Length, Held, NotBegun}
use Rattle.calls.specs.declared.refusal.Refusal.{Refusal}
use Rattle.calls.specs.declared.refusal.Refusal.TheVariants.{Mount, Volume, Path}

abbrev pub mount_number : MountRule → ℕ
mount_number Label = 2
mount_number Handle = 50
mount_number Offset = 51
mount_number Length = 52
mount_number Held = 53
mount_number NotBegun = 54

-- the fault of the path check that a refusal holds
abbrev pub holds : {F : Type 0} → Refusal F → Option F
holds (Mount rule) = None
holds (Volume fault) = volume_holds fault
holds (Path fault) = path_holds fault

-- the number of a refusal: of the rule that is broken, or of the storage fault at the bottom
abbrev pub volume_fault_number : {R : Type 0} → VolumeFault (StorageFault R) → ℕ
volume_fault_number (volume.Rule at rule) = volume_number rule
volume_fault_number (volume.Storage at fault) = number_of fault

abbrev pub refusal_number : {R : Type 0} → Refusal (StorageFault R) → ℕ
refusal_number (Mount rule) = mount_number rule
refusal_number (Volume fault) = volume_fault_number fault
refusal_number (Path (path.Rule at rule)) = path_number rule
refusal_number (Path (path.Volume at fault)) = volume_fault_number fault

-- its places, one within the other: the component of the path, the offset of the volume, the block
abbrev pub volume_fault_places : {R : Type 0} → VolumeFault (StorageFault R) → Places
volume_fault_places (volume.Rule at rule) = record { path = None; volume = Some at; storage = None }
volume_fault_places (volume.Storage at fault) = record { path = None; volume = Some at; storage = place_of fault }

abbrev pub within_path : Option ℕ → Places → Places
within_path at places = record { path = at; volume = places.volume; storage = places.storage }

abbrev pub places_of : {R : Type 0} → Refusal (StorageFault R) → Places
places_of (Mount rule) = record { path = None; volume = None; storage = None }
places_of (Volume fault) = volume_fault_places fault
places_of (Path (path.Rule at rule)) = record { path = Some at; volume = None; storage = None }
places_of (Path (path.Volume at fault)) = within_path (Some at) (volume_fault_places fault)
