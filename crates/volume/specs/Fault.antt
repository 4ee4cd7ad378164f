-- The numbers of the rules.
use Rattle.std.specs.Prelude.{ℕ, Option, Some, None}
use Rattle.volume.specs.declared.fault.VolumeRule.{VolumeRule}
use Rattle.volume.specs.declared.fault.VolumeRule.TheVariants.{Text, Size, Sum, VolumeName, Range, Name, HeaderSum, Next, Info, Data, Links, LinkedDirectory}
use Rattle.volume.specs.declared.fault.VolumeFault.{VolumeFault}
use Rattle.volume.specs.declared.fault.VolumeFault.TheVariants as volume
use Rattle.volume.specs.declared.fault.PathFault.{PathFault}
use Rattle.volume.specs.declared.fault.PathFault.TheVariants as path
use Rattle.volume.specs.declared.fault.PathRule.{PathRule}
use Rattle.volume.specs.declared.fault.PathRule.TheVariants.{Component, Missing, NotDirectory, NotFile}

abbrev pub volume_number : VolumeRule → ℕ
volume_number Text = 20
volume_number Size = 21
volume_number Sum = 22
volume_number VolumeName = 23
volume_number Range = 30
volume_number Name = 31
volume_number HeaderSum = 32
volume_number Next = 33
volume_number Info = 34
volume_number Data = 35
volume_number Links = 36
volume_number LinkedDirectory = 37

abbrev pub path_number : PathRule → ℕ
path_number Component = 40
path_number Missing = 41
path_number NotDirectory = 42
path_number NotFile = 43

-- the fault of the device below that a refusal holds
abbrev pub volume_holds : {F : Type 0} → VolumeFault F → Option F
volume_holds (volume.Rule at rule) = None
volume_holds (volume.Storage at fault) = Some fault

abbrev pub path_holds : {F : Type 0} → PathFault F → Option F
path_holds (path.Rule at rule) = None
path_holds (path.Volume at fault) = volume_holds fault
