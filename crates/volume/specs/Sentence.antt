-- What a fault prints: the number of the rule that is broken, a sentence, and the places.
use Rattle.std.specs.Prelude.{ℕ, List, ◌++◌, Option, Some, codes}
use Rattle.std.specs.Fmt.{◌++?◌, decimal}
use Rattle.volume.specs.Fault.{path_number, volume_number}
use Rattle.volume.specs.declared.fault.VolumeRule.{VolumeRule}
use Rattle.volume.specs.declared.fault.VolumeRule.TheVariants.{Text, Size, Sum, VolumeName, Range, Name, HeaderSum, Next, Info, Data, Links, LinkedDirectory}
use Rattle.volume.specs.declared.fault.VolumeFault.{VolumeFault}
use Rattle.volume.specs.declared.fault.VolumeFault.TheVariants as volume
use Rattle.volume.specs.declared.fault.PathFault.{PathFault}
use Rattle.volume.specs.declared.fault.PathFault.TheVariants as path
use Rattle.volume.specs.declared.fault.PathRule.{PathRule}
use Rattle.volume.specs.declared.fault.PathRule.TheVariants.{Component, Missing, NotDirectory, NotFile}

abbrev pub volume_sentence : VolumeRule → List ℕ
volume_sentence Text = codes "no romfs volume begins here"
volume_sentence Size = codes "the volume's size is no multiple of 16, or above the image's"
volume_sentence Sum = codes "the first words of the volume do not sum to zero"
volume_sentence VolumeName = codes "the volume's name does not end, or leaves no room for a header"
volume_sentence Range = codes "a header is sought outside the volume"
volume_sentence Name = codes "a header's name is not 1 to 127 printable bytes without a slash"
volume_sentence HeaderSum = codes "the words of a header do not sum to zero"
volume_sentence Next = codes "a header's next one does not lie behind it"
volume_sentence Info = codes "a header has an info that its kind cannot have"
volume_sentence Data = codes "a file's bytes reach past the end of the volume"
volume_sentence Links = codes "this is the ninth hard link in a row"
volume_sentence LinkedDirectory = codes "a hard link leads to this directory"

abbrev pub path_sentence : PathRule → List ℕ
path_sentence Component = codes "a name is missing, or is `.` or `..`"
path_sentence Missing = codes "there is no such entry"
path_sentence NotDirectory = codes "this is no directory"
path_sentence NotFile = codes "this is no regular file"

abbrev pub volume_rule_text : VolumeRule → List ℕ
volume_rule_text rule = decimal (volume_number rule) ++ (codes ": " ++ volume_sentence rule)

abbrev pub path_rule_text : PathRule → List ℕ
path_rule_text rule = decimal (path_number rule) ++ (codes ": " ++ path_sentence rule)

-- by what a fault of the device below prints
abbrev pub volume_fault_text : {F : Type 0} → (F → Option (List ℕ)) → VolumeFault F → Option (List ℕ)
volume_fault_text below (volume.Rule at rule) = Some (volume_rule_text rule ++ (codes ", at byte " ++ (decimal at ++ codes " of the volume")))
volume_fault_text below (volume.Storage at fault) = below fault ++? Some (codes ", reading from byte " ++ (decimal at ++ codes " of the volume on"))

abbrev pub path_fault_text : {F : Type 0} → (F → Option (List ℕ)) → PathFault F → Option (List ℕ)
path_fault_text below (path.Rule at rule) = Some (path_rule_text rule ++ (codes ", at byte " ++ (decimal at ++ codes " of the path")))
path_fault_text below (path.Volume at fault) = volume_fault_text below fault ++? Some (codes ", for byte " ++ (decimal at ++ codes " of the path"))
