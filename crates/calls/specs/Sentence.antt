-- What a refusal prints: the number of the rule that is broken, a sentence, and the places.
use Rattle.std.specs.Prelude.{ℕ, List, ◌++◌, Option, Some, codes}
use Rattle.std.specs.Fmt.{decimal}
use Rattle.volume.specs.Sentence.{path_fault_text, volume_fault_text}
use Rattle.calls.specs.Refusal.{mount_number}
use Rattle.calls.specs.declared.refusal.MountRule.{MountRule}
use Rattle.calls.specs.declared.refusal.MountRule.TheVariants.{Label, Handle, Offset, Length, Held, NotBegun}
use Rattle.calls.specs.declared.refusal.Refusal.{Refusal}
use Rattle.calls.specs.declared.refusal.Refusal.TheVariants.{Mount, Volume, Path}

abbrev pub mount_sentence : MountRule → List ℕ
mount_sentence Label = codes "a label with a value outside its limit, or of another digest"
mount_sentence Handle = codes "the handle's file is not within this volume, or no handle is held"
mount_sentence Offset = codes "the offset is behind the file's end"
mount_sentence Length = codes "the buffer has another length than the call fills"
mount_sentence Held = codes "65535 handles are held, and no more can be"
mount_sentence NotBegun = codes "the mount has not begun"

abbrev pub mount_rule_text : MountRule → List ℕ
mount_rule_text rule = decimal (mount_number rule) ++ (codes ": " ++ mount_sentence rule)

-- by what a fault of the path check prints
abbrev pub refusal_text : {F : Type 0} → (F → Option (List ℕ)) → Refusal F → Option (List ℕ)
refusal_text below (Mount rule) = Some (mount_rule_text rule)
refusal_text below (Volume fault) = volume_fault_text below fault
refusal_text below (Path fault) = path_fault_text below fault
