-- What a fault prints: the mount's refusal as it prints, or a sentence of its own. Each is by what a refusal of the device
-- at the bottom prints.
use Rattle.std.specs.Prelude.{ℕ, List, Option, Some, codes}
use Rattle.layers.specs.Sentence.{fault_text}
use Rattle.calls.specs.Sentence.{refusal_text}
use Rattle.open_files.specs.declared.faults.OpenFault.{OpenFault}
use Rattle.open_files.specs.declared.faults.OpenFault.TheVariants as open_fault
use Rattle.open_files.specs.declared.faults.FileFault.{FileFault}
use Rattle.open_files.specs.declared.faults.FileFault.TheVariants as file_fault
use Rattle.open_files.specs.declared.reading.ContentsFault.{ContentsFault}
use Rattle.open_files.specs.declared.reading.ContentsFault.TheVariants as contents_fault

abbrev pub open_fault_text : {R : Type 0} → (R → Option (List ℕ)) → OpenFault R → Option (List ℕ)
open_fault_text below (open_fault.Refused why) = refusal_text (fault_text below) why
open_fault_text below open_fault.Memory = Some (codes "out of memory")

abbrev pub file_fault_text : {R : Type 0} → (R → Option (List ℕ)) → FileFault R → Option (List ℕ)
file_fault_text below (file_fault.Refused why) = refusal_text (fault_text below) why
file_fault_text below file_fault.NotOpen = Some (codes "no such file is open")

abbrev pub contents_fault_text : {R : Type 0} → (R → Option (List ℕ)) → ContentsFault R → Option (List ℕ)
contents_fault_text below (contents_fault.Refused why) = refusal_text (fault_text below) why
contents_fault_text below contents_fault.Memory = Some (codes "out of memory")
