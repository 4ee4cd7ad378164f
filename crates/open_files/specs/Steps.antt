-- The calls on open files as steps of their mount, with whole replies.
use Rattle.std.specs.Prelude.{◌≡◌, ℕ, ◌+◌, ◌-◌, ◌^◌, min, List, [], ◌∷◌, ◌++◌, None, Some, Result, Ok, Err, map}
use Rattle.device.specs.declared.device.Device as device
use Rattle.layers.specs.declared.fault.StorageFault.{StorageFault}
use Rattle.layers.specs.declared.store.Store as store
use Rattle.volume.specs.Use.{Extent}
use Rattle.calls.specs.Calls.{Call, Given, Reply, closed, close, opened, open_file}
use Rattle.calls.specs.Law.{Event}
use Rattle.mount.specs.declared.mount.MountOver.{MountOver}
use Rattle.mount.specs.Mount.{Called, UsedTo}
use Rattle.open_files.specs.declared.files.OpenFile.{OpenFile}
use Rattle.open_files.specs.declared.files.OpenFiles.{OpenFiles}
use Rattle.open_files.specs.declared.faults.Opened.{Opened}
use Rattle.open_files.specs.declared.faults.OpenFault.{OpenFault}
use Rattle.open_files.specs.declared.faults.OpenFault.TheVariants as open_fault
use Rattle.open_files.specs.declared.faults.FileFault.{FileFault}
use Rattle.open_files.specs.declared.faults.FileFault.TheVariants as file_fault
use Rattle.open_files.specs.Files.{files_of, opened_of, mount_of, data_of, file_of, IsFull, Keeps, Stays}

-- an accepted reply with no buffer
abbrev pub accepted : {F : Type 0} → Given → Reply F
accepted given = record { answer = Ok given; buffer = [] }

-- a call of the mount for the file that is open by this number, with this reply
abbrev pub CalledFor : {S B R : Type 0} {s d e : _} → OpenFiles S B R s d e → ℕ → (Extent → Call) → Reply (StorageFault R) → OpenFiles S B R s d e → Type 0
CalledFor o number call reply n = (file : OpenFile) × (file_of (files_of o) number ≡ Some file) × Called (mount_of o) (call (data_of file)) reply (mount_of n)

-- no file is open by this number, and the mount is not called
abbrev pub NoneOpen : {S B R : Type 0} {s d e : _} → OpenFiles S B R s d e → ℕ → OpenFiles S B R s d e → Type 0
NoneOpen o number n = (file_of (files_of o) number ≡ None) × (mount_of n ≡ mount_of o)

-- the file that an accepted open tells of
abbrev pub file_from : Opened → OpenFile
file_from o = record { number = o.number; handle = record { start = o.start; size = o.size } }

-- an open. Accepted, it has the number of accepted opens before it (2^64 - 1 at most), and is kept behind the others.
-- Refused, nothing else changes. Without room or memory to keep one more the mount is not called.
abbrev pub Opens : {S B R : Type 0} {s d e : _} → OpenFiles S B R s d e → List ℕ → Result Opened (OpenFault R) → OpenFiles S B R s d e → Type 0
Opens o path (Ok got) n =
    Called (mount_of o) (open_file path) (accepted (opened (data_of (file_from got)))) (mount_of n)
    × (got.number ≡ opened_of o)
    × (files_of n ≡ files_of o ++ file_from got ∷ [])
    × (opened_of n ≡ min (opened_of o + 1) (2 ^ 64 - 1))
Opens o path (Err (open_fault.Refused why)) n = Called (mount_of o) (open_file path) (record { answer = Err why; buffer = [] }) (mount_of n) × Keeps o n
Opens o path (Err open_fault.Memory) n = IsFull o × Stays o n

-- a call for the file of a number: the mount's whole reply, or that there is no such file
abbrev pub AsksFor : {S B R X : Type 0} {s d e : _} → OpenFiles S B R s d e → ℕ → (Extent → Call) → (X → Given) → List ℕ → Result X (FileFault R) → OpenFiles S B R s d e → Type 0
AsksFor o number call given buffer (Ok x) n = CalledFor o number call (record { answer = Ok (given x); buffer = buffer }) n
AsksFor o number call given buffer (Err (file_fault.Refused why)) n = CalledFor o number call (record { answer = Err why; buffer = buffer }) n
AsksFor o number call given buffer (Err file_fault.NotOpen) n = NoneOpen o number n

-- a use of a mount that closes these files, each of them accepted, and nothing else
pub record Closed {S B R : Type 0} {s : store.Ghosts S B R} {d : device.Ghosts S (StorageFault R)} {e : device.Ghosts B R} (m : MountOver S B R s d e) (files : List OpenFile) (n : MountOver S B R s d e) : Type 0 where
  pub events : List (Event R)
  pub used : UsedTo m events n
  pub calls : map (λ x. x.call) events ≡ map (λ file. close (data_of file)) files
  pub replies : map (λ x. x.reply) events ≡ map (λ file. accepted closed) files
