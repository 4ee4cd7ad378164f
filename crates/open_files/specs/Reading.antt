-- A file that was read whole, and an entry of a directory.
use Rattle.std.specs.Prelude.{List, ℕ, replicate, Ok, Err, ◌⊎◌}
use Rattle.layers.specs.declared.fault.StorageFault.{StorageFault}
use Rattle.volume.specs.Use.{Extent}
use Rattle.volume.specs.declared.fault.PathRule.TheVariants.{Missing}
use Rattle.volume.specs.declared.fault.PathFault.TheVariants.{Rule}
use Rattle.calls.specs.declared.refusal.Refusal.{Refusal}
use Rattle.calls.specs.declared.refusal.Refusal.TheVariants.{Path}
use Rattle.calls.specs.Calls.{Call, open_file, opened, whole, all, room}
use Rattle.mount.specs.declared.mount.MountOver.{MountOver}
use Rattle.mount.specs.Mount.{Called, Closes}
use Rattle.open_files.specs.declared.reading.ContentsFault.{ContentsFault}
use Rattle.open_files.specs.declared.reading.ContentsFault.TheVariants.{Refused, Memory}
use Rattle.open_files.specs.declared.reading.Listed.{Listed}
use Rattle.open_files.specs.Steps.{accepted}

-- a call is refused, with zeros in its buffer
abbrev pub Refuses : {S B R : Type 0} {s d e : _} → MountOver S B R s d e → Call → Refusal (StorageFault R) → MountOver S B R s d e → Type 0
Refuses m call why n = Called m call (record { answer = Err why; buffer = replicate (room call) 0 }) n

-- an open file is read whole, which closes it: these are its bytes
abbrev pub GaveWhole : {S B R : Type 0} {s d e : _} → MountOver S B R s d e → Extent → List ℕ → MountOver S B R s d e → Type 0
GaveWhole m file bytes n = Called m (whole file file.size) (record { answer = Ok all; buffer = bytes }) n

-- it is not: `whole` was refused for this, or there was no memory for the bytes; and then it was closed
abbrev pub GaveNone : {S B R : Type 0} {s d e : _} → MountOver S B R s d e → Extent → ContentsFault R → MountOver S B R s d e → Type 0
GaveNone m file (Refused why) n = (k : _) × Refuses m (whole file file.size) why k × Closes k file n
GaveNone m file Memory n = Closes m file n

-- a path is opened, and what follows is of the file that this gave
abbrev pub OpenedThen : {S B R : Type 0} {s d e : _} → MountOver S B R s d e → List ℕ → (MountOver S B R s d e → Extent → Type 0) → Type 0
OpenedThen m path Then = (file : Extent) × (k : _) × Called m (open_file path) (accepted (opened file)) k × Then k file

-- the file at a path was read whole: two calls of the mount
abbrev pub WasRead : {S B R : Type 0} {s d e : _} → MountOver S B R s d e → List ℕ → List ℕ → MountOver S B R s d e → Type 0
WasRead m path bytes n = OpenedThen m path (λ k file. GaveWhole k file bytes n)

-- its open was refused for this, and nothing else was called
abbrev pub NotOpened : {S B R : Type 0} {s d e : _} → MountOver S B R s d e → List ℕ → ContentsFault R → MountOver S B R s d e → Type 0
NotOpened m path (Refused why) n = Refuses m (open_file path) why n
NotOpened m path Memory n = ⊥

-- it was not read: it was not opened; or it was opened, not read, and closed
abbrev pub NotRead : {S B R : Type 0} {s d e : _} → MountOver S B R s d e → List ℕ → ContentsFault R → MountOver S B R s d e → Type 0
NotRead m path why n = NotOpened m path why n ⊎ OpenedThen m path (λ k file. GaveNone k file why n)

-- there are not so many entries: 41, at the end of a path of this length
abbrev pub missing : {F : Type 0} → ℕ → Refusal F
missing n = Path (Rule n Missing)

-- the name of an entry, with zeros behind it
abbrev pub name_of : Listed → List ℕ
name_of l = l.name
