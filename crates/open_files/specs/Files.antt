-- What is open: the list of open files, how many opens were accepted, and the mount inside.
use Rattle.std.specs.Prelude.{◌≤◌, length, vec_capacity, ◌≡◌, ℕ, List, Option, None, Some, ◌==◌, position, remove, slice_get}
use Rattle.mount.specs.declared.mount.MountOver.{MountOver}
use Rattle.reader.specs.Calls.{extent_of}
use Rattle.volume.specs.Use.{Extent}
use Rattle.open_files.specs.declared.files.OpenFile.{OpenFile}
use Rattle.open_files.specs.declared.files.OpenFiles.{OpenFiles}

-- the open files, each with its number and its handle, in the order in which they are kept
abbrev pub files_of : {S B R : Type 0} {s d e : _} → OpenFiles S B R s d e → List OpenFile
files_of o = o.files.items

-- how many opens were accepted
abbrev pub opened_of : {S B R : Type 0} {s d e : _} → OpenFiles S B R s d e → ℕ
opened_of o = o.opened

-- there is no room to keep one more file
abbrev pub IsFull : {S B R : Type 0} {s d e : _} → OpenFiles S B R s d e → Type 0
IsFull o = vec_capacity o.files ≤ length (files_of o)

-- the mount inside
abbrev pub mount_of : {S B R : Type 0} {s d e : _} → OpenFiles S B R s d e → MountOver S B R s d e
mount_of o = o.mount

-- where an open file's data are
abbrev pub data_of : OpenFile → Extent
data_of file = extent_of file.handle

-- where the file of a number stands in a list: the first one
abbrev pub place_of : List OpenFile → ℕ → Option ℕ
place_of files number = position (λ file. file.number == number) files

-- the file of a number
abbrev pub at_place : List OpenFile → Option ℕ → Option OpenFile
at_place files None = None
at_place files (Some i) = slice_get files i

abbrev pub file_of : List OpenFile → ℕ → Option OpenFile
file_of files number = at_place files (place_of files number)

-- the list without the file of a number
abbrev pub without_place : List OpenFile → Option ℕ → List OpenFile
without_place files None = files
without_place files (Some i) = remove files i

abbrev pub without : List OpenFile → ℕ → List OpenFile
without files number = without_place files (place_of files number)

-- the files and the count are as before
abbrev pub Keeps : {S B R : Type 0} {s d e : _} → OpenFiles S B R s d e → OpenFiles S B R s d e → Type 0
Keeps o n = (files_of n ≡ files_of o) × (opened_of n ≡ opened_of o)

-- nothing was asked and nothing changed
abbrev pub Stays : {S B R : Type 0} {s d e : _} → OpenFiles S B R s d e → OpenFiles S B R s d e → Type 0
Stays o n = (mount_of n ≡ mount_of o) × Keeps o n
