use Rattle.std.proofs.Common.{◌≡◌, ◌≤◌, ◌++◌, List, reverse, vec_len}
use Rattle.mount.specs.Mount.{held_of}
use Rattle.open_files.specs.declared.files.OpenFile.{OpenFile}
use Rattle.open_files.specs.Files.{files_of, mount_of}
use Rattle.open_files.specs.Steps.{Closed}
use Rattle.open_files.proofs.files.OpenFiles.into_device.Given as goal

-- the mount holds the handles that are left, and the others were closed
abbrev pub invariant-loop-file : goal.invariant-loop-file
invariant-loop-file g l =
    (vec_len l.files ≤ held_of l.mount)
    × (others : List OpenFile)
    × (files_of l.fn.self ≡ l.files.items ++ others)
    × Closed (mount_of l.fn.self) (reverse others) l.mount

abbrev pub decreases-loop-file : goal.decreases-loop-file
decreases-loop-file g l = vec_len l.files
