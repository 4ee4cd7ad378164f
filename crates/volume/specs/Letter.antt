-- The letters of the kinds, as ASCII codes.
use Rattle.std.specs.Prelude.{ℕ}
use Rattle.volume.specs.declared.types.Kind.{Kind}
use Rattle.volume.specs.declared.types.Kind.TheVariants.{HardLink, Directory, File, SymbolicLink, BlockDevice, CharDevice, Socket, Pipe}

-- h, d, -, l, b, c, s and p
abbrev pub letter_of : Kind → ℕ
letter_of HardLink = 104
letter_of Directory = 100
letter_of File = 45
letter_of SymbolicLink = 108
letter_of BlockDevice = 98
letter_of CharDevice = 99
letter_of Socket = 115
letter_of Pipe = 112
