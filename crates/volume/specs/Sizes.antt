-- The sizes of a volume's parts, in bytes.
use Rattle.std.specs.Prelude.{ℕ, ◌+◌}

-- a buffer for a name: at most 127 bytes, and a zero
abbrev pub name_size : ℕ
name_size = 128

-- the most that is fetched for a header: its four words, and the longest name with its zero
abbrev pub header_size : ℕ
header_size = 16 + name_size
