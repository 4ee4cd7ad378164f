-- What holds of reading and printing, in words of its own.
use Rattle.std.specs.Prelude.{◌≡◌, ℕ, ◌^◌, ◌<◌, ◌≤◌, length, slice_index, Ok}
use Rattle.text.specs.Sum.{size_of}
use Rattle.label_text.specs.Label.{Told, label_in}
use Rattle.label_text.specs.Printed.{text_of}

-- what a label can hold
pub record Fits (t : Told) : Type 0 where
  pub blocks : t.blocks < 2 ^ 32
  pub data_block : t.data_block < 2 ^ 32
  pub hash_block : t.hash_block < 2 ^ 32
  pub salt : length t.salt ≤ 256
  pub salt_bytes : (i : ℕ) → slice_index t.salt i < 256
  pub root : length t.root ≡ size_of t.function
  pub root_bytes : (i : ℕ) → slice_index t.root i < 256

-- reading undoes printing
abbrev pub PrintedReads : Type 0
PrintedReads = (t : Told) → Fits t → label_in (text_of t) ≡ Ok t
