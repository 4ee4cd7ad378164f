-- The label that a text tells, or the first fault in the order of the keys.
use Rattle.std.specs.Prelude.{ℕ, ◌==◌, ◌&&◌, if◌then◌else◌, List, length, Option, Some, None, Result, Ok, nat_le}
use Rattle.std.specs.Option.{ok_or}
use Rattle.text.specs.Bytes.{bytes_of}
use Rattle.text.specs.Name.{named}
use Rattle.text.specs.Number.{number_of}
use Rattle.text.specs.Sum.{size_of}
use Rattle.text.specs.declared.function.Function.{Function}
use Rattle.tree.specs.Shape.{Shape}
use Rattle.label_text.specs.Lines.{value_of}
use Rattle.label_text.specs.Seen.{◌>>=◌}
use Rattle.label_text.specs.Values.{hash_type_of, root_of, salt_of}
use Rattle.label_text.specs.declared.fault.Fault.{Fault}
use Rattle.label_text.specs.declared.fault.Fault.TheVariants.{Malformed}
use Rattle.label_text.specs.declared.key.Key.{Key}
use Rattle.label_text.specs.declared.key.Key.TheVariants.{HashType, DataBlocks, DataBlockSize, HashBlockSize, HashAlgorithm, Salt, RootHash}
use Rattle.label_text.specs.declared.label.LabelText.{LabelText}

-- a label, apart from where its bytes lie
pub record Told : Type 0 where
  pub function : Function
  pub blocks : ℕ
  pub data_block : ℕ
  pub hash_block : ℕ
  pub salt : List ℕ
  pub root : List ℕ

abbrev pub told : LabelText → Told
told l = record {
  function = l.function;
  blocks = l.blocks;
  data_block = l.data_block;
  hash_block = l.hash_block;
  salt = bytes_of l.salt;
  root = bytes_of l.root;
}

-- the value of the one line with the key, by a rule
abbrev pub read_by : {A : Type 0} → (List ℕ → Option A) → Key → List ℕ → Result A Fault
read_by rule key text = value_of key text >>= λ value. ok_or (rule value) (Malformed key)

unfoldable pub label_in : List ℕ → Result Told Fault
label_in text = do
  hash_type ← read_by hash_type_of HashType text
  blocks ← read_by number_of DataBlocks text
  data_block ← read_by number_of DataBlockSize text
  hash_block ← read_by number_of HashBlockSize text
  function ← read_by named HashAlgorithm text
  salt ← read_by salt_of Salt text
  root ← read_by (root_of function) RootHash text
  Ok (record { function = function; blocks = blocks; data_block = data_block; hash_block = hash_block; salt = salt; root = root })

-- what a label can hold: a salt that is not too long for any good label, and a root that is as long as a digest
abbrev pub fitting : Told → Option Told
fitting t = if nat_le (length t.salt) 256 && length t.root == size_of t.function then Some t else None

-- the label of a tree of this shape
abbrev pub of_tree : Function → Shape → List ℕ → List ℕ → Told
of_tree function s salt root = record { function = function; blocks = s.blocks; data_block = s.data_block; hash_block = s.hash_block; salt = salt; root = root }
