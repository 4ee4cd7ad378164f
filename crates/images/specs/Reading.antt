-- Reading an image by the rules.
use Rattle.std.specs.Prelude.{ℕ, zero, suc, ◌+◌, ◌-◌, List, [], ◌∷◌, ◌++◌, length, replicate, Result, Ok, Err, Bool, ◌==◌}
use Rattle.std.specs.List.{flat_map, before_first}
use Rattle.volume.specs.declared.types.Kind.{Kind}
use Rattle.volume.specs.declared.types.Entry.{Entry}
use Rattle.sha2_block.specs.Bytes.{big_endian}
use Rattle.volume.specs.Fetches.{by_image}
use Rattle.calls.specs.declared.refusal.Refusal.{Refusal}
use Rattle.calls.specs.Calls.{Call, begin, open_file, whole, list, Given, opened, listed, State, fresh, Accepted, Reply, call_rules, reply_of, state_of}

-- an image of 32-bit words, with zeros to a length of n bytes
abbrev pub image_of : ℕ → List ℕ → List ℕ
image_of n words = let bytes = flat_map (big_endian 4) words in bytes ++ replicate (n - length bytes) 0

-- what a call comes to in a state
abbrev pub ends : List ℕ → State → Call → Result Accepted (Refusal ℕ)
ends image s call = by_image image (call_rules (length image) s call)

abbrev pub reply : List ℕ → State → Call → Reply ℕ
reply image s call = reply_of call (ends image s call)

abbrev pub then : List ℕ → State → Call → State
then image s call = state_of s (ends image s call)

-- the state once begun
abbrev pub begun : List ℕ → State
begun image = then image fresh begin

-- the bytes of the file that a path names
abbrev pub all_of : List ℕ → State → Result Given (Refusal ℕ) → List ℕ
all_of image s (Ok (opened file)) = (reply image s (whole file file.size)).buffer
all_of image s _ = []

abbrev pub content : List ℕ → List ℕ → List ℕ
content image path = all_of image (then image (begun image) (open_file path)) (reply image (begun image) (open_file path)).answer

-- an entry as a list tells it: its kind, its executable bit, its size and its name
pub record Line : Type 0 where
  pub entry : Entry
  pub name : List ℕ

abbrev pub line : Kind → Bool → ℕ → List ℕ → Line
line kind executable size name = record { entry = record { kind = kind; executable = executable; size = size }; name = name }

-- by the answer to a list call: its line, and what the next ones add
abbrev pub and_then : Reply ℕ → List Line → List Line
and_then r more = elim r.answer [ Ok given ↦ elim given [ listed entry ↦ record { entry = entry; name = before_first (λ b. b == 0) r.buffer } ∷ more | _ ↦ [] ] | Err refusal ↦ [] ]

-- the entries of a directory from a number on, at most n
abbrev pub lines_from : List ℕ → List ℕ → ℕ → ℕ → List Line
lines_from image path index zero = []
lines_from image path index (suc n) = and_then (reply image (begun image) (list path index 128)) (lines_from image path (index + 1) n)

abbrev pub lines : List ℕ → List ℕ → ℕ → List Line
lines image path n = lines_from image path 0 n
