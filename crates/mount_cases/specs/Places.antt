-- The places that a refusal from below gets: the first byte of the fetch, and the component of the path.
use Rattle.std.specs.Prelude.{◌≡◌, ℕ, List, [], ◌++◌, replicate, codes, Result, Err}
use Rattle.device.specs.Program.{Meaning, result}
use Rattle.volume.specs.declared.fault.VolumeFault.TheVariants.{Storage}
use Rattle.volume.specs.declared.fault.PathFault.TheVariants as path
use Rattle.volume.specs.Fetches.{by_blocks}
use Rattle.calls.specs.declared.refusal.Refusal.{Refusal}
use Rattle.calls.specs.declared.refusal.Refusal.TheVariants.{Volume, Path}
use Rattle.calls.specs.Calls.{Call, State, Accepted, begin, open_file, read, whole, list, call_rules, fresh}
use Rattle.images.specs.Reading.{begun}
use Rattle.images.specs.Volumes.{v, file_a, header_words, volume_of, one}
use Rattle.mount_cases.specs.Cards.{refusing, all_but}

-- what a call comes to on an image of 512 bytes, by blocks of n bytes of a device
abbrev pub comes_to : Meaning ℕ → ℕ → State → Call → Result Accepted (Refusal ℕ)
comes_to device n s call = result device (by_blocks n (call_rules 512 s call))

-- a header at 32 whose info is 192, and the header of a file at 192, behind all that is fetched for the first
abbrev pub apart : ℕ → List ℕ
apart kind = volume_of (header_words kind 192 0 ++ replicate 32 0 ++ header_words 2 0 0)

-- what a call comes to on it where the block of 16 bytes at 208 is refused, which lies within the second header's fetch
abbrev pub second_refused : ℕ → Call → Result Accepted (Refusal ℕ)
second_refused kind call = comes_to (all_but 13 16 (apart kind)) 16 (begun (apart kind)) call

abbrev pub path_storage : ℕ → ℕ → Result Accepted (Refusal ℕ)
path_storage place from = Err (Path (path.Volume place (Storage from 7)))

pub record PlaceCases : Type 0 where
  -- the start is fetched from 0, the header of V from 32, whichever of its blocks is refused
  pub of_begin : comes_to refusing 512 fresh begin ≡ Err (Volume (Storage 0 7))
  pub of_begin_later : comes_to (all_but 31 16 v) 16 fresh begin ≡ Err (Volume (Storage 0 7))
  pub of_open : comes_to refusing 512 (begun v) (open_file (codes "a")) ≡ path_storage 0 32
  pub of_list : comes_to refusing 512 (begun v) (list [] 0 128) ≡ path_storage 0 32
  -- a read from the file's start and the offset, a whole from the file's start
  pub of_read : comes_to refusing 512 (begun v) (read file_a 1 2) ≡ Err (Volume (Storage 65 7))
  pub of_read_later : comes_to (all_but 4 16 v) 16 (begun v) (read (record { start = 48; size = 32 }) 2 30) ≡ Err (Volume (Storage 50 7))
  pub of_whole : comes_to refusing 512 (one v) (whole file_a 3) ≡ Err (Volume (Storage 64 7))
  -- the header that is sought next, the target of a link, and the header of the entry that is counted to
  pub of_second : second_refused 1 (open_file (codes "a/a")) ≡ path_storage 2 192
  pub of_target : second_refused 0 (open_file (codes "a")) ≡ path_storage 0 192
  pub of_index : second_refused 1 (list (codes "a") 0 128) ≡ path_storage 1 192
