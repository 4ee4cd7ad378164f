-- Headers in use: directories that are entered, links that are followed, and files.
use Rattle.std.specs.Prelude.{◌≡◌, ℕ, [], ◌∷◌, ◌++◌, replicate, codes, Ok, false}
use Rattle.volume.specs.declared.types.Kind.TheVariants.{HardLink}
use Rattle.volume.specs.declared.fault.VolumeRule.TheVariants.{Range, Info, Data, LinkedDirectory}
use Rattle.volume.specs.declared.fault.PathRule.TheVariants.{Missing, NotDirectory, NotFile}
use Rattle.calls.specs.Calls.{opened, listed}
use Rattle.images.specs.Volumes.{header_named, header_words, header_sized, volume_of, chain_to, opening, listing, breaks, no_path}

-- an entry whose info leads to a list, by its kind: in the middle of a path, and as the last component of a list's
abbrev pub not_passed : ℕ → Type 0
not_passed kind = opening (volume_of (header_words kind 64 0 ++ header_words 2 0 0)) (codes "a/a") ≡ no_path 0 NotDirectory

abbrev pub not_listed : ℕ → Type 0
not_listed kind = listing (volume_of (header_words kind 64 0 ++ header_words 2 0 0)) (codes "a") 0 ≡ no_path 0 NotDirectory

-- an entry as an empty file has it, by its kind: opened, and behind a link, and behind the eighth
abbrev pub not_opened : ℕ → Type 0
not_opened kind = opening (volume_of (header_words kind 0 0)) (codes "a") ≡ no_path 0 NotFile

abbrev pub not_linked : ℕ → Type 0
not_linked kind = opening (chain_to (header_words kind 0 0) 1) (codes "a") ≡ no_path 0 NotFile

abbrev pub not_eighth : ℕ → Type 0
not_eighth kind = opening (chain_to (header_words kind 0 0) 8) (codes "a") ≡ no_path 0 NotFile

pub record UseCases : Type 0 where
  -- a link's info is a multiple of 16, a file's is 0
  pub link_info : opening (volume_of (header_words 0 33 0)) (codes "a") ≡ breaks 32 Info
  pub file_info : opening (volume_of (header_words 2 32 0)) (codes "a") ≡ breaks 32 Info
  -- a directory's is 0, or a multiple of 16 behind the header: not the header, not below it, and not between
  pub directory_itself : opening (volume_of (header_words 1 32 0)) (codes "a/a") ≡ breaks 32 Info
  pub directory_below : opening (volume_of (header_words 1 16 0)) (codes "a/a") ≡ breaks 32 Info
  pub directory_unaligned : opening (volume_of (header_words 1 65 0 ++ header_words 2 0 0)) (codes "a/a") ≡ breaks 32 Info
  pub directory_behind : opening (volume_of (header_words 1 64 0 ++ header_words 2 0 0)) (codes "a/a") ≡ Ok (opened (record { start = 96; size = 0 }))
  pub empty_directory : opening (volume_of (header_words 1 0 0)) (codes "a/a") ≡ no_path 2 Missing
  pub empty_listed : listing (volume_of (header_words 1 0 0)) (codes "a") 0 ≡ no_path 1 Missing
  -- the kind comes before the info
  pub kind_before_info : opening (volume_of (header_words 2 33 0)) (codes "a/a") ≡ no_path 0 NotDirectory
  pub listed_kind_before_info : listing (volume_of (header_words 0 33 0)) (codes "a") 0 ≡ no_path 0 NotDirectory
  pub directory_before_info : opening (volume_of (header_words 1 33 0)) (codes "a") ≡ no_path 0 NotFile
  pub symbolic_link : opening (volume_of (header_words 3 33 0)) (codes "a") ≡ no_path 0 NotFile
  pub pipe : opening (volume_of (header_words 7 0 0)) (codes "a") ≡ no_path 0 NotFile
  -- an entry that is listed is not in use
  pub listed_info : listing (volume_of (header_words 0 33 9)) [] 0 ≡ Ok (listed (record { kind = HardLink; executable = false; size = 9 }))
  -- a file's bytes end within the volume; its info comes before that
  pub at_the_end : opening (volume_of (header_words 2 0 16 ++ 1 ∷ 2 ∷ 3 ∷ 4 ∷ [])) (codes "a") ≡ Ok (opened (record { start = 64; size = 16 }))
  pub past_the_end : opening (volume_of (header_words 2 0 17 ++ 1 ∷ 2 ∷ 3 ∷ 4 ∷ [])) (codes "a") ≡ breaks 32 Data
  pub past_the_end_by_48 : opening (volume_of (header_sized 17 (replicate 4 0x61616161 ++ replicate 4 0) ++ replicate 4 1)) (codes "aaaaaaaaaaaaaaaa") ≡ breaks 32 Data
  pub info_before_data : opening (volume_of (header_words 2 32 17)) (codes "a") ≡ breaks 32 Info
  -- a link leads to a file, whatever that one's name
  pub link : opening (volume_of (header_words 0 64 0 ++ header_named 0x2e000000 2 0 0)) (codes "a") ≡ Ok (opened (record { start = 96; size = 0 }))
  pub link_outside : opening (volume_of (header_words 0 0 0)) (codes "a") ≡ breaks 0 Range
  -- a link to a directory: as the last component, also after eight links, and as one before the last
  pub linked_directory : opening (volume_of (header_words 0 64 0 ++ header_words 1 0 0)) (codes "a") ≡ breaks 64 LinkedDirectory
  pub eighth_to_directory : opening (chain_to (header_words 1 0 0) 8) (codes "a") ≡ breaks 288 LinkedDirectory
  pub linked_pipe : opening (volume_of (header_words 0 64 0 ++ header_words 7 0 0)) (codes "a") ≡ no_path 0 NotFile
  pub eighth_to_pipe : opening (chain_to (header_words 7 0 0) 8) (codes "a") ≡ no_path 0 NotFile
  pub link_before_the_last : opening (volume_of (header_words 0 64 0 ++ header_words 1 0 0)) (codes "a/a") ≡ no_path 0 NotDirectory
  -- a ninth link's own info comes before that it is the ninth
  pub ninth_info : opening (chain_to (header_words 0 33 0) 8) (codes "a") ≡ breaks 288 Info
  pub eighth_file_info : opening (chain_to (header_words 2 32 0) 8) (codes "a") ≡ breaks 288 Info

pub record KindCases : Type 0 where
  -- what is no directory is not entered, in the middle of a path and at the end of a list's
  pub symbolic_link_not_passed : not_passed 3
  pub block_device_not_passed : not_passed 4
  pub char_device_not_passed : not_passed 5
  pub socket_not_passed : not_passed 6
  pub pipe_not_passed : not_passed 7
  pub symbolic_link_not_listed : not_listed 3
  pub block_device_not_listed : not_listed 4
  pub char_device_not_listed : not_listed 5
  pub socket_not_listed : not_listed 6
  pub pipe_not_listed : not_listed 7
  -- what is no file is not opened, not by a link to it either, nor by the eighth
  pub symbolic_link_not_opened : not_opened 3
  pub block_device_not_opened : not_opened 4
  pub char_device_not_opened : not_opened 5
  pub socket_not_opened : not_opened 6
  pub pipe_not_opened : not_opened 7
  pub symbolic_link_not_linked : not_linked 3
  pub block_device_not_linked : not_linked 4
  pub char_device_not_linked : not_linked 5
  pub socket_not_linked : not_linked 6
  pub pipe_not_linked : not_linked 7
  pub symbolic_link_not_eighth : not_eighth 3
  pub block_device_not_eighth : not_eighth 4
  pub char_device_not_eighth : not_eighth 5
  pub socket_not_eighth : not_eighth 6
  pub pipe_not_eighth : not_eighth 7
