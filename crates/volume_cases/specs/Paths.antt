-- Paths: their components, which of them none may have, and the place that a fault has.
use Rattle.std.specs.Prelude.{◌≡◌, ℕ, List, [], ◌++◌, codes, Ok}
use Rattle.volume.specs.declared.fault.VolumeRule.TheVariants.{Range, Info, Data, Links, LinkedDirectory}
use Rattle.volume.specs.declared.fault.PathRule.TheVariants.{Component, Missing, NotDirectory, NotFile}
use Rattle.calls.specs.Calls.{opened}
use Rattle.images.specs.Volumes.{v, header_named, header_words, volume_of, links_from, opening, listing, breaks_for, no_path}

-- a directory `a`, in it another, `bc`, and in that an empty file `a`
abbrev pub nested : List ℕ
nested = volume_of (header_words 1 64 0 ++ header_named 0x62630000 1 96 0 ++ header_words 2 0 0)

-- a directory `a`, and in it the entries of these words, from 64 on
abbrev pub within_a : List ℕ → List ℕ
within_a words = volume_of (header_words 1 64 0 ++ words)

pub record PathCases : Type 0 where
  -- an empty component, in front, at the end and alone; `.` and `..`; open wants one component or more
  pub in_front : opening v (codes "/a") ≡ no_path 0 Component
  pub alone : opening v (codes "/") ≡ no_path 0 Component
  pub dot : opening v (codes ".") ≡ no_path 0 Component
  pub dots : opening v (codes "..") ≡ no_path 0 Component
  pub dot_within : opening v (codes "a/./a") ≡ no_path 2 Component
  pub dots_behind : opening v (codes "a/..") ≡ no_path 2 Component
  pub empty_path : opening v [] ≡ no_path 0 Component
  -- the first that is bad, wherever it stands, and before any is sought
  pub first_bad : opening v (codes "x//.") ≡ no_path 2 Component
  pub bad_before_missing : opening v (codes "x/yz/..") ≡ no_path 5 Component
  -- the same in list
  pub listed_empty : listing v (codes "a/") 0 ≡ no_path 2 Component
  pub listed_dot : listing v (codes ".") 0 ≡ no_path 0 Component
  pub listed_first_bad : listing v (codes "x//.") 0 ≡ no_path 2 Component
  -- a fault has the place of the component that was sought or used
  pub third : opening nested (codes "a/bc/a") ≡ Ok (opened (record { start = 128; size = 0 }))
  pub third_missing : opening nested (codes "a/bc/b") ≡ no_path 5 Missing
  pub second_missing : opening nested (codes "a/b/a") ≡ no_path 2 Missing
  pub first_missing : opening nested (codes "b/bc/a") ≡ no_path 0 Missing
  pub third_is_file : opening nested (codes "a/bc/a/a") ≡ no_path 5 NotDirectory
  pub second_sought : opening (volume_of (header_words 1 64 0 ++ header_words 0 0 0)) (codes "a/b") ≡ no_path 2 Missing
  pub second_followed : opening (volume_of (header_words 1 64 0 ++ header_words 0 0 0)) (codes "a/a") ≡ breaks_for 2 0 Range
  pub second_entered : opening (volume_of (header_words 1 64 0 ++ header_words 1 33 0)) (codes "a/a/a") ≡ breaks_for 2 64 Info
  pub second_outside : opening (volume_of (header_words 1 96 0)) (codes "a/a") ≡ breaks_for 2 96 Range
  -- so has one of what the second leads to: of its info, a file's end, a ninth link, a linked directory, and what is no file
  pub second_link_info : opening (within_a (header_words 0 33 0)) (codes "a/a") ≡ breaks_for 2 64 Info
  pub second_file_info : opening (within_a (header_words 2 32 0)) (codes "a/a") ≡ breaks_for 2 64 Info
  pub second_data : opening (within_a (header_words 2 0 1)) (codes "a/a") ≡ breaks_for 2 64 Data
  pub second_links : opening (within_a (links_from 64 9 (header_words 2 0 0))) (codes "a/a") ≡ breaks_for 2 320 Links
  pub second_linked_directory : opening (within_a (links_from 64 1 (header_words 1 0 0))) (codes "a/a") ≡ breaks_for 2 96 LinkedDirectory
  pub second_linked_info : opening (within_a (links_from 64 1 (header_words 2 32 0))) (codes "a/a") ≡ breaks_for 2 96 Info
  pub second_ninth_info : opening (within_a (links_from 64 8 (header_words 0 33 0))) (codes "a/a") ≡ breaks_for 2 320 Info
  pub second_eighth_info : opening (within_a (links_from 64 8 (header_words 2 32 0))) (codes "a/a") ≡ breaks_for 2 320 Info
  pub second_eighth_to_directory : opening (within_a (links_from 64 8 (header_words 1 0 0))) (codes "a/a") ≡ breaks_for 2 320 LinkedDirectory
  pub second_directory : opening (within_a (header_words 1 0 0)) (codes "a/a") ≡ no_path 2 NotFile
  pub second_pipe : opening (within_a (header_words 7 0 0)) (codes "a/a") ≡ no_path 2 NotFile
  pub second_eighth_to_pipe : opening (within_a (links_from 64 8 (header_words 7 0 0))) (codes "a/a") ≡ no_path 2 NotFile
  pub second_passed : opening (within_a (header_words 2 0 0)) (codes "a/a/a") ≡ no_path 2 NotDirectory
  -- while an entry is counted to, the path's length
  pub index_missing : listing nested (codes "a/bc") 1 ≡ no_path 4 Missing
  pub index_of_root : listing nested [] 1 ≡ no_path 0 Missing
  pub index_fault : listing (volume_of (header_words 1 96 0)) (codes "a") 0 ≡ breaks_for 1 96 Range
  pub listed_missing : listing nested (codes "a/b") 0 ≡ no_path 2 Missing
  pub listed_second_missing : listing nested (codes "a/b/a") 0 ≡ no_path 2 Missing
  pub third_not_listed : listing nested (codes "a/bc/a") 0 ≡ no_path 5 NotDirectory
  pub not_listed : listing v (codes "a") 0 ≡ no_path 0 NotDirectory
