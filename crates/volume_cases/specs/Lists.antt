-- Lists of headers: which entry is meant by a name or a number.
use Rattle.std.specs.Prelude.{◌≡◌, ℕ, List, [], ◌∷◌, ◌++◌, codes, Ok, false}
use Rattle.volume.specs.declared.types.Kind.TheVariants.{File}
use Rattle.volume.specs.declared.fault.PathRule.TheVariants.{Missing}
use Rattle.calls.specs.Calls.{opened, listed}
use Rattle.images.specs.Volumes.{v, header_named, header_words, volume_of, opening, listing, no_path}

-- entries `a`, `.` and `a` again, of 0, 1 and 2 bytes, and `..`
abbrev pub two_of_a_name : List ℕ
two_of_a_name = volume_of (header_words 66 0 0 ++ header_named 0x2e000000 98 0 1 ++ header_words 130 0 2 ++ header_named 0x2e2e0000 2 0 3)

pub record ListCases : Type 0 where
  -- an entry's name that begins as the wanted one goes on, and one that goes on as the wanted one ends
  pub longer_wanted : opening v (codes "ab") ≡ no_path 0 Missing
  pub shorter_wanted : opening (volume_of (header_named 0x61620000 2 0 0)) (codes "a") ≡ no_path 0 Missing
  -- a name that begins with a dot, and with two, is a name
  pub one_dot : opening (volume_of (header_named 0x2e610000 2 0 0)) (codes ".a") ≡ Ok (opened (record { start = 64; size = 0 }))
  pub three_dots : opening (volume_of (header_named 0x2e2e2e00 2 0 0)) (codes "...") ≡ Ok (opened (record { start = 64; size = 0 }))
  -- the first entry of a name is the one; `.` and `..` are passed over and not counted, wherever they stand
  pub first_of_two : opening two_of_a_name (codes "a") ≡ Ok (opened (record { start = 64; size = 0 }))
  pub entry_0 : listing two_of_a_name [] 0 ≡ Ok (listed (record { kind = File; executable = false; size = 0 }))
  pub entry_1 : listing two_of_a_name [] 1 ≡ Ok (listed (record { kind = File; executable = false; size = 2 }))
  pub entry_2 : listing two_of_a_name [] 2 ≡ no_path 0 Missing
  -- what stands behind the entry that is meant is not looked at
  pub not_looked_at : opening (volume_of (header_words 66 0 0 ++ 1 ∷ 2 ∷ 3 ∷ 4 ∷ [])) (codes "a") ≡ Ok (opened (record { start = 64; size = 0 }))
  -- the second of three entries
  pub second : opening (volume_of (header_words 66 0 0 ++ header_named 0x62000000 98 0 0 ++ header_named 0x63000000 2 0 0)) (codes "b") ≡ Ok (opened (record { start = 96; size = 0 }))
  pub third : opening (volume_of (header_words 66 0 0 ++ header_named 0x62000000 98 0 0 ++ header_named 0x63000000 2 0 0)) (codes "c") ≡ Ok (opened (record { start = 128; size = 0 }))
