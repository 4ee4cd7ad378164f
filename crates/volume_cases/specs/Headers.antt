-- Headers: where they stand, how long they are, what they tell, and which rule is broken first.
use Rattle.std.specs.Prelude.{◌≡◌, ℕ, List, [], ◌∷◌, ◌++◌, replicate, codes, Ok, true, false}
use Rattle.volume.specs.declared.types.Kind.{Kind}
use Rattle.volume.specs.declared.types.Kind.TheVariants.{HardLink, Directory, File, SymbolicLink, BlockDevice, CharDevice, Socket, Pipe}
use Rattle.volume.specs.declared.fault.VolumeRule.TheVariants.{Range, Name, HeaderSum, Next}
use Rattle.calls.specs.Calls.{opened, listed}
use Rattle.images.specs.Volumes.{header_named, header_words, header_long, named_volume, volume_of, opening, listing, breaks}

-- a volume whose name of 16 bytes moves the first header to 48, where a link to 32 stands
abbrev pub first_at_48 : List ℕ
first_at_48 = named_volume (replicate 4 0x61616161 ++ 2 ∷ 0 ∷ 0 ∷ 0 ∷ header_words 0 32 0)

-- the kind and the bit of the one entry of a volume, by the low bits of its next
abbrev pub entry_of : ℕ → Kind → Type 0
entry_of bits kind = listing (volume_of (header_words bits 0 5)) [] 0 ≡ Ok (listed (record { kind = kind; executable = false; size = 5 }))

pub record HeaderCases : Type 0 where
  -- below the first header, past the volume's end, and not whole within it
  pub below_root : opening first_at_48 (codes "a") ≡ breaks 32 Range
  pub behind_the_end : opening (volume_of (header_words 66 0 0)) (codes "b") ≡ breaks 64 Range
  pub no_room : opening (volume_of (header_words 66 0 0 ++ 0 ∷ 0 ∷ 0 ∷ 0 ∷ [])) (codes "b") ≡ breaks 64 Range
  -- a header has 32 bytes with a name of 15, and 48 with one of 16; a file's bytes stand behind it
  pub name_of_15 : opening (volume_of (header_long (replicate 3 0x61616161 ++ 0x61616100 ∷ []))) (codes "aaaaaaaaaaaaaaa") ≡ Ok (opened (record { start = 64; size = 0 }))
  pub name_of_16 : opening (volume_of (header_long (replicate 4 0x61616161 ++ replicate 4 0))) (codes "aaaaaaaaaaaaaaaa") ≡ Ok (opened (record { start = 80; size = 0 }))
  -- a sum that is wrong, by one and by 2^31; a byte behind the name's zero is in it
  pub sum : opening (volume_of (2 ∷ 0 ∷ 0 ∷ 0x9effffff ∷ 0x61000000 ∷ 0 ∷ 0 ∷ 0 ∷ [])) (codes "a") ≡ breaks 32 HeaderSum
  pub sum_half_more : opening (volume_of (2 ∷ 0 ∷ 0 ∷ 0x1efffffe ∷ 0x61000000 ∷ 0 ∷ 0 ∷ 0 ∷ [])) (codes "a") ≡ breaks 32 HeaderSum
  pub behind_the_name : opening (volume_of (2 ∷ 0 ∷ 0 ∷ 0x9efffffe ∷ 0x61000000 ∷ 0 ∷ 0 ∷ 1 ∷ [])) (codes "a") ≡ breaks 32 HeaderSum
  pub free_bytes : opening (volume_of (header_named 0x61000001 2 0 0)) (codes "a") ≡ Ok (opened (record { start = 64; size = 0 }))
  -- next is the header itself, and one before it; `.` and the entry that is sought are no exceptions
  pub next_itself : opening (volume_of (header_words 34 0 0)) (codes "a") ≡ breaks 32 Next
  pub next_before : opening (volume_of (header_words 66 0 0 ++ header_words 34 0 0)) (codes "b") ≡ breaks 64 Next
  pub next_of_dot : opening (volume_of (header_named 0x2e000000 33 0 0)) (codes "a") ≡ breaks 32 Next
  -- of two rules that are broken the name comes first, then the sum, then next
  pub name_before_sum : opening (volume_of (2 ∷ 0 ∷ 0 ∷ 0 ∷ 0x2f000000 ∷ 0 ∷ 0 ∷ 0 ∷ [])) (codes "a") ≡ breaks 32 Name
  pub sum_before_next : opening (volume_of (34 ∷ 0 ∷ 0 ∷ 0 ∷ 0x61000000 ∷ 0 ∷ 0 ∷ 0 ∷ [])) (codes "a") ≡ breaks 32 HeaderSum
  pub name_before_next : opening (volume_of (header_named 0x2f000000 34 0 0)) (codes "a") ≡ breaks 32 Name
  -- the kinds, and the executable bit
  pub hard_link : entry_of 0 HardLink
  pub directory : entry_of 1 Directory
  pub file : entry_of 2 File
  pub symbolic_link : entry_of 3 SymbolicLink
  pub block_device : entry_of 4 BlockDevice
  pub char_device : entry_of 5 CharDevice
  pub socket : entry_of 6 Socket
  pub pipe : entry_of 7 Pipe
  pub executable : listing (volume_of (header_words 10 0 5)) [] 0 ≡ Ok (listed (record { kind = File; executable = true; size = 5 }))
