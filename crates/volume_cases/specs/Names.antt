-- Names of entries: one byte to 127, each printable and no slash.
use Rattle.std.specs.Prelude.{◌≡◌, [], ◌∷◌, ◌++◌, replicate, codes, Ok, false}
use Rattle.volume.specs.declared.types.Kind.TheVariants.{File}
use Rattle.volume.specs.declared.fault.VolumeRule.TheVariants.{Name}
use Rattle.calls.specs.Calls.{opened, listed}
use Rattle.images.specs.Volumes.{header_named, header_long, volume_of, opening, listing, breaks}

pub record NameCases : Type 0 where
  -- a slash as the first byte, the third, and the last of 127
  pub slash : opening (volume_of (header_named 0x2f000000 2 0 0)) (codes "a") ≡ breaks 32 Name
  pub slash_third : opening (volume_of (header_named 0x61612f00 2 0 0)) (codes "a") ≡ breaks 32 Name
  pub slash_last : opening (volume_of (header_long (replicate 31 0x61616161 ++ 0x61612f00 ∷ []))) (codes "a") ≡ breaks 32 Name
  -- bytes outside 20 to 7e hex, and at its ends
  pub below_20 : opening (volume_of (header_named 0x1f000000 2 0 0)) (codes "a") ≡ breaks 32 Name
  pub above_7e : opening (volume_of (header_named 0x617f0000 2 0 0)) (codes "a") ≡ breaks 32 Name
  pub at_the_ends : opening (volume_of (header_named 0x207e0000 2 0 0)) (codes " ~") ≡ Ok (opened (record { start = 64; size = 0 }))
  -- the bytes beside a slash
  pub beside_a_slash : opening (volume_of (header_named 0x2e300000 2 0 0)) (codes ".0") ≡ Ok (opened (record { start = 64; size = 0 }))
  -- no byte, 128 and 127
  pub no_name : opening (volume_of (header_named 0 2 0 0)) (codes "a") ≡ breaks 32 Name
  pub endless : opening (volume_of (header_long (replicate 32 0x61616161) ++ 0 ∷ 0 ∷ 0 ∷ 0 ∷ [])) (codes "a") ≡ breaks 32 Name
  pub longest : listing (volume_of (header_long (replicate 31 0x61616161 ++ 0x61616100 ∷ []))) [] 0 ≡ Ok (listed (record { kind = File; executable = false; size = 0 }))
  -- a name whose zero byte would stand behind the volume's end
  pub no_end : opening (volume_of (2 ∷ 0 ∷ 0 ∷ 0x1b1b1b1a ∷ replicate 4 0x61616161)) (codes "a") ≡ breaks 32 Name
