-- A card that genromfs made of a folder with one file, `a`, whose bytes are `egg`. Its image is padded to 1,024 bytes.
use Rattle.std.specs.Prelude.{◌≡◌, ℕ, List, [], ◌∷◌, replicate, codes, Ok, Err, false}
use Rattle.volume.specs.declared.types.Kind.TheVariants.{File}
use Rattle.volume.specs.declared.fault.PathRule.TheVariants as path_rule
use Rattle.volume.specs.declared.fault.PathFault.TheVariants as path
use Rattle.calls.specs.declared.refusal.Refusal.TheVariants as refusal
use Rattle.calls.specs.Calls.{begin, list, started, listed, fresh}
use Rattle.images.specs.Reading.{image_of, reply, begun, content}

abbrev pub small : List ℕ
small =
    image_of 1024
    (0x2d726f6d ∷ 0x3166732d ∷ 0x00000090 ∷ 0x3bbfb5d6 ∷ 0 ∷ 0 ∷ 0 ∷ 0 ∷ 0x00000049 ∷ 0x00000020 ∷ 0x00000000 ∷ 0xd1ffff97 ∷ 0x2e000000 ∷ 0 ∷ 0 ∷ 0 ∷ 0x00000060 ∷ 0x00000020 ∷ 0x00000000 ∷ 0xd1d1ff80
    ∷ 0x2e2e0000 ∷ 0 ∷ 0 ∷ 0 ∷ 0x00000002 ∷ 0x00000000 ∷ 0x00000003 ∷ 0x9efffffb ∷ 0x61000000 ∷ 0 ∷ 0 ∷ 0 ∷ 0x65676700 ∷ 0 ∷ 0 ∷ 0 ∷ [])

pub record SmallCard : Type 0 where
  pub begins : (reply small fresh begin).answer ≡ Ok (started (record { size = 144; root = 32 }))
  -- one entry, as `.` and `..` are not counted
  pub first : reply small (begun small) (list [] 0 128) ≡ record { answer = Ok (listed (record { kind = File; executable = false; size = 3 })); buffer = 0x61 ∷ replicate 127 0 }
  pub no_second : (reply small (begun small) (list [] 1 128)).answer ≡ Err (refusal.Path (path.Rule 0 path_rule.Missing))
  pub bytes : content small (codes "a") ≡ codes "egg"
