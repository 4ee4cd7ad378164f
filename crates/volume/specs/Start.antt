-- The start of a volume: the text `-rom1fs-`, the full size S, a checksum, and the volume's name, behind which the first
-- header stands.
use Rattle.std.specs.Prelude.{ℕ, ◌+◌, min, cond, ◌||◌, not, List, [], ◌∷◌, take, drop, Result, Ok, Err, Option, Some, None, nat_le, nat_lt}
use Rattle.std.specs.Str.{bytes_eq}
use Rattle.volume.specs.declared.types.Start.{Start}
use Rattle.volume.specs.declared.fault.VolumeRule.TheVariants.{Text, Size, Sum, VolumeName}
use Rattle.volume.specs.declared.fault.VolumeFault.{VolumeFault}
use Rattle.volume.specs.declared.fault.VolumeFault.TheVariants.{Rule, Storage}
use Rattle.volume.specs.Sizes.{name_size}
use Rattle.volume.specs.Words.{word, sums_to_zero, up_to_16, is_16, zero_at}
use Rattle.volume.specs.Fetches.{Fetches, fetch, settled}

-- the bytes of `-rom1fs-`
abbrev pub magic : List ℕ
magic = 0x2d ∷ 0x72 ∷ 0x6f ∷ 0x6d ∷ 0x31 ∷ 0x66 ∷ 0x73 ∷ 0x2d ∷ []

-- by the volume name's zero byte: the first header stands behind the padded name, and has room
abbrev pub root_of : {F : Type 0} → ℕ → Option ℕ → Result Start (VolumeFault F)
root_of size None = Err (Rule 16 VolumeName)
root_of size (Some v) = let root = 16 + up_to_16 (v + 1) in cond (nat_le (root + 32) size) (Ok (record { size = size; root = root })) (Err (Rule 16 VolumeName))

-- of the first 512 bytes, on an image of `limit` bytes
unfoldable pub start_of : {F : Type 0} → ℕ → List ℕ → Result Start (VolumeFault F)
start_of limit bytes =
    let size = word bytes 8 in
    cond (not (bytes_eq (take 8 bytes) magic)) (Err (Rule 0 Text))
    (cond (not (is_16 size) || nat_lt limit size) (Err (Rule 8 Size))
    (cond (not (sums_to_zero (take (min 512 size) bytes))) (Err (Rule 12 Sum)) (root_of size (zero_at (take name_size (drop 16 bytes))))))

-- they are fetched whole, even if the volume is smaller
unfoldable pub start : {F : Type 0} → ℕ → Fetches F (VolumeFault F) Start
start limit = fetch 0 512 (λ fault. Storage 0 fault) (λ bytes. settled (start_of limit bytes))
