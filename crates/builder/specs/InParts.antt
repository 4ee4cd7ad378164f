-- What `hash_blocks` answers and writes: the salted digests of an image's blocks, which can be taken in parts.
use Rattle.std.specs.Prelude.{◌≡◌, ℕ, ◌*◌, ◌/◌, ◌%◌, ◌<◌, Bool, ◌&&◌, List, ◌++◌, length, Result, ◌==◌}
use Rattle.std.specs.List.{range_with_len, flat_map}
use Rattle.tree.specs.Tree.{block_of, salted}
use Rattle.builder.specs.declared.fault.BuildFault.{BuildFault}
use Rattle.builder.specs.declared.source.Source.{Source}
use Rattle.builder.specs.Check.{is_whole, verdict, written}
use Rattle.builder.specs.Build.{shape_for, limits_met}

-- the salted digests of an image's whole blocks of d bytes, in order
abbrev pub digests_of : (List ℕ → List ℕ) → ℕ → List ℕ → List ℕ
digests_of h d image = flat_map (λ k. h (block_of d image k)) (range_with_len 0 (length image / d))

-- the digests of two images of whole blocks, joined, are those of the images, joined
abbrev pub PartsStand : Type 0
PartsStand =
    (h : List ℕ → List ℕ) (d : ℕ) (a b : List ℕ) → 0 < d → length a % d ≡ 0
    → digests_of h d (a ++ b) ≡ digests_of h d a ++ digests_of h d b

-- the image is whole blocks, and the buffer is as long as their digests
abbrev pub digests_fit : ℕ → Source → List ℕ → Bool
digests_fit size source for_digests = is_whole (shape_for size source) source.image.now && length for_digests == (shape_for size source).blocks * size

abbrev pub hashed_answer : ℕ → Source → List ℕ → Result (Unit {0}) BuildFault
hashed_answer size source for_digests = verdict (limits_met size source) (digests_fit size source for_digests)

-- what the buffer holds then: the digests, or zeros
abbrev pub hashed_after : ℕ → (List ℕ → List ℕ) → Source → List ℕ → List ℕ
hashed_after size meaning source for_digests =
    written (limits_met size source) (digests_fit size source for_digests)
    (digests_of (salted meaning source.salt.now) source.data_block source.image.now) for_digests
