-- Volumes of one block, written word by word, and what calls come to on them. V has a file `a` of the three bytes `egg`.
use Rattle.std.specs.Prelude.{ℕ, zero, suc, ◌+◌, ◌-◌, ◌*◌, ◌%◌, List, [], ◌∷◌, ◌++◌, length, sum, codes, Result, Err}
use Rattle.volume.specs.declared.fault.PathRule.{PathRule}
use Rattle.volume.specs.declared.fault.VolumeRule.{VolumeRule}
use Rattle.volume.specs.declared.fault.VolumeFault.TheVariants as volume
use Rattle.volume.specs.declared.fault.PathFault.TheVariants as path
use Rattle.volume.specs.Use.{Extent}
use Rattle.calls.specs.declared.refusal.Refusal.{Refusal}
use Rattle.calls.specs.declared.refusal.Refusal.TheVariants as refusal
use Rattle.calls.specs.Calls.{begin, open_file, list, Given, State, fresh}
use Rattle.images.specs.Reading.{image_of, reply, then, begun}

-- V, with a given word at 12
abbrev pub volume_with : ℕ → List ℕ
volume_with word =
    image_of 512
    (0x2d726f6d ∷ 0x3166732d ∷ 0x00000050 ∷ word ∷ 0 ∷ 0 ∷ 0 ∷ 0 ∷ 0x00000002 ∷ 0 ∷ 0x00000003 ∷ 0x9efffffb ∷ 0x61000000 ∷ 0 ∷ 0 ∷ 0 ∷ 0x65676700 ∷ 0 ∷ 0 ∷ 0 ∷ [])

abbrev pub v : List ℕ
v = volume_with 0x3bbfb616

abbrev pub file_a : Extent
file_a = record { start = 64; size = 3 }

-- what makes some words sum to 0 modulo 2^32
abbrev pub checksum : ℕ → ℕ
checksum total = (4294967296 - total % 4294967296) % 4294967296

-- a header with a name of at most three bytes, by the word that they begin, and one with the name `a`; each has 32 bytes
abbrev pub header_named : ℕ → ℕ → ℕ → ℕ → List ℕ
header_named name next info size = next ∷ info ∷ size ∷ checksum (next + info + size + name) ∷ name ∷ 0 ∷ 0 ∷ 0 ∷ []

abbrev pub header_words : ℕ → ℕ → ℕ → List ℕ
header_words = header_named 0x61000000

-- the header of a file of these many bytes, and of an empty one, with a name of these words
abbrev pub header_sized : ℕ → List ℕ → List ℕ
header_sized size name = 2 ∷ 0 ∷ size ∷ checksum (2 + size + sum name) ∷ name

abbrev pub header_long : List ℕ → List ℕ
header_long = header_sized 0

-- a volume in one block: these words from its name on, and behind its end the last ones
abbrev pub volume_before : List ℕ → List ℕ → List ℕ
volume_before words last =
    let size = 16 + 4 * length words in
    image_of 512 (0x2d726f6d ∷ 0x3166732d ∷ size ∷ checksum (0x2d726f6d + 0x3166732d + size + sum words) ∷ words ++ last)

abbrev pub named_volume : List ℕ → List ℕ
named_volume words = volume_before words []

-- the same with an empty name, and the words of its headers, the first of which is at 32
abbrev pub volume_of : List ℕ → List ℕ
volume_of body = named_volume (0 ∷ 0 ∷ 0 ∷ 0 ∷ body)

-- n links from an offset on, each to the header behind it, and then this header
abbrev pub links_from : ℕ → ℕ → List ℕ → List ℕ
links_from at zero last = last
links_from at (suc n) last = header_words (at + 32) (at + 32) 0 ++ links_from (at + 32) n last

-- a volume of a chain of n links to a header
abbrev pub chain_to : List ℕ → ℕ → List ℕ
chain_to last n = volume_of (links_from 32 n last)

-- to an empty file
abbrev pub chain : ℕ → List ℕ
chain = chain_to (header_words 2 0 0)

-- what begin comes to
abbrev pub starting : List ℕ → Result Given (Refusal ℕ)
starting image = (reply image fresh begin).answer

-- what opening a path comes to, once begun
abbrev pub opening : List ℕ → List ℕ → Result Given (Refusal ℕ)
opening image path = (reply image (begun image) (open_file path)).answer

-- what listing the entry of a number comes to, once begun
abbrev pub listing : List ℕ → List ℕ → ℕ → Result Given (Refusal ℕ)
listing image path index = (reply image (begun image) (list path index 128)).answer

-- begun, with the file `a` opened once
abbrev pub one : List ℕ → State
one image = then image (begun image) (open_file (codes "a"))

-- a rule of the start that is broken
abbrev pub start_breaks : ℕ → VolumeRule → Result Given (Refusal ℕ)
start_breaks at rule = Err (refusal.Volume (volume.Rule at rule))

-- a rule that the header at an offset breaks, while the component at a place is sought or used, and while the first is
abbrev pub breaks_for : ℕ → ℕ → VolumeRule → Result Given (Refusal ℕ)
breaks_for place at rule = Err (refusal.Path (path.Volume place (volume.Rule at rule)))

abbrev pub breaks : ℕ → VolumeRule → Result Given (Refusal ℕ)
breaks = breaks_for 0

-- a rule that the component at a place breaks
abbrev pub no_path : ℕ → PathRule → Result Given (Refusal ℕ)
no_path place rule = Err (refusal.Path (path.Rule place rule))
