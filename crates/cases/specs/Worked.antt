-- The worked list: trees over 1, 128 and 129 blocks, the path of block 128 of 129, the volume V, one with a wrong sum, and chains
-- of eight and of nine links.
use Rattle.std.specs.Prelude.{◌≡◌, ℕ, [], ◌∷◌, codes, Ok, Err}
use Rattle.device.specs.declared.question.Area.TheVariants as area
use Rattle.device.specs.declared.question.Question.{Question}
use Rattle.tree.specs.Shape.{levels, tree_blocks}
use Rattle.layers.specs.declared.fault.Level.TheVariants as level
use Rattle.layers.specs.declared.fault.Place.{Place}
use Rattle.layers.specs.declared.fault.StorageFault.TheVariants.{Refused, Mismatch}
use Rattle.layers.specs.Fault.{number_of, level_number}
use Rattle.volume.specs.declared.fault.VolumeRule.TheVariants as volume_rule
use Rattle.volume.specs.declared.fault.PathRule.TheVariants as path_rule
use Rattle.calls.specs.declared.refusal.MountRule.TheVariants as mount_rule
use Rattle.calls.specs.declared.refusal.Refusal.TheVariants as refusal
use Rattle.calls.specs.Calls.{read, started, opened, count}
use Rattle.images.specs.Shapes.{usual}
use Rattle.images.specs.Reading.{reply, begun}
use Rattle.images.specs.Volumes.{v, volume_with, file_a, chain, starting, opening, start_breaks, breaks, no_path}
use Rattle.cases.specs.Card129.{slots, check_128, asked_128, top, low, last}

-- the questions for a block of 4,096 bytes of each area
abbrev pub tree_block : ℕ → Question
tree_block n = record { area = area.Tree; block = n; length = 4096 }

abbrev pub data_block : ℕ → Question
data_block n = record { area = area.Data; block = n; length = 4096 }

-- the places on the path of data block 128
abbrev pub top_place : Place
top_place = record { level = level.Tree 1; block = 0 }

abbrev pub low_place : Place
low_place = record { level = level.Tree 0; block = 2 }

abbrev pub last_place : Place
last_place = record { level = level.Data; block = 128 }

-- data block 128 of 129
pub record PathOf128 : Type 0 where
  -- asked are tree block 0, tree block 2 and data block 128, each once; compared are slot 1 and then slot 0
  pub asks : asked_128 (Ok top) (Ok low) (Ok last) ≡ tree_block 0 ∷ tree_block 2 ∷ data_block 128 ∷ []
  pub accepts : check_128 (Ok top) (Ok low) (Ok last) ≡ Ok last
  -- the digests in other slots
  pub slot_0_above : check_128 (Ok (slots 2 9 1)) (Ok low) (Ok last) ≡ Err (Mismatch low_place)
  pub slot_1_below : check_128 (Ok top) (Ok (slots 9 3 2)) (Ok last) ≡ Err (Mismatch last_place)
  -- a block that has not the digest wanted, and what was asked till then
  pub wrong_top : check_128 (Ok (slots 9 2 9)) (Ok low) (Ok last) ≡ Err (Mismatch top_place)
  pub wrong_low : check_128 (Ok top) (Ok (slots 3 9 9)) (Ok last) ≡ Err (Mismatch low_place)
  pub wrong_data : check_128 (Ok top) (Ok low) (Ok (slots 0 0 9)) ≡ Err (Mismatch last_place)
  pub after_wrong_top : asked_128 (Ok (slots 9 2 9)) (Ok low) (Ok last) ≡ tree_block 0 ∷ []
  pub after_wrong_low : asked_128 (Ok top) (Ok (slots 3 9 9)) (Ok last) ≡ tree_block 0 ∷ tree_block 2 ∷ []
  -- a block that is refused
  pub refused_top : check_128 (Err 7) (Ok low) (Ok last) ≡ Err (Refused top_place 7)
  pub refused_low : check_128 (Ok top) (Err 7) (Ok last) ≡ Err (Refused low_place 7)
  pub refused_data : check_128 (Ok top) (Ok low) (Err 7) ≡ Err (Refused last_place 7)
  pub after_refused_top : asked_128 (Err 7) (Ok low) (Ok last) ≡ tree_block 0 ∷ []
  -- the numbers of these faults, and of the levels that they name
  pub refused : number_of {R = ℕ} (Refused top_place 7) ≡ 10
  pub wrong : number_of {R = ℕ} (Mismatch low_place) ≡ 11
  pub top_level : level_number top_place.level ≡ 1
  pub low_level : level_number low_place.level ≡ 0
  pub data_level : level_number last_place.level ≡ 255

pub record WorkedList : Type 0 where
  -- one data block has no tree
  pub levels_1 : levels (usual 1) ≡ 0
  pub tree_1 : tree_blocks (usual 1) ≡ 0
  -- a full tree block
  pub levels_128 : levels (usual 128) ≡ 1
  pub tree_128 : tree_blocks (usual 128) ≡ 1
  -- one more data block makes a second level
  pub levels_129 : levels (usual 129) ≡ 2
  pub tree_129 : tree_blocks (usual 129) ≡ 3
  pub path_of_128 : PathOf128
  -- V
  pub begins : starting v ≡ Ok (started (record { size = 80; root = 32 }))
  pub opens : opening v (codes "a") ≡ Ok (opened file_a)
  pub reads : reply v (begun v) (read file_a 1 4) ≡ record { answer = Ok (count 2); buffer = 0x67 ∷ 0x67 ∷ 0 ∷ 0 ∷ [] }
  pub reads_none : reply v (begun v) (read file_a 3 4) ≡ record { answer = Ok (count 0); buffer = 0 ∷ 0 ∷ 0 ∷ 0 ∷ [] }
  pub reads_past : reply v (begun v) (read file_a 4 4) ≡ record { answer = Err (refusal.Mount mount_rule.Offset); buffer = 0 ∷ 0 ∷ 0 ∷ 0 ∷ [] }
  pub other_name : opening v (codes "A") ≡ no_path 0 path_rule.Missing
  pub empty_component : opening v (codes "a/") ≡ no_path 2 path_rule.Component
  pub no_directory : opening v (codes "a/b") ≡ no_path 0 path_rule.NotDirectory
  -- the word at 12 one higher
  pub broken_sum : starting (volume_with 0x3bbfb617) ≡ start_breaks 12 volume_rule.Sum
  -- eight links in a chain are followed, and a ninth is refused where it stands
  pub eight_links : opening (chain 8) (codes "a") ≡ Ok (opened (record { start = 320; size = 0 }))
  pub nine_links : opening (chain 9) (codes "a") ≡ breaks 288 volume_rule.Links
