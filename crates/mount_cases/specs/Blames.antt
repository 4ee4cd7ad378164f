-- The publisher's blocks, twins, and what is to blame.
use Rattle.std.specs.Prelude.{◌≡◌, ℕ, List, [], ◌∷◌, replicate, codes, Ok, Err, Some, None}
use Rattle.device.specs.declared.question.Question.{Question}
use Rattle.device.specs.Program.{Exchange}
use Rattle.layers.specs.declared.fault.Level.TheVariants as level
use Rattle.layers.specs.declared.fault.Place.{Place}
use Rattle.layers.specs.declared.fault.StorageFault.{StorageFault}
use Rattle.layers.specs.declared.fault.StorageFault.TheVariants as storage
use Rattle.layers.specs.Fault.{data_place}
use Rattle.layers.specs.Judged.{IsFor}
use Rattle.layers.specs.Path.{given}
use Rattle.layers.specs.Publisher.{Twin, Honest, right_block}
use Rattle.volume.specs.declared.fault.VolumeRule.TheVariants as volume_rule
use Rattle.volume.specs.declared.fault.VolumeFault.TheVariants as volume
use Rattle.volume.specs.declared.fault.PathFault.TheVariants as path
use Rattle.calls.specs.declared.refusal.MountRule.TheVariants as mount_rule
use Rattle.calls.specs.declared.refusal.Refusal.{Refusal}
use Rattle.calls.specs.declared.refusal.Refusal.TheVariants.{Mount, Volume, Path}
use Rattle.calls.specs.Calls.{begin, open_file, Reply, started, opened, fresh}
use Rattle.calls.specs.Image.{named, image_reply, image_state}
use Rattle.calls.specs.Law.{Event, Agrees, IsToBlame}
use Rattle.images.specs.Volumes.{file_a}
use Rattle.mount_cases.specs.Calls.{holding}
use Rattle.mount_cases.specs.Cards.{data_of, tree_of, card_of_v, card_of_129}

abbrev pub refused_of : Question → Exchange ℕ
refused_of q = record { question = q; answer = Err 7 }

-- tree block 2, which lies on level 0
abbrev pub low : Place
low = record { level = level.Tree 0; block = 2 }

-- that number on level 1, where it does not lie
abbrev pub high : Place
high = record { level = level.Tree 1; block = 2 }

abbrev pub right_low : List ℕ
right_low = 7 ∷ replicate 127 0

-- a wrong one with the right digest, and one with another
abbrev pub twin_of_low : List ℕ
twin_of_low = 7 ∷ replicate 127 1

abbrev pub wrong_low : List ℕ
wrong_low = 8 ∷ replicate 127 0

-- a refusal that holds a storage fault, and an event that is refused so
abbrev pub holding_fault : StorageFault ℕ → Refusal (StorageFault ℕ)
holding_fault fault = Path (path.Volume 0 (volume.Storage 32 fault))

abbrev pub faulty : Reply (StorageFault ℕ)
faulty = record { answer = Err (holding_fault (storage.Mismatch low)); buffer = [] }

abbrev pub accepted : Reply (StorageFault ℕ)
accepted = record { answer = Ok (opened file_a); buffer = [] }

-- an event of begin with an answer
abbrev pub begin_with : ℕ → Event ℕ
begin_with size = record { call = begin; reply = record { answer = Ok (started (record { size = size; root = 32 })); buffer = [] }; exchanges = [] }

pub record BlameCases : Type 0 where
  -- the right blocks of a card, by area, number and length
  pub right_top : right_block card_of_129 (tree_of 128 0) ≡ Some (5 ∷ 7 ∷ replicate 126 0)
  pub right_of_tree : right_block card_of_129 (tree_of 128 2) ≡ Some right_low
  pub past_the_tree : right_block card_of_129 (tree_of 128 3) ≡ None
  pub part_of_tree : right_block card_of_129 (tree_of 1 0) ≡ None
  pub right_data : right_block card_of_129 (data_of 1 128) ≡ Some (7 ∷ [])
  pub past_the_data : right_block card_of_129 (data_of 1 129) ≡ None
  pub longer_data : right_block card_of_129 (data_of 128 0) ≡ None
  -- honest is who gives the right blocks, whatever comes for what is no block
  pub honest : Honest {R = ℕ} card_of_129 (given (data_of 1 128) (7 ∷ []) ∷ refused_of (data_of 1 129) ∷ given (data_of 2 0) (9 ∷ []) ∷ [])
  pub refused_not_honest : Honest {R = ℕ} card_of_129 (refused_of (tree_of 128 2) ∷ []) → ⊥
  pub wrong_not_honest : Honest {R = ℕ} card_of_129 (given (data_of 1 128) (5 ∷ []) ∷ []) → ⊥
  -- no twin is a right block, one of another length, and one of another digest; a wrong one of the right length and digest is
  pub right_no_twin : Twin {R = ℕ} card_of_129 (given (data_of 1 128) (7 ∷ [])) → ⊥
  pub longer_no_twin : Twin {R = ℕ} card_of_129 (given (data_of 1 128) (7 ∷ 7 ∷ [])) → ⊥
  pub wrong_no_twin : Twin {R = ℕ} card_of_129 (given (data_of 1 128) (5 ∷ [])) → ⊥
  pub twin : Twin {R = ℕ} card_of_129 (given (tree_of 128 2) twin_of_low)
  -- not to blame is a right block, nor one of another number, level or area; a wrong block of the tree is, one of the data, and
  -- one that was refused
  pub right_not_to_blame : IsToBlame {R = ℕ} card_of_129 (given (tree_of 128 2) right_low ∷ []) low → ⊥
  pub another_not_to_blame : IsToBlame {R = ℕ} card_of_129 (given (tree_of 128 1) wrong_low ∷ []) low → ⊥
  pub other_level_not_to_blame : IsToBlame {R = ℕ} card_of_129 (given (tree_of 128 2) wrong_low ∷ []) high → ⊥
  pub other_area_not_to_blame : IsToBlame {R = ℕ} card_of_129 (given (data_of 1 2) wrong_low ∷ []) low → ⊥
  pub tree_to_blame : IsToBlame {R = ℕ} card_of_129 (given (tree_of 128 2) wrong_low ∷ []) low
  pub data_to_blame : IsToBlame {R = ℕ} card_of_129 (given (tree_of 128 2) right_low ∷ given (data_of 1 128) (5 ∷ []) ∷ []) (data_place 128)
  pub refused_to_blame : IsToBlame {R = ℕ} card_of_129 (refused_of (tree_of 128 2) ∷ []) low
  -- an exchange is for no block behind the last of the data, and for the last
  pub for_none_behind : IsFor {R = ℕ} card_of_129.shape (data_place 129) (refused_of (data_of 1 129)) → ⊥
  pub for_the_last : IsFor {R = ℕ} card_of_129.shape (data_place 128) (refused_of (data_of 1 128))
  pub none_to_blame : IsToBlame {R = ℕ} card_of_129 [] low → ⊥
  -- a reply names a block where it is refused by 10 or 11, or holds that, and not otherwise
  pub names_wrong : named {R = ℕ} (Err (holding_fault (storage.Mismatch low))) ≡ Some low
  pub names_refused : named {R = ℕ} (Err (Volume (volume.Storage 0 (storage.Refused low 7)))) ≡ Some low
  pub names_no_label : named {R = ℕ} (Err (holding_fault storage.Label)) ≡ None
  pub names_no_12 : named {R = ℕ} (Err (holding_fault (storage.NoBlock 2))) ≡ None
  pub names_no_rule : named {R = ℕ} (Err (Path (path.Volume 0 (volume.Rule 32 volume_rule.Name)))) ≡ None
  pub names_no_mount : named {R = ℕ} (Err (Mount mount_rule.Held)) ≡ None
  pub names_no_answer : named {R = ℕ} (Ok (opened file_a)) ≡ None
  -- the image goes on by its own answer, but not where the mount's was a storage fault
  pub image_opens : image_reply {F = ℕ} card_of_v (holding 0) (open_file (codes "a")) ≡ record { answer = Ok (opened file_a); buffer = [] }
  pub image_goes_on : image_state {R = ℕ} card_of_v (holding 0) (open_file (codes "a")) accepted ≡ holding 1
  pub image_stays : image_state {R = ℕ} card_of_v (holding 0) (open_file (codes "a")) faulty ≡ holding 0
  -- an answer that is the image's, one that is another, and a storage fault
  pub agrees : Agrees {R = ℕ} card_of_v fresh (begin_with 80 ∷ [])
  pub disagrees : Agrees {R = ℕ} card_of_v fresh (begin_with 96 ∷ []) → ⊥
  pub disagrees_later : Agrees {R = ℕ} card_of_v fresh (begin_with 80 ∷ begin_with 96 ∷ []) → ⊥
  pub faulty_agrees : Agrees {R = ℕ} card_of_v fresh (record { call = begin; reply = faulty; exchanges = [] } ∷ [])
