-- What is a path from the root to a data block, what is one that is cut, and where an answer stops.
use Rattle.std.specs.Prelude.{ℕ, List, [], ◌∷◌, Ok, Err}
use Rattle.device.specs.Program.{Exchange}
use Rattle.layers.specs.declared.fault.Level.TheVariants as level
use Rattle.layers.specs.declared.fault.Place.{Place}
use Rattle.layers.specs.declared.fault.StorageFault.{StorageFault}
use Rattle.layers.specs.declared.fault.StorageFault.TheVariants.{Refused, Mismatch}
use Rattle.layers.specs.Fault.{data_place}
use Rattle.layers.specs.Laws.{Stops}
use Rattle.layers.specs.Path.{given, IsPath, IsCut}
use Rattle.mount_cases.specs.Blames.{refused_of}
use Rattle.mount_cases.specs.Cards.{data_of, tree_of, pair}

-- the tree block of the pair, and data block 1: right ones, wrong ones and refused ones
abbrev pub top : Exchange ℕ
top = given (tree_of 2 0) (5 ∷ 7 ∷ [])

abbrev pub wrong_top : Exchange ℕ
wrong_top = given (tree_of 2 0) (6 ∷ 7 ∷ [])

abbrev pub refused_top : Exchange ℕ
refused_top = refused_of (tree_of 2 0)

abbrev pub last : Exchange ℕ
last = given (data_of 1 1) (7 ∷ [])

abbrev pub wrong_last : Exchange ℕ
wrong_last = given (data_of 1 1) (8 ∷ [])

abbrev pub refused_last : Exchange ℕ
refused_last = refused_of (data_of 1 1)

abbrev pub top_place : Place
top_place = record { level = level.Tree 0; block = 0 }

-- from the root to these bytes of block 1, and on the way to it cut by a fault
abbrev pub leads_to : List ℕ → List (Exchange ℕ) → Type 0
leads_to bytes xs = IsPath pair 1 1 pair.root bytes xs

abbrev pub cut_by : StorageFault ℕ → List (Exchange ℕ) → Type 0
cut_by fault xs = IsCut pair 1 1 pair.root fault xs

pub record CutCases : Type 0 where
  -- no path: without its data, with more behind it, with data of another digest, and with data that were refused
  pub without_data : leads_to (7 ∷ []) (top ∷ []) → ⊥
  pub goes_on : leads_to (7 ∷ []) (top ∷ last ∷ last ∷ []) → ⊥
  pub wrong_data : leads_to (8 ∷ []) (top ∷ wrong_last ∷ []) → ⊥
  pub refused_data : leads_to (7 ∷ []) (top ∷ refused_last ∷ []) → ⊥
  -- no cut: nothing, the first of a path and all of it
  pub nothing : cut_by (Mismatch top_place) [] → ⊥
  pub first_alone : cut_by (Mismatch top_place) (top ∷ []) → ⊥
  pub whole_path : cut_by (Mismatch (data_place 1)) (top ∷ last ∷ []) → ⊥
  -- nor what goes on behind the block that fails
  pub on_behind_refused : cut_by (Refused top_place 7) (refused_top ∷ last ∷ []) → ⊥
  pub on_behind_wrong : cut_by (Mismatch top_place) (wrong_top ∷ last ∷ []) → ⊥
  pub on_behind_data : cut_by (Refused (data_place 1) 7) (top ∷ refused_last ∷ last ∷ []) → ⊥
  pub past_a_wrong_one : cut_by (Refused (data_place 1) 7) (wrong_top ∷ refused_last ∷ []) → ⊥
  pub past_a_refused_one : cut_by (Refused (data_place 1) 7) (refused_top ∷ refused_last ∷ []) → ⊥
  -- nor questions for other blocks, or another fault
  pub other_data : cut_by (Refused (data_place 1) 7) (top ∷ refused_of (data_of 1 0) ∷ []) → ⊥
  pub other_tree : cut_by (Refused top_place 7) (refused_of (tree_of 2 1) ∷ []) → ⊥
  pub other_reason : cut_by (Refused top_place 8) (refused_top ∷ []) → ⊥
  pub other_place : cut_by (Mismatch (data_place 1)) (wrong_top ∷ []) → ⊥
  -- an answer is the bytes that the path leads to, or the fault that cuts it
  pub other_bytes : Stops pair 1 (Ok (8 ∷ [])) (top ∷ last ∷ []) → ⊥
  pub other_fault : Stops pair 1 (Err (Refused top_place 8)) (refused_top ∷ []) → ⊥
  -- and what is so: a path that ends at its data, and such that are cut at a block that was wrong or refused
  pub path : leads_to (7 ∷ []) (top ∷ last ∷ [])
  pub cut_at_data : cut_by (Mismatch (data_place 1)) (top ∷ wrong_last ∷ [])
  pub cut_at_refused : cut_by (Refused (data_place 1) 7) (top ∷ refused_last ∷ [])
  pub cut_at_top : cut_by (Mismatch top_place) (wrong_top ∷ [])
  pub cut_at_refused_top : cut_by (Refused top_place 7) (refused_top ∷ [])
