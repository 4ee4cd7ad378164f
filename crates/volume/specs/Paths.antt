-- Paths: components parted by single slashes.
use Rattle.std.specs.Prelude.{ℕ, ◌+◌, Bool, false, cond, ◌||◌, List, [], ◌∷◌, ◌++◌, length, Option, Some, None, Result, Ok, Err, ◌==◌}
use Rattle.volume.specs.declared.types.Start.{Start}
use Rattle.volume.specs.declared.fault.PathRule.TheVariants.{Component}
use Rattle.volume.specs.declared.fault.PathFault.{PathFault}
use Rattle.volume.specs.declared.fault.PathFault.TheVariants.{Rule}
use Rattle.volume.specs.Header.{Header}
use Rattle.volume.specs.Walk.{by_name, by_index, is_dots, find}
use Rattle.volume.specs.Use.{Extent, enter, follow}
use Rattle.volume.specs.Fetches.{Fetches, give, refuse, after}

-- a component, and the offset of its first byte
pub record Part : Type 0 where
  pub at : ℕ
  pub name : List ℕ

-- the components of the rest of a path, with the bytes that its first has so far
abbrev pub parts_from : ℕ → List ℕ → List ℕ → List Part
parts_from at name [] = record { at = at; name = name } ∷ []
parts_from at name (b ∷ bytes) = cond (b == 0x2f) (record { at = at; name = name } ∷ parts_from (at + length name + 1) [] bytes) (parts_from at (name ++ b ∷ []) bytes)

-- the empty path has none
abbrev pub parts : List ℕ → List Part
parts [] = []
parts (b ∷ bytes) = parts_from 0 [] (b ∷ bytes)

abbrev pub is_bad : List ℕ → Bool
is_bad name = length name == 0 || is_dots name

-- the first component that no path may have
abbrev pub first_bad : List Part → Option ℕ
first_bad [] = None
first_bad (part ∷ rest) = cond (is_bad part.name) (Some part.at) (first_bad rest)

-- a path's components, unless one is bad
abbrev pub sound_parts : {F : Type 0} → List ℕ → Result (List Part) (PathFault F)
sound_parts path = elim (first_bad (parts path)) [ Some at ↦ Err (Rule at Component) | None ↦ Ok (parts path) ]

-- the list that begins at an offset is entered by each component in turn, and what is left at the end is where the last
-- one's list begins
unfoldable pub enter_all : {F : Type 0} → Start → List Part → ℕ → Fetches F (PathFault F) ℕ
enter_all start [] at = give at
enter_all start (part ∷ rest) at = after (find start part.at (by_name part.name) at) (λ h. after (enter part.at h) (λ list. enter_all start rest list))

-- the file at the end of a path: all but its last component are directories
unfoldable pub file_at : {F : Type 0} → Start → List Part → ℕ → Fetches F (PathFault F) Extent
file_at start [] at = refuse (Rule 0 Component)
file_at start (part ∷ []) at = after (find start part.at (by_name part.name) at) (follow start part.at 8 false)
file_at start (part ∷ next ∷ rest) at = after (find start part.at (by_name part.name) at) (λ h. after (enter part.at h) (λ list. file_at start (next ∷ rest) list))

-- the file that a path names, from the root's list
unfoldable pub open_path : {F : Type 0} → Start → List ℕ → Fetches F (PathFault F) Extent
open_path start path = elim (sound_parts path) [ Err fault ↦ refuse fault | Ok parts ↦ file_at start parts start.root ]

-- the entry of a number in the directory that a path names
unfoldable pub list_path : {F : Type 0} → Start → List ℕ → ℕ → Fetches F (PathFault F) Header
list_path start path index =
    elim (sound_parts path) [ Err fault ↦ refuse fault | Ok parts ↦ after (enter_all start parts start.root) (λ list. find start (length path) (by_index index) list) ]
