-- Going along a list of headers to the entry that is sought.
use Rattle.std.specs.Prelude.{ℕ, zero, suc, Bool, true, false, cond, ◌||◌, List, [], ◌∷◌, ◌==◌}
use Rattle.std.specs.Str.{bytes_eq}
use Rattle.volume.specs.declared.types.Start.{Start}
use Rattle.volume.specs.declared.fault.PathRule.TheVariants.{Missing}
use Rattle.volume.specs.declared.fault.PathFault.{PathFault}
use Rattle.volume.specs.declared.fault.PathFault.TheVariants.{Rule, Volume}
use Rattle.volume.specs.Header.{Header, header}
use Rattle.volume.specs.Fetches.{Fetches, give, refuse, after, put}

-- what is sought in a list: a name, or the entry of a number, counted from 0
pub data Sought : Type 0 where
  by_name : List ℕ → Sought
  by_index : ℕ → Sought

-- this entry is the one, and what is sought behind one that is not
abbrev pub is_it : Sought → List ℕ → Bool
is_it (by_name wanted) name = bytes_eq name wanted
is_it (by_index zero) name = true
is_it (by_index (suc i)) name = false

abbrev pub behind : Sought → Sought
behind (by_name wanted) = by_name wanted
behind (by_index zero) = by_index zero
behind (by_index (suc i)) = by_index i

-- `.` and `..` are passed over, and not counted
abbrev pub is_dots : List ℕ → Bool
is_dots name = bytes_eq name (0x2e ∷ []) || bytes_eq name (0x2e ∷ 0x2e ∷ [])

-- from the header at an offset on, and a fault has this place in the path. Each header stands behind the one before it and
-- within the volume, so more headers than the volume has bytes are never gone along
unfoldable pub seek : {F : Type 0} → Start → ℕ → ℕ → Sought → ℕ → Fetches F (PathFault F) Header
seek start place zero sought at = refuse (Rule place Missing)
seek start place (suc fuel) sought at =
    cond (at == 0) (refuse (Rule place Missing))
    (after (put (λ fault. Volume place fault) (header start at))
    (λ h. cond (is_dots h.name) (seek start place fuel sought h.next) (cond (is_it sought h.name) (give h) (seek start place fuel (behind sought) h.next))))

-- the whole list that begins at an offset
abbrev pub find : {F : Type 0} → Start → ℕ → Sought → ℕ → Fetches F (PathFault F) Header
find start place sought at = seek start place (suc start.size) sought at
