-- What is checked before anything is built: the limits first, then the lengths.
use Rattle.std.specs.Prelude.{◌≡◌, ℕ, ◌*◌, Bool, true, false, cond, ◌&&◌, List, length, replicate, Ok, Err, Option, Result, MatchOption, MatchResult, ◌==◌, nat_le}
use Rattle.geometry.specs.declared.geometry.Geometry.{Geometry}
use Rattle.geometry.specs.Limits.{within}
use Rattle.geometry.specs.Of.{shape_of}
use Rattle.tree.specs.Shape.{Shape, tree_blocks}
use Rattle.builder.specs.declared.fault.BuildFault.{BuildFault}
use Rattle.builder.specs.declared.fault.BuildFault.TheVariants.{Limit, Length}
use Rattle.builder.specs.declared.job.Job.{Job}

-- the shape is within the limits, and the salt has at most 256 bytes
abbrev pub in_limits : Shape → List ℕ → Bool
in_limits s salt = within s && nat_le (length salt) 256

-- the image is whole blocks
abbrev pub is_whole : Shape → List ℕ → Bool
is_whole s image = length image == s.blocks * s.data_block

-- the buffers are as long as the tree and the root, for a digest of this size
abbrev pub has_room : ℕ → Shape → List ℕ → List ℕ → Bool
has_room size s for_tree for_root = length for_tree == tree_blocks s * s.hash_block && length for_root == size

-- what is answered where the limits are met, or not, and the lengths fit, or not
abbrev pub verdict : Bool → Bool → Result (Unit {0}) BuildFault
verdict limits lengths = cond limits (cond lengths (Ok tt) (Err Length)) (Err Limit)

-- what a buffer holds then: what was made for it, or zeros
abbrev pub written : Bool → Bool → List ℕ → List ℕ → List ℕ
written limits lengths made buffer = cond (limits && lengths) made (replicate (length buffer) 0)

-- a geometry of this shape, exactly where the limits are met
abbrev pub Limited : Bool → Shape → Option Geometry → Type 0
Limited limits s r = MatchOption r (limits ≡ false) (λ g. (limits ≡ true) × (shape_of g ≡ s))

-- a job of this shape and salt, exactly where they are
abbrev pub Started : {X : Type 0} {d : _} → Bool → Shape → List ℕ → Result (Job X d) BuildFault → Type 0
Started limits s salt r =
    MatchResult r (λ job. (limits ≡ true) × (shape_of job.geometry ≡ s) × (job.salt.now ≡ salt)) (λ fault. (limits ≡ false) × (fault ≡ Limit))
