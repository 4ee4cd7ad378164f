-- What a value of `Published` keeps.
use Rattle.std.specs.Prelude.{◌≡◌, ℕ, ◌*◌, ◌≤◌, true, List, length, take}
use Rattle.geometry.specs.Limits.{within}
use Rattle.tree.specs.Shape.{Shape}
use Rattle.tree.specs.Tree.{salted, root}

-- the shape is within the limits and its slots are as long as a digest, the image is whole blocks, the salt has at most 256
-- bytes, and the bytes kept for the root begin with that of the image's tree
pub record IsBuilt (meaning : List ℕ → List ℕ) (size : ℕ) (s : Shape) (image salt kept : List ℕ) : Type 0 where
  pub limits : within s ≡ true
  pub slots : s.slot ≡ size
  pub whole : length image ≡ s.blocks * s.data_block
  pub short : length salt ≤ 256
  pub root : take size kept ≡ root (salted meaning salt) s image
