-- What holds of every tree, in words of its own.
use Rattle.std.specs.Prelude.{◌≡◌, ℕ, suc, ◌+◌, ◌*◌, ◌^◌, ◌<◌, ◌≤◌, ◌⊎◌, List, length, take, drop, replicate, ◌≢◌}
use Rattle.tree.specs.Shape.{Shape, fanout, levels_of, levels, width, tree_blocks, start}
use Rattle.tree.specs.Tree.{block_of, in_slot, node, tree, root}
use Rattle.tree.specs.Path.{held, Leads, above}

-- a shape that has a tree: some data, two slots or more that fill a tree block, and digests of one size that fit a slot
pub record Sound (h : List ℕ → List ℕ) (s : Shape) (size : ℕ) : Type 0 where
  pub some : 1 ≤ s.blocks
  pub wide : 2 ≤ fanout s
  pub filled : fanout s * s.slot ≡ s.hash_block
  pub bytes : 0 < s.data_block
  pub fits : size ≤ s.slot
  pub sized : (m : List ℕ) → length (h m) ≡ size

-- the levels are enough for every block, and fewer are not
abbrev pub LevelsStand : Type 0
LevelsStand = (f n : ℕ) → 2 ≤ f → (n ≤ f ^ levels_of f n) × ((m : ℕ) → m < levels_of f n → f ^ m < n)

-- what stands in slot t of tree block j of level i
pub record Slots (h : List ℕ → List ℕ) (s : Shape) (size : ℕ) (image : List ℕ) (i j t : ℕ) : Type 0 where
  -- the salted digest of the block below it, and zeros behind that
  pub full : j * fanout s + t < width s i
      → take s.slot (drop (t * s.slot) (node h s image (suc i) j)) ≡ in_slot s.slot (h (node h s image i (j * fanout s + t)))
  -- the digest alone
  pub digest : j * fanout s + t < width s i → held s size (node h s image (suc i) j) t ≡ h (node h s image i (j * fanout s + t))
  -- past the last block below, zeros
  pub empty : width s i ≤ j * fanout s + t → take s.slot (drop (t * s.slot) (node h s image (suc i) j)) ≡ replicate s.slot 0

-- a tree block is its slots, each slot holds the salted digest of the block below it, and nothing else stands there
abbrev pub SlotsStand : Type 0
SlotsStand =
    (h : List ℕ → List ℕ) (s : Shape) (size : ℕ) → Sound h s size → (image : List ℕ) (i j : ℕ)
    → (length (node h s image (suc i) j) ≡ fanout s * s.slot) × ((t : ℕ) → t < fanout s → Slots h s size image i j t)

-- the tree is its blocks, and block j of level i is where `start` says
abbrev pub PlacesStand : Type 0
PlacesStand =
    (h : List ℕ → List ℕ) (s : Shape) (size : ℕ) → Sound h s size → (image : List ℕ)
    → (length (tree h s image) ≡ tree_blocks s * s.hash_block)
    × ((i j : ℕ) → i < levels s → j < width s (suc i) → block_of s.hash_block (tree h s image) (start s i + j) ≡ node h s image (suc i) j)

-- following the slots from the root leads to every data block
abbrev pub PathsStand : Type 0
PathsStand =
    (h : List ℕ → List ℕ) (s : Shape) (size : ℕ) → Sound h s size → (image : List ℕ) (k : ℕ) → k < s.blocks
    → Leads h s size k (levels s) (root h s image) (above h s image k (levels s)) (node h s image 0 k)

-- two different blocks at one place, of one length and with one salted digest
abbrev pub Collision : (List ℕ → List ℕ) → Shape → List ℕ → List ℕ → Type 0
Collision h s a b =
    (i : ℕ) × (j : ℕ) × (length (node h s a i j) ≡ length (node h s b i j)) × (node h s a i j ≢ node h s b i j) × (h (node h s a i j) ≡ h (node h s b i j))

-- two images of one length with one root are equal, or their trees show a collision
abbrev pub TreeBinds : Type 0
TreeBinds =
    (h : List ℕ → List ℕ) (s : Shape) (size : ℕ) → Sound h s size → (a b : List ℕ)
    → length a ≡ s.blocks * s.data_block → length b ≡ s.blocks * s.data_block → root h s a ≡ root h s b → (a ≡ b) ⊎ Collision h s a b
