-- A path: tree blocks from the top level down to level 0, and a data block, each with the digest that the one before it holds.
use Rattle.std.specs.Prelude.{◌≡◌, ℕ, zero, suc, ◌*◌, ◌/◌, ◌%◌, ◌^◌, List, [], ◌∷◌, take, drop}
use Rattle.tree.specs.Shape.{Shape, fanout}
use Rattle.tree.specs.Tree.{node}

-- the digest of `size` bytes in slot t of a tree block
abbrev pub held : Shape → ℕ → List ℕ → ℕ → List ℕ
held s size block t = take size (drop (t * s.slot) block)

-- the blocks lead from the digest `want` to the data, for data block k, through i levels
abbrev pub Leads : (List ℕ → List ℕ) → Shape → ℕ → ℕ → ℕ → List ℕ → List (List ℕ) → List ℕ → Type 0
Leads h s size k zero want [] bytes = h bytes ≡ want
Leads h s size k zero want (b ∷ bs) bytes = ⊥
Leads h s size k (suc i) want [] bytes = ⊥
Leads h s size k (suc i) want (b ∷ bs) bytes = (h b ≡ want) × Leads h s size k i (held s size b (k / fanout s ^ i % fanout s)) bs bytes

-- the tree blocks above data block k, i levels of them, the uppermost first
unfoldable pub above : (List ℕ → List ℕ) → Shape → List ℕ → ℕ → ℕ → List (List ℕ)
above h s image k zero = []
above h s image k (suc i) = node h s image (suc i) (k / fanout s ^ suc i) ∷ above h s image k i
