-- The parts of a job's tree, in the order in which they are filled.
use Rattle.std.specs.Prelude.{◌≡◌, ℕ, zero, suc, ◌*◌, List, length}
use Rattle.std.specs.List.{range_with_len, flat_map}
use Rattle.geometry.specs.Limits.{shape}
use Rattle.tree.specs.Shape.{Shape, width, tree_blocks}
use Rattle.tree.specs.Tree.{block_of, in_slot, salted}
use Rattle.builder.specs.declared.job.Job.{Job}

-- a job's salted digest
abbrev pub hash_by : {X : Type 0} {d : _} → Job X d → List ℕ → List ℕ
hash_by {d = d} job = salted d.meaning job.salt.now

-- bytes of a block i steps above the data
abbrev pub block_len : Shape → ℕ → ℕ
block_len s zero = s.data_block
block_len s (suc i) = s.hash_block

-- the shape of the levels from i up, of which the blocks i steps above the data are the data
abbrev pub over : Shape → ℕ → Shape
over s i = shape (block_len s i) s.hash_block (width s i) s.slot

-- bytes of the tree
abbrev pub tree_len : Shape → ℕ
tree_len s = tree_blocks s * s.hash_block

-- all the blocks of a shape, joined
abbrev pub IsRow : Shape → List ℕ → Type 0
IsRow s row = length row ≡ s.blocks * s.data_block

-- n pieces, each in a slot
abbrev pub slots_of : ℕ → (ℕ → List ℕ) → ℕ → List ℕ
slots_of slot piece n = flat_map (λ k. in_slot slot (piece k)) (range_with_len 0 n)

-- the salted digests of the blocks of a row, each in a slot
abbrev pub row_slots : (List ℕ → List ℕ) → Shape → ℕ → List ℕ → List ℕ
row_slots h s slot row = slots_of slot (λ k. h (block_of s.data_block row k)) s.blocks
