-- The tree over an image. `h` is the salted digest: the digest of the salt followed by the whole block.
use Rattle.std.specs.Prelude.{ℕ, zero, suc, ◌+◌, ◌-◌, ◌*◌, cond, List, [], ◌++◌, length, take, drop, replicate, nat_lt}
use Rattle.std.specs.List.{range_with_len, flat_map}
use Rattle.tree.specs.Shape.{Shape, fanout, levels, width}

-- the salted digest of a block, by a digest function and a salt
abbrev pub salted : (List ℕ → List ℕ) → List ℕ → List ℕ → List ℕ
salted digest salt block = digest (salt ++ block)

-- block k of a row of blocks of n bytes
abbrev pub block_of : ℕ → List ℕ → ℕ → List ℕ
block_of n bytes k = take n (drop (k * n) bytes)

-- a slot: the digest first, zeros behind it
abbrev pub in_slot : ℕ → List ℕ → List ℕ
in_slot slot d = d ++ replicate (slot - length d) 0

-- node i j is block j, i steps above the data: data block j where i is 0, and else a tree block.
-- Slot t of a tree block holds the salted digest of node j·F + t a step below, or zeros past the last
unfoldable pub node : (List ℕ → List ℕ) → Shape → List ℕ → ℕ → ℕ → List ℕ
node h s image zero j = block_of s.data_block image j
node h s image (suc i) j =
    flat_map
    (λ t. cond (nat_lt (j * fanout s + t) (width s i)) (in_slot s.slot (h (node h s image i (j * fanout s + t)))) (replicate s.slot 0))
    (range_with_len 0 (fanout s))

-- level i: the tree blocks i + 1 steps above the data
unfoldable pub level : (List ℕ → List ℕ) → Shape → List ℕ → ℕ → List ℕ
level h s image i = flat_map (node h s image (suc i)) (range_with_len 0 (width s (suc i)))

-- the m lowest levels, the uppermost first
unfoldable pub lowest : (List ℕ → List ℕ) → Shape → List ℕ → ℕ → List ℕ
lowest h s image zero = []
lowest h s image (suc i) = level h s image i ++ lowest h s image i

unfoldable pub tree : (List ℕ → List ℕ) → Shape → List ℕ → List ℕ
tree h s image = lowest h s image (levels s)

-- the root: the salted digest of the one block on top, which is data block 0 where there is no level
unfoldable pub root : (List ℕ → List ℕ) → Shape → List ℕ → List ℕ
root h s image = h (node h s image (levels s) 0)
