-- A label as it is printed, in veritysetup's lines.
use Rattle.std.specs.Prelude.{ℕ, if◌then◌else◌, List, [], ◌∷◌, ◌++◌, codes}
use Rattle.std.specs.Fmt.{decimal}
use Rattle.std.specs.List.{concat}
use Rattle.text.specs.Hex.{hex_of}
use Rattle.text.specs.Name.{name_of}
use Rattle.text.specs.Sum.{size_of}
use Rattle.tree.specs.Shape.{Shape, tree_blocks}
use Rattle.geometry.specs.Limits.{shape, within}
use Rattle.label_text.specs.Key.{heading_of}
use Rattle.label_text.specs.Label.{Told}
use Rattle.label_text.specs.declared.key.Key.{Key}
use Rattle.label_text.specs.declared.key.Key.TheVariants.{HashType, DataBlocks, DataBlockSize, HashBlockSize, HashAlgorithm, Salt, RootHash}

abbrev pub line : Key → List ℕ → List ℕ
line key value = heading_of key ++ (value ++ codes "\n")

-- the shape of the label's tree
abbrev pub tree_of : Told → Shape
tree_of t = shape t.data_block t.hash_block t.blocks (size_of t.function)

-- where the numbers are within the limits, how many blocks the tree has; no reader of a label needs that line
abbrev pub tree_line : Shape → List ℕ
tree_line s = if within s then codes "Hash blocks:     \t" ++ (decimal (tree_blocks s) ++ codes "\n") else []

-- a salt of no byte is a `-`
abbrev pub salt_text : List ℕ → List ℕ
salt_text [] = codes "-"
salt_text (b ∷ bytes) = hex_of (b ∷ bytes)

unfoldable pub text_of : Told → List ℕ
text_of t = concat (
    line HashType (codes "1")
    ∷ line DataBlocks (decimal t.blocks)
    ∷ line DataBlockSize (decimal t.data_block)
    ∷ tree_line (tree_of t)
    ∷ line HashBlockSize (decimal t.hash_block)
    ∷ line HashAlgorithm (name_of t.function)
    ∷ line Salt (salt_text t.salt)
    ∷ line RootHash (hex_of t.root)
    ∷ [])
