-- Trees: their numbers, and their bytes.
use Rattle.std.specs.Prelude.{◌≡◌, ℕ, List, [], ◌∷◌, ◌++◌, replicate, take, drop, codes}
use Rattle.tree.specs.Shape.{Shape, fanout, levels_of, levels, width, tree_blocks, start}
use Rattle.tree.specs.Tree.{salted, block_of, in_slot, node, level, tree, root}
use Rattle.tree.specs.Path.{held, above}
use Rattle.images.specs.Shapes.{usual}
use Rattle.mount_cases.specs.Cards.{card_of_129}

-- three data blocks of two bytes under tree blocks of two slots of two bytes, with a digest of one byte, the first
abbrev pub narrow : Shape
narrow = record { data_block = 2; hash_block = 4; blocks = 3; slot = 2 }

abbrev pub first_byte : List ℕ → List ℕ
first_byte bytes = take 1 bytes

abbrev pub second_byte : List ℕ → List ℕ
second_byte bytes = take 1 (drop 1 bytes)

abbrev pub six : List ℕ
six = codes "abcdef"

pub record TreeCases : Type 0 where
  -- the least number of levels: at a power of the fanout, and one more
  pub levels_8 : levels_of 2 8 ≡ 3
  pub levels_9 : levels_of 2 9 ≡ 4
  pub levels_64 : levels_of 64 64 ≡ 1
  pub levels_65 : levels_of 64 65 ≡ 2
  pub fanout_64 : fanout (record { data_block = 512; hash_block = 4096; blocks = 1; slot = 64 }) ≡ 64
  -- the widths of 16,385 blocks, and where their levels start: the top level first
  pub levels_16385 : levels (usual 16385) ≡ 3
  pub width_0 : width (usual 16385) 0 ≡ 16385
  pub width_1 : width (usual 16385) 1 ≡ 129
  pub width_2 : width (usual 16385) 2 ≡ 2
  pub width_3 : width (usual 16385) 3 ≡ 1
  pub all_of_it : tree_blocks (usual 16385) ≡ 132
  pub start_2 : start (usual 16385) 2 ≡ 0
  pub start_1 : start (usual 16385) 1 ≡ 1
  pub start_0 : start (usual 16385) 0 ≡ 3
  -- the salt stands before the block
  pub salt_first : salted (λ bytes. bytes) (1 ∷ []) (2 ∷ 3 ∷ []) ≡ 1 ∷ 2 ∷ 3 ∷ []
  pub second_block : block_of 2 six 1 ≡ codes "cd"
  -- a slot has the digest first, and zeros behind it; slots past the last block are zeros
  pub slot_of_4 : in_slot 4 (7 ∷ []) ≡ 7 ∷ 0 ∷ 0 ∷ 0 ∷ []
  pub lowest_block : node first_byte narrow six 1 1 ≡ 101 ∷ 0 ∷ 0 ∷ 0 ∷ []
  pub lowest_level : level first_byte narrow six 0 ≡ 97 ∷ 0 ∷ 99 ∷ 0 ∷ 101 ∷ 0 ∷ 0 ∷ 0 ∷ []
  pub narrow_tree : tree first_byte narrow six ≡ 97 ∷ 0 ∷ 101 ∷ 0 ∷ 97 ∷ 0 ∷ 99 ∷ 0 ∷ 101 ∷ 0 ∷ 0 ∷ 0 ∷ []
  pub narrow_root : root first_byte narrow six ≡ codes "a"
  -- the digest alone is taken of a slot
  pub second_slot : held narrow 1 (97 ∷ 0 ∷ 101 ∷ 0 ∷ []) 1 ≡ 101 ∷ []
  pub above_last : above first_byte narrow six 2 2 ≡ (97 ∷ 0 ∷ 101 ∷ 0 ∷ []) ∷ (101 ∷ 0 ∷ 0 ∷ 0 ∷ []) ∷ []
  -- over 129 blocks
  pub tree_of_129 : tree card_of_129.salted card_of_129.shape card_of_129.image ≡ 5 ∷ 7 ∷ replicate 126 0 ++ replicate 128 5 ++ 7 ∷ replicate 127 0
  pub root_of_129 : root card_of_129.salted card_of_129.shape card_of_129.image ≡ 5 ∷ []
  -- the root is the digest of the block on top, here that of `bd`
  pub root_of_2 : root second_byte (record { data_block = 2; hash_block = 2; blocks = 2; slot = 1 }) (codes "abcd") ≡ codes "d"
  -- with no level the root is the digest of the data block
  pub root_of_1 : root first_byte (record { data_block = 2; hash_block = 4; blocks = 1; slot = 2 }) (codes "ab") ≡ codes "a"
