-- The path check: which questions are for a data block, and what becomes of the others.
use Rattle.std.specs.Prelude.{◌≡◌, ℕ, List, [], ◌∷◌, take, drop, Ok, Err, Some, None}
use Rattle.device.specs.declared.question.Area.TheVariants as area
use Rattle.device.specs.declared.question.Question.{Question}
use Rattle.device.specs.Answer.{Answer}
use Rattle.device.specs.Program.{Meaning, asked, result}
use Rattle.tree.specs.Tree.{block_of, tree}
use Rattle.layers.specs.declared.fault.StorageFault.{StorageFault}
use Rattle.layers.specs.declared.fault.StorageFault.TheVariants.{Label, NoBlock, Mismatch}
use Rattle.layers.specs.Anchor.{Anchor}
use Rattle.layers.specs.Fault.{data_place}
use Rattle.layers.specs.Publisher.{Publisher, anchor_of}
use Rattle.layers.specs.Verity.{verity}
use Rattle.mount_cases.specs.Cards.{data_of, tree_of, card_of_129, refusing}

-- a device that gives a card's own blocks
abbrev pub own : Publisher → Meaning ℕ
own p qs q =
    elim q.area [
      | area.Data ↦ Ok (block_of p.shape.data_block p.image q.block)
      | area.Tree ↦ Ok (block_of p.shape.hash_block (tree p.salted p.shape p.image) q.block)
    ]

abbrev pub checked_of : Publisher → Question → Answer (StorageFault ℕ)
checked_of p q = result (own p) (verity (Some (anchor_of p)) q)

abbrev pub asked_of : Publisher → Question → List Question
asked_of p q = asked (own p) (verity (Some (anchor_of p)) q)

-- a card of one block and no level, the digest of which is its second byte
abbrev pub card_of_1 : Anchor
card_of_1 = record { salted = λ bytes. take 1 (drop 1 bytes); size = 1; shape = record { data_block = 2; hash_block = 2; blocks = 1; slot = 1 }; root = 5 ∷ [] }

abbrev pub giving_it : List ℕ → Meaning ℕ
giving_it bytes qs q = Ok bytes

pub record CheckCases : Type 0 where
  -- with a label that was refused, before anything is asked, and whatever is asked for
  pub label : result refusing (verity None (data_of 512 0)) ≡ Err Label
  pub label_before_block : result refusing (verity None (tree_of 512 0)) ≡ Err Label
  pub label_asks : asked refusing (verity None (data_of 512 0)) ≡ []
  -- not of the data, not a whole block, and no block that there is; it names the block that was asked for
  pub of_tree : checked_of card_of_129 (tree_of 1 2) ≡ Err (NoBlock 2)
  pub longer : checked_of card_of_129 (data_of 2 3) ≡ Err (NoBlock 3)
  pub shorter : checked_of card_of_129 (data_of 0 3) ≡ Err (NoBlock 3)
  pub behind : checked_of card_of_129 (data_of 1 129) ≡ Err (NoBlock 129)
  pub of_tree_asks : asked_of card_of_129 (tree_of 1 2) ≡ []
  pub behind_asks : asked_of card_of_129 (data_of 1 129) ≡ []
  -- the first block and the last; blocks 127 and 128 lie under different tree blocks
  pub first : checked_of card_of_129 (data_of 1 0) ≡ Ok (5 ∷ [])
  pub last : checked_of card_of_129 (data_of 1 128) ≡ Ok (7 ∷ [])
  pub asks_127 : asked_of card_of_129 (data_of 1 127) ≡ tree_of 128 0 ∷ tree_of 128 1 ∷ data_of 1 127 ∷ []
  pub asks_128 : asked_of card_of_129 (data_of 1 128) ≡ tree_of 128 0 ∷ tree_of 128 2 ∷ data_of 1 128 ∷ []
  -- where there is no level, the data block has the root for its digest
  pub no_level : result (giving_it (4 ∷ 5 ∷ [])) (verity (Some card_of_1) (data_of 2 0)) ≡ Ok (4 ∷ 5 ∷ [])
  pub no_level_wrong : result (giving_it (5 ∷ 4 ∷ [])) (verity (Some card_of_1) (data_of 2 0)) ≡ Err (Mismatch (data_place 0))
  pub no_level_asks : asked (giving_it (4 ∷ 5 ∷ [])) (verity (Some card_of_1) (data_of 2 0)) ≡ data_of 2 0 ∷ []
