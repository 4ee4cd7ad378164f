-- A card of 129 data blocks under two levels of the tree, and the path of its last data block, by a toy digest: the salted
-- digest of a block is what stands in its third slot.
use Rattle.std.specs.Prelude.{ℕ, cond, List, ◌++◌, take, drop, replicate, Err, Some, ◌==◌}
use Rattle.device.specs.declared.question.Area.TheVariants as area
use Rattle.device.specs.declared.question.Question.{Question}
use Rattle.device.specs.Answer.{Answer}
use Rattle.device.specs.Program.{Meaning, asked, result}
use Rattle.layers.specs.declared.fault.StorageFault.{StorageFault}
use Rattle.layers.specs.Anchor.{Anchor}
use Rattle.layers.specs.Verity.{verity}
use Rattle.images.specs.Shapes.{usual}

-- a block by the bytes that its first three slots are filled with
abbrev pub slots : ℕ → ℕ → ℕ → List ℕ
slots a b c = replicate 32 a ++ replicate 32 b ++ replicate 32 c ++ replicate 4000 0

-- the label of the card: its root is 32 ones
abbrev pub label_129 : Anchor
label_129 = record { salted = λ bytes. take 32 (drop 64 bytes); size = 32; shape = usual 129; root = replicate 32 1 }

-- a device with these for tree blocks 0 and 2 and for data block 128, that refuses any other
abbrev pub device_of : Answer ℕ → Answer ℕ → Answer ℕ → Meaning ℕ
device_of top low last qs q =
    elim q.area [ area.Data ↦ cond (q.block == 128) last (Err 8) | area.Tree ↦ cond (q.block == 0) top (cond (q.block == 2) low (Err 8)) ]

-- what the path check comes to for data block 128, and what it asks
abbrev pub question_128 : Question
question_128 = record { area = area.Data; block = 128; length = 4096 }

abbrev pub check_128 : Answer ℕ → Answer ℕ → Answer ℕ → Answer (StorageFault ℕ)
check_128 top low last = result (device_of top low last) (verity (Some label_129) question_128)

abbrev pub asked_128 : Answer ℕ → Answer ℕ → Answer ℕ → List Question
asked_128 top low last = asked (device_of top low last) (verity (Some label_129) question_128)

-- the card's own blocks: the digest of tree block 2 is in slot 1 of tree block 0, and that of data block 128 in slot 0 of tree
-- block 2
abbrev pub top : List ℕ
top = slots 9 2 1

abbrev pub low : List ℕ
low = slots 3 9 2

abbrev pub last : List ℕ
last = slots 0 0 3
