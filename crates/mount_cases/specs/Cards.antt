-- Cards, and devices that give them.
use Rattle.std.specs.Prelude.{ℕ, ◌==◌, cond, List, [], ◌∷◌, ◌++◌, replicate, take, Ok, Err, Some}
use Rattle.device.specs.declared.question.Area.TheVariants as area
use Rattle.device.specs.declared.question.Question.{Question}
use Rattle.device.specs.Program.{Meaning, result}
use Rattle.tree.specs.Tree.{block_of}
use Rattle.layers.specs.Anchor.{Anchor}
use Rattle.layers.specs.Cache.{Table}
use Rattle.layers.specs.Publisher.{Publisher, anchor_of}
use Rattle.layers.specs.Store.{StoreRule, path_check}
use Rattle.calls.specs.Calls.{begin}
use Rattle.calls.specs.Mount.{Mounted, cached_check, made, mount}
use Rattle.images.specs.Volumes.{v}

-- the questions for n bytes of block k of each area
abbrev pub data_of : ℕ → ℕ → Question
data_of n k = record { area = area.Data; block = k; length = n }

abbrev pub tree_of : ℕ → ℕ → Question
tree_of n k = record { area = area.Tree; block = k; length = n }

-- a device that refuses each question, one that gives an image by blocks of n bytes, and one that does but for a block
abbrev pub refusing : Meaning ℕ
refusing qs q = Err 7

abbrev pub giving : ℕ → List ℕ → Meaning ℕ
giving n image qs q = Ok (block_of n image q.block)

abbrev pub all_but : ℕ → ℕ → List ℕ → Meaning ℕ
all_but k n image qs q = cond (q.block == k) (Err 7) (giving n image qs q)

-- a card of V alone, with a digest of no bytes, and a mount of it
abbrev pub card_of_v : Publisher
card_of_v = record { salted = λ bytes. []; size = 0; shape = record { data_block = 512; hash_block = 512; blocks = 1; slot = 32 }; image = v }

abbrev pub cached : StoreRule ℕ (Table × Unit {0})
cached = cached_check ℕ

abbrev pub mount_of_v : Mounted (Table × Unit {0})
mount_of_v = made cached (Some (anchor_of card_of_v))

abbrev pub begun_mount : Mounted (Table × Unit {0})
begun_mount = (result (giving 512 v) (mount cached mount_of_v begin)).1

-- the same mount over the path check alone
abbrev pub alone : StoreRule ℕ (Unit {0})
alone = path_check ℕ

abbrev pub begun_alone : Mounted (Unit {0})
begun_alone = (result (giving 512 v) (mount alone (made alone (Some (anchor_of card_of_v))) begin)).1

-- a card of 129 blocks of one byte, the last of which is 7 and each other 5, under tree blocks of 128 slots of one byte. The
-- digest of a block is its first byte
abbrev pub card_of_129 : Publisher
card_of_129 = record { salted = λ bytes. take 1 bytes; size = 1; shape = record { data_block = 1; hash_block = 128; blocks = 129; slot = 1 }; image = replicate 128 5 ++ 7 ∷ [] }

-- the label of a card of two blocks of one byte, 5 and 7, under one tree block of two slots of one byte
abbrev pub pair : Anchor
pair = record { salted = λ bytes. take 1 bytes; size = 1; shape = record { data_block = 1; hash_block = 2; blocks = 2; slot = 1 }; root = 5 ∷ [] }
