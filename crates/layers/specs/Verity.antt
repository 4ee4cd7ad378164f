-- The path check: a data block is given only after each block on its path, from the top down, has the salted digest that
-- the label or the block before it tells.
use Rattle.std.specs.Prelude.{ℕ, zero, suc, ◌+◌, ◌/◌, ◌%◌, ◌^◌, Bool, true, false, cond, ◌&&◌, List, Ok, Err, Option, Some, None, ◌==◌, nat_lt}
use Rattle.std.specs.Str.{bytes_eq}
use Rattle.device.specs.declared.question.Area.{Area}
use Rattle.device.specs.declared.question.Area.TheVariants as area
use Rattle.device.specs.declared.question.Question.{Question}
use Rattle.device.specs.Answer.{Answer}
use Rattle.device.specs.Program.{Program, done, ask, bind}
use Rattle.tree.specs.Shape.{Shape, fanout, levels, start}
use Rattle.tree.specs.Path.{held}
use Rattle.layers.specs.declared.fault.Level.TheVariants.{Tree}
use Rattle.layers.specs.declared.fault.Place.{Place}
use Rattle.layers.specs.declared.fault.StorageFault.{StorageFault}
use Rattle.layers.specs.declared.fault.StorageFault.TheVariants.{Label, NoBlock, Refused, Mismatch}
use Rattle.layers.specs.Fault.{area_of, data_place}
use Rattle.layers.specs.Anchor.{Anchor}

-- the place of the block of level i above data block k, counted over the whole tree
abbrev pub tree_place : Shape → ℕ → ℕ → Place
tree_place s k i = record { level = Tree i; block = start s i + k / fanout s ^ suc i }

-- the question for the block of a place, of n bytes
abbrev pub question_at : Place → ℕ → Question
question_at place n = record { area = area_of place.level; block = place.block; length = n }

-- the digest of the next block down, in the block of level i above data block k
abbrev pub next_digest : Anchor → ℕ → ℕ → List ℕ → List ℕ
next_digest anchor k i block = held anchor.shape anchor.size block (k / fanout anchor.shape ^ i % fanout anchor.shape)

-- what becomes of an answer from below, where the block of this place is to have the digest `want`
abbrev pub checked : {R : Type 0} → Anchor → Place → List ℕ → Answer R → Answer (StorageFault R)
checked anchor place want (Err refusal) = Err (Refused place refusal)
checked anchor place want (Ok block) = cond (bytes_eq (anchor.salted block) want) (Ok block) (Err (Mismatch place))

-- asks for the block of a place, of n bytes, and gives it only with the digest `want`
abbrev pub check_block : {R : Type 0} → Anchor → Place → ℕ → List ℕ → Program R (Answer (StorageFault R))
check_block anchor place n want = ask (question_at place n) (λ answer. done (checked anchor place want answer))

-- goes on with a block that was accepted, and ends with a fault
abbrev pub go_on : {R F : Type 0} → (List ℕ → Program R (Answer F)) → Answer F → Program R (Answer F)
go_on next (Ok block) = next block
go_on next (Err fault) = done (Err fault)

-- from the top of i levels down to data block k, where the first block is to have the digest `want`
unfoldable pub walk : {R : Type 0} → Anchor → ℕ → ℕ → List ℕ → Program R (Answer (StorageFault R))
walk anchor k zero want = check_block anchor (data_place k) anchor.shape.data_block want
walk anchor k (suc i) want =
    bind (check_block anchor (tree_place anchor.shape k i) anchor.shape.hash_block want) (go_on (λ block. walk anchor k i (next_digest anchor k i block)))

-- a question for a whole data block that there is
abbrev pub is_data : Area → Bool
is_data area.Data = true
is_data area.Tree = false

abbrev pub is_block : Shape → Question → Bool
is_block s q = is_data q.area && q.length == s.data_block && nat_lt q.block s.blocks

-- with the label refused every answer is that, before anything is asked
unfoldable pub verity : {R : Type 0} → Option Anchor → Question → Program R (Answer (StorageFault R))
verity None q = done (Err Label)
verity (Some anchor) q = cond (is_block anchor.shape q) (walk anchor q.block (levels anchor.shape) anchor.root) (done (Err (NoBlock q.block)))

-- as a layer: it has no state but what the label tells
abbrev pub verity_layer : {R : Type 0} → Option Anchor → Question → Program R (Answer (StorageFault R) × Option Anchor)
verity_layer label q = bind (verity label q) (λ answer. done (answer, label))
