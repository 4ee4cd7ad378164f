-- The path of a data block: which blocks are asked for, and what was given where it leads to the data and where it ends before.
use Rattle.std.specs.Prelude.{◌≡◌, ◌≢◌, ◌⊎◌, ℕ, zero, suc, ◌/◌, ◌%◌, ◌^◌, List, [], ◌∷◌, Ok, Err}
use Rattle.device.specs.declared.question.Question.{Question}
use Rattle.device.specs.Answer.{Answer}
use Rattle.device.specs.Program.{Exchange}
use Rattle.tree.specs.Shape.{Shape, fanout}
use Rattle.tree.specs.Path.{held, Leads}
use Rattle.layers.specs.declared.fault.Place.{Place}
use Rattle.layers.specs.declared.fault.StorageFault.{StorageFault}
use Rattle.layers.specs.declared.fault.StorageFault.TheVariants.{Refused, Mismatch}
use Rattle.layers.specs.Anchor.{Anchor}
use Rattle.layers.specs.Fault.{data_place}
use Rattle.layers.specs.Verity.{tree_place, question_at}

-- the questions for data block k, and for the block of level i above it
abbrev pub data_question : Shape → ℕ → Question
data_question s k = question_at (data_place k) s.data_block

abbrev pub tree_question : Shape → ℕ → ℕ → Question
tree_question s k i = question_at (tree_place s k i) s.hash_block

-- the whole path of data block k through i levels: the tree blocks above it, from the top level down to level 0, and then itself
abbrev pub path_questions : Shape → ℕ → ℕ → List Question
path_questions s k zero = data_question s k ∷ []
path_questions s k (suc i) = tree_question s k i ∷ path_questions s k i

abbrev pub given : {R : Type 0} → Question → List ℕ → Exchange R
given q bytes = record { question = q; answer = Ok bytes }

-- the tree blocks above data block k, from the top of i levels down, and then that block, were asked for and given
abbrev pub GivenDown : {R : Type 0} → Shape → ℕ → ℕ → List (List ℕ) → List ℕ → List (Exchange R) → Type 0
GivenDown s k zero [] bytes xs = xs ≡ given (data_question s k) bytes ∷ []
GivenDown s k zero (b ∷ blocks) bytes xs = ⊥
GivenDown s k (suc i) [] bytes xs = ⊥
GivenDown {R = R} s k (suc i) (b ∷ blocks) bytes xs = (rest : List (Exchange R)) × (xs ≡ given (tree_question s k i) b ∷ rest) × GivenDown s k i blocks bytes rest

-- these exchanges are a path from the digest `want` through i levels to the bytes of data block k
abbrev pub IsPath : {R : Type 0} → Anchor → ℕ → ℕ → List ℕ → List ℕ → List (Exchange R) → Type 0
IsPath anchor k i want bytes xs =
    (blocks : List (List ℕ)) × GivenDown anchor.shape k i blocks bytes xs × Leads anchor.salted anchor.shape anchor.size k i want blocks bytes

-- with this fault the block of a place fails: it was refused, for this reason, or given with another digest than `want`
abbrev pub Fails : {R : Type 0} → Anchor → Place → List ℕ → Answer R → StorageFault R → Type 0
Fails anchor place want (Err refusal) fault = fault ≡ Refused place refusal
Fails anchor place want (Ok block) fault = (anchor.salted block ≢ want) × (fault ≡ Mismatch place)

-- these exchanges go down the same path, each block with the digest that the one before it holds, up to one that fails with this
-- fault; that one is the last
abbrev pub IsCut : {R : Type 0} → Anchor → ℕ → ℕ → List ℕ → StorageFault R → List (Exchange R) → Type 0
IsCut anchor k i want fault [] = ⊥
IsCut anchor k zero want fault (x ∷ xs) = (x.question ≡ data_question anchor.shape k) × (xs ≡ []) × Fails anchor (data_place k) want x.answer fault
IsCut anchor k (suc i) want fault (x ∷ xs) =
    (x.question ≡ tree_question anchor.shape k i)
    × (((xs ≡ []) × Fails anchor (tree_place anchor.shape k i) want x.answer fault)
    ⊎ ((block : List ℕ) × (x.answer ≡ Ok block) × (anchor.salted block ≡ want) × IsCut anchor k i (held anchor.shape anchor.size block (k / fanout anchor.shape ^ i % fanout anchor.shape)) fault xs))
