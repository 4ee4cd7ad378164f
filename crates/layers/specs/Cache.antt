-- The cache: four rows, each with a question and the bytes that it got. A question that a row has is answered from it; any
-- other goes below.
use Rattle.std.specs.Prelude.{ℕ, ◌+◌, ◌%◌, Bool, true, false, cond, ◌&&◌, List, [], ◌∷◌, length, replicate, set, Ok, Err, Option, Some, None, ◌==◌, nat_le}
use Rattle.device.specs.declared.question.Area.{Area}
use Rattle.device.specs.declared.question.Area.TheVariants.{Data, Tree}
use Rattle.device.specs.declared.question.Question.{Question}
use Rattle.device.specs.Answer.{Answer}
use Rattle.device.specs.Program.{Program, done, ask}
use Rattle.geometry.specs.Limits.{block_limit}

pub record Row : Type 0 where
  pub question : Question
  pub bytes : List ℕ

-- four rows, and the number of the one that is written next
pub record Table : Type 0 where
  pub rows : List (Option Row)
  pub turn : ℕ

abbrev pub empty : Table
empty = record { rows = replicate 4 None; turn = 0 }

abbrev pub same_area : Area → Area → Bool
same_area Data Data = true
same_area Data Tree = false
same_area Tree Data = false
same_area Tree Tree = true

-- area, number and length are equal
abbrev pub same_question : Question → Question → Bool
same_question q r = same_area q.area r.area && q.block == r.block && q.length == r.length

-- the bytes that a row has for a question
abbrev pub row_for : Question → Option Row → Option (List ℕ)
row_for q None = None
row_for q (Some row) = cond (same_question row.question q) (Some row.bytes) None

-- of the first row that has it
abbrev pub find : Question → List (Option Row) → Option (List ℕ)
find q [] = None
find q (row ∷ rows) = elim (row_for q row) [ Some bytes ↦ Some bytes | None ↦ find q rows ]

-- an accepted answer of at most 4,096 bytes goes into the next row in turn, the first following the fourth
abbrev pub keep : {R : Type 0} → Table → Question → Answer R → Table
keep table q (Ok bytes) = cond (nat_le (length bytes) block_limit) (record { rows = set table.rows table.turn (Some (record { question = q; bytes = bytes })); turn = (table.turn + 1) % 4 }) table
keep table q (Err refusal) = table

-- with what the rows have for the question
abbrev pub cached : {R : Type 0} → Table → Question → Option (List ℕ) → Program R (Answer R × Table)
cached table q (Some bytes) = done (Ok bytes, table)
cached table q None = ask q (λ answer. done (answer, keep table q answer))

unfoldable pub cache_layer : {R : Type 0} → Table → Question → Program R (Answer R × Table)
cache_layer table q = cached table q (find q table.rows)
