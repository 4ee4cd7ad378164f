-- What a tape answers: the next n bytes, whatever block is named, if n is not 0 and n are left. A refusal uses none.
use Rattle.std.specs.Prelude.{ℕ, ◌+◌, Bool, cond, ◌&&◌, List, [], ◌∷◌, length, take, drop, Ok, Err, nat_le, nat_lt}
use Rattle.device.specs.declared.question.Question.{Question}
use Rattle.device.specs.Answer.{Answer}
use Rattle.device.specs.Program.{Meaning}
use Rattle.media.specs.declared.fault.Spent.{Spent}

abbrev pub left : List ℕ → ℕ → Question → Bool
left bytes used q = nat_lt 0 q.length && nat_le (used + q.length) (length bytes)

abbrev pub tape_answer : List ℕ → ℕ → Question → Answer Spent
tape_answer bytes used q = cond (left bytes used q) (Ok (take q.length (drop used bytes))) (Err (record { area = q.area; block = q.block }))

-- how many bytes are used after a question
abbrev pub used_after : List ℕ → ℕ → Question → ℕ
used_after bytes used q = cond (left bytes used q) (used + q.length) used

abbrev pub tape : List ℕ → ℕ → Meaning Spent
tape bytes used [] q = tape_answer bytes used q
tape bytes used (r ∷ qs) q = tape bytes (used_after bytes used r) qs q
