-- What a memory answers: n bytes from b × n of the area, for block b and a buffer of n, if all lie in it and n is not 0.
use Rattle.std.specs.Prelude.{ℕ, ◌+◌, ◌*◌, Bool, cond, ◌&&◌, List, length, take, drop, Ok, Err, nat_le, nat_lt}
use Rattle.device.specs.declared.question.Area.{Area}
use Rattle.device.specs.declared.question.Area.TheVariants.{Data, Tree}
use Rattle.device.specs.declared.question.Question.{Question}
use Rattle.device.specs.Answer.{Answer}
use Rattle.device.specs.Program.{Meaning}
use Rattle.media.specs.declared.fault.Outside.{Outside}

-- the bytes of an area
abbrev pub area_of : List ℕ → List ℕ → Area → List ℕ
area_of for_data for_tree Data = for_data
area_of for_data for_tree Tree = for_tree

abbrev pub inside : List ℕ → Question → Bool
inside bytes q = nat_lt 0 q.length && nat_le (q.block * q.length + q.length) (length bytes)

abbrev pub memory_answer : List ℕ → List ℕ → Question → Answer Outside
memory_answer for_data for_tree q =
    let bytes = area_of for_data for_tree q.area in
    cond (inside bytes q) (Ok (take q.length (drop (q.block * q.length) bytes))) (Err (record { area = q.area; block = q.block }))

-- whatever was asked before
abbrev pub memory : List ℕ → List ℕ → Meaning Outside
memory for_data for_tree qs q = memory_answer for_data for_tree q
