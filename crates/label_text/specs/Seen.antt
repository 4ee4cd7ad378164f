-- Answers that are a value or a fault.
use Rattle.std.specs.Prelude.{Result, Ok, Err}
use Rattle.label_text.specs.declared.fault.Fault.{Fault}

-- an answer whose value is seen by a view
abbrev pub seen : {A B : Type 0} → (A → B) → Result A Fault → Result B Fault
seen view (Ok x) = Ok (view x)
seen view (Err fault) = Err fault

-- a value, and what is made of it next
infixl 10 ◌>>=◌
abbrev pub ◌>>=◌ : {A B : Type 0} → Result A Fault → (A → Result B Fault) → Result B Fault
(Ok x) >>= next = next x
(Err fault) >>= next = Err fault
