-- Programs of questions: what is asked next may depend on what was answered so far.
use Rattle.std.specs.Prelude.{◌≡◌, ◌⊎◌, List, [], ◌∷◌, ◌++◌, length, IfOk}
use Rattle.device.specs.declared.question.Question.{Question}
use Rattle.device.specs.Answer.{Answer}

-- done with a value, or a question and what to do with its answer
pub data Program (R : Type 0) (A : Type 0) : Type 0 where
  done : A → Program R A
  ask : Question → (Answer R → Program R A) → Program R A

-- what a device answers to a question, after the questions of a list
abbrev pub Meaning : Type 0 → Type 0
Meaning R = List Question → Question → Answer R

-- the meaning that is left once some questions were put
abbrev pub after : {R : Type 0} → Meaning R → List Question → Meaning R
after meaning asked = λ more. meaning (asked ++ more)

-- a question and its answer
pub record Exchange (R : Type 0) : Type 0 where
  pub question : Question
  pub answer : Answer R

-- a program run on a meaning: its value, the questions that it puts, in order, and these with their answers
abbrev pub result : {R A : Type 0} → Meaning R → Program R A → A
result meaning (done a) = a
result meaning (ask q next) = result (after meaning (q ∷ [])) (next (meaning [] q))

abbrev pub asked : {R A : Type 0} → Meaning R → Program R A → List Question
asked meaning (done a) = []
asked meaning (ask q next) = q ∷ asked (after meaning (q ∷ [])) (next (meaning [] q))

abbrev pub exchanges : {R A : Type 0} → Meaning R → Program R A → List (Exchange R)
exchanges meaning (done a) = []
exchanges meaning (ask q next) = record { question = q; answer = meaning [] q } ∷ exchanges (after meaning (q ∷ [])) (next (meaning [] q))

-- first one program, then what its value leads to
abbrev pub bind : {R A B : Type 0} → Program R A → (A → Program R B) → Program R B
bind (done a) then = then a
bind (ask q next) then = ask q (λ answer. bind (next answer) then)

-- one of a list
abbrev pub Somewhere : {X : Type 0} → (X → Type 0) → List X → Type 0
Somewhere P [] = ⊥
Somewhere P (x ∷ xs) = P x ⊎ Somewhere P xs

-- an answer with as many bytes as were asked for, or a refusal; and a meaning with no other answer
abbrev pub Fits : {R : Type 0} → Question → Answer R → Type 0
Fits q answer = IfOk answer (λ bytes. length bytes ≡ q.length)

abbrev pub Sized : {R : Type 0} → Meaning R → Type 0
Sized meaning = (qs : List Question) (q : Question) → Fits q (meaning qs q)
