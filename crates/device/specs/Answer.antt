-- Questions and answers. A question is an area, a block and how many bytes are wanted; an answer is these bytes, or a refusal.
use Rattle.std.specs.Prelude.{ℕ, List, length, replicate, Ok, Err, Result}
use Rattle.device.specs.declared.question.Area.{Area}
use Rattle.device.specs.declared.question.Question.{Question}

-- what a call with this buffer asks: of the buffer its length counts
abbrev pub question : Area → ℕ → List ℕ → Question
question area block buf = record { area = area; block = block; length = length buf }

abbrev pub Answer : Type 0 → Type 0
Answer R = Result (List ℕ) R

-- what the call returns for an answer
abbrev pub returned : {R : Type 0} → Answer R → Result (Unit {0}) R
returned (Ok bytes) = Ok tt
returned (Err refusal) = Err refusal

-- what a buffer of n bytes holds then: the answer's bytes, or zeros
abbrev pub filled : {R : Type 0} → ℕ → Answer R → List ℕ
filled n (Ok bytes) = bytes
filled n (Err refusal) = replicate n 0

-- the answer that a call gave: by what it returned, and its buffer
abbrev pub answered : {R : Type 0} → Result (Unit {0}) R → List ℕ → Answer R
answered (Ok done) buf = Ok buf
answered (Err refusal) buf = Err refusal
