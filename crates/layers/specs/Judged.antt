-- What an answer of the path check to a question for a data block is worth, by what the device gave below in that question.
use Rattle.std.specs.Prelude.{◌≡◌, ◌⊎◌, List, [], ◌∷◌, Ok, Err, Some, IsSome}
use Rattle.device.specs.declared.question.Question.{Question}
use Rattle.device.specs.Answer.{Answer}
use Rattle.device.specs.Program.{Exchange, Somewhere}
use Rattle.tree.specs.Shape.{Shape}
use Rattle.layers.specs.declared.fault.Place.{Place}
use Rattle.layers.specs.declared.fault.StorageFault.{StorageFault}
use Rattle.layers.specs.declared.fault.StorageFault.TheVariants.{Label, NoBlock, Refused, Mismatch}
use Rattle.layers.specs.Fault.{area_of, Lies}
use Rattle.layers.specs.Publisher.{Publisher, NoTwin, Differs, right_block}

-- an exchange was for the block of this place, and that lies on the place's level
abbrev pub IsFor : {R : Type 0} → Shape → Place → Exchange R → Type 0
IsFor s place x = (x.question.area ≡ area_of place.level) × (x.question.block ≡ place.block) × Lies s place

-- the last of a list
abbrev pub Last : {X : Type 0} → (X → Type 0) → List X → Type 0
Last P [] = ⊥
Last P (x ∷ xs) = ((xs ≡ []) × P x) ⊎ Last P xs

-- a block of the publisher's was refused, for this reason
abbrev pub WasRefused : {R : Type 0} → Publisher → R → Exchange R → Type 0
WasRefused p refusal x = IsSome (right_block p x.question) × (x.answer ≡ Err refusal)

-- an accepted block is the publisher's, or a twin was given; a refusal from below names the block that was refused; a wrong
-- digest names a block that was given and is not the publisher's, or a twin was given. Nothing else is answered
abbrev pub Judged : {R : Type 0} → Publisher → Question → Answer (StorageFault R) → List (Exchange R) → Type 0
Judged p q (Ok block) xs = NoTwin p xs → right_block p q ≡ Some block
Judged p q (Err (Refused place refusal)) xs = Somewhere (λ x. IsFor p.shape place x × WasRefused p refusal x) xs
Judged p q (Err (Mismatch place)) xs = NoTwin p xs → Somewhere (λ x. IsFor p.shape place x × Differs p x) xs
Judged p q (Err Label) xs = ⊥
Judged p q (Err (NoBlock block)) xs = ⊥
