-- A program run on a device.
use Rattle.std.specs.Prelude.{◌≡◌, List, [], ◌∷◌}
use Rattle.device.specs.declared.question.Question.{Question}
use Rattle.device.specs.Program.{Program, done, ask, Meaning}

-- the program, started at device value s, ends with a at device value t, and the device went there by exactly the program's questions
abbrev pub Ran : {S R A : Type 0} → (S → Meaning R) → (S → Question → S → Type 0) → S → Program R A → A → S → Type 0
Ran meaning moves s (done b) a t = (a ≡ b) × (t ≡ s)
Ran meaning moves s (ask q next) a t = (u : _) × moves s q u × Ran meaning moves u (next (meaning s [] q)) a t

-- a device went from one value to another by exactly these questions
abbrev pub Along : {S : Type 0} → (S → Question → S → Type 0) → S → List Question → S → Type 0
Along moves s [] t = t ≡ s
Along moves s (q ∷ qs) t = (u : _) × moves s q u × Along moves u qs t
