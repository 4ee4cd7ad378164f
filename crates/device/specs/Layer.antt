-- A layer over a device: a state, and a program of questions to the device below for each question to the layer.
use Rattle.std.specs.Prelude.{List, [], ◌∷◌, ◌++◌}
use Rattle.device.specs.declared.question.Question.{Question}
use Rattle.device.specs.Answer.{Answer}
use Rattle.device.specs.Program.{Program, done, ask, bind, Meaning, Exchange, after, result, asked, exchanges}
use Rattle.device.specs.Run.{Ran}

-- the meaning of a layer in state s over a device of this meaning
abbrev pub layered : {S R Q : Type 0} → (S → Question → Program R (Answer Q × S)) → S → Meaning R → Meaning Q
layered layer s below [] q = (result below (layer s q)).0
layered layer s below (r ∷ qs) q = layered layer (result below (layer s r)).1 (after below (asked below (layer s r))) qs q

-- the state after some questions, the meaning that is left below, and all that was asked below for them
abbrev pub state_after : {S R Q : Type 0} → (S → Question → Program R (Answer Q × S)) → S → Meaning R → List Question → S
state_after layer s below [] = s
state_after layer s below (q ∷ qs) = state_after layer (result below (layer s q)).1 (after below (asked below (layer s q))) qs

abbrev pub meaning_after : {S R Q : Type 0} → (S → Question → Program R (Answer Q × S)) → S → Meaning R → List Question → Meaning R
meaning_after layer s below [] = below
meaning_after layer s below (q ∷ qs) = meaning_after layer (result below (layer s q)).1 (after below (asked below (layer s q))) qs

abbrev pub asked_for : {S R Q : Type 0} → (S → Question → Program R (Answer Q × S)) → S → Meaning R → List Question → List (Exchange R)
asked_for layer s below [] = []
asked_for layer s below (q ∷ qs) = exchanges below (layer s q) ++ asked_for layer (result below (layer s q)).1 (after below (asked below (layer s q))) qs

-- a program of questions to the layer, as a program of questions to the device below: each question is replaced by the
-- layer's program for it
abbrev pub through : {S R Q A : Type 0} → (S → Question → Program R (Answer Q × S)) → Program Q A → S → Program R (A × S)
through layer (done a) s = done (a, s)
through layer (ask q next) s = bind (layer s q) (λ answered. through layer (next answered.0) answered.1)

-- a layer over a layer: one layer, with both states
abbrev pub stacked : {S T R Q U : Type 0} → (S → Question → Program Q (Answer U × S)) → (T → Question → Program R (Answer Q × T)) → S × T → Question → Program R (Answer U × (S × T))
stacked upper lower both q = bind (through lower (upper both.0 q) both.1) (λ end. done (end.0.0, (end.0.1, end.1)))

-- a question takes the layer from state s over d to state t over e, by the questions that the layer's program puts to the device below
abbrev pub Through : {S R Q D : Type 0} → (D → Meaning R) → (D → Question → D → Type 0) → (S → Question → Program R (Answer Q × S)) → S → D → Question → S → D → Type 0
Through meaning moves layer s d q t e = (answer : _) × Ran meaning moves d (layer s q) (answer, t) e
