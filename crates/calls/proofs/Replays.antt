-- A program through a store, question by question: what each was answered, and what the device was asked for it.
use Rattle.std.proofs.Common.{◌≡◌, List, [], ◌∷◌, ◌++◌, refl, sym, ap, ◌∙◌, append_assoc}
use Rattle.std.specs.List.{AllByRecursion}
use Rattle.device.specs.declared.question.Question.{Question}
use Rattle.device.specs.Answer.{Answer}
use Rattle.device.specs.Program.{Program, done, ask, bind, Meaning, Exchange, after, result, asked, exchanges}
use Rattle.device.specs.Layer.{through}
use Rattle.device.proofs.Exchanges.{of-bind}
use Rattle.layers.specs.declared.fault.StorageFault.{StorageFault}

pub record Served (R : Type 0) : Type 0 where
  pub question : Question
  pub answer : Answer (StorageFault R)
  pub exchanges : List (Exchange R)

abbrev pub below : {R : Type 0} → List (Served R) → List (Exchange R)
below [] = []
below (g ∷ gs) = g.exchanges ++ below gs

pub below-append : {R : Type 0} (gs hs : List (Served R)) → below (gs ++ hs) ≡ below gs ++ below hs
below-append [] hs = refl
below-append (g ∷ gs) hs = ap (λ xs. g.exchanges ++ xs) (below-append gs hs) ∙ sym (append_assoc g.exchanges (below gs) (below hs))

-- a program that puts these questions and gets these answers comes to this
abbrev pub Replays : {R A : Type 0} → Program (StorageFault R) A → List (Served R) → A → Type 0
Replays (done b) [] a = a ≡ b
Replays (done b) (g ∷ gs) a = ⊥
Replays (ask q next) [] a = ⊥
Replays (ask q next) (g ∷ gs) a = (g.question ≡ q) × Replays (next g.answer) gs a

-- one program and then another
pub record Split {R A B : Type 0} (p : Program (StorageFault R) A) (then : A → Program (StorageFault R) B) (gs : List (Served R)) (b : B) : Type 0 where
  pub first : List (Served R)
  pub second : List (Served R)
  pub value : A
  pub parts : gs ≡ first ++ second
  pub one : Replays p first value
  pub other : Replays (then value) second b

module _ {R A B : Type 0} where
  pub replays-bind : (p : Program (StorageFault R) A) (then : A → Program (StorageFault R) B) (gs : List (Served R)) (b : B) → Replays (bind p then) gs b → Split p then gs b
  replays-bind (done a) then gs b replays = record { first = []; second = gs; value = a; parts = refl; one = refl; other = replays }
  replays-bind (ask q next) then [] b replays = absurd replays
  replays-bind (ask q next) then (g ∷ gs) b (is, replays) =
      let s = replays-bind (next g.answer) then gs b replays in
      record { first = g ∷ s.first; second = s.second; value = s.value; parts = ap (λ hs. g ∷ hs) s.parts; one = (is, s.one); other = s.other }

  -- a value that is only put into another
  pub replays-put : (f : A → B) (p : Program (StorageFault R) A) (gs : List (Served R)) (b : B) → Replays (bind p (λ a. done (f a))) gs b → (a : A) × Replays p gs a × (b ≡ f a)
  replays-put f (done a) [] b replays = (a, refl, replays)
  replays-put f (done a) (g ∷ gs) b replays = absurd replays
  replays-put f (ask q next) [] b replays = absurd replays
  replays-put f (ask q next) (g ∷ gs) b (is, replays) =
      let rest = replays-put f (next g.answer) gs b replays in
      (rest.0, (is, rest.1), rest.2)

-- a rule that serves each question so
module _ {R M : Type 0} (rule : M → Question → Program R (Answer (StorageFault R) × M)) (Serves : Served R → Type 0)
    (serves : (m : Meaning R) (s : M) (q : Question) → Serves (record { question = q; answer = (result m (rule s q)).0; exchanges = exchanges m (rule s q) })) where
  -- what a program through it was served
  pub record Went {A : Type 0} (program : Program (StorageFault R) A) (value : A) (xs : List (Exchange R)) : Type 0 where
    pub all : List (Served R)
    pub replays : Replays program all value
    pub served : AllByRecursion Serves all
    pub exchanged : xs ≡ below all

  pub went : {A : Type 0} (program : Program (StorageFault R) A) (m : Meaning R) (s : M) → Went program (result m (through rule program s)).0 (exchanges m (through rule program s))
  went (done a) m s = record { all = []; replays = refl; served = tt; exchanged = refl }
  went {A = A} (ask q next) m s =
      let first = rule s q in
      let r = result m first in
      let left = after m (asked m first) in
      let on : Answer (StorageFault R) × M → Program R (A × M) = λ r. through rule (next r.0) r.1 in
      let rest = went (next r.0) left r.1 in
      let g : Served R = record { question = q; answer = r.0; exchanges = exchanges m first } in
      of-bind (λ end xs. Went (ask q next) end.0 xs) first on m
      (record { all = g ∷ rest.all; replays = (refl, rest.replays); served = (serves m s q, rest.served); exchanged = ap (λ xs. exchanges m first ++ xs) rest.exchanged })
