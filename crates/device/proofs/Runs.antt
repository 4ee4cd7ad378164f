-- A run ends with the program's value on the device's meaning, and leaves the device with the meaning that is left.
use Rattle.std.proofs.Common.{◌≡◌, ℕ, List, [], ◌∷◌, replicate, Result, Ok, Err, OnErr, ap, ap₂, ◌∙◌, subst, refl}
use Rattle.std.specs.Result.{IsErr, IsErrAnd}
use Rattle.std.proofs.lemmas.Bool.{false≢true}
use Rattle.device.specs.declared.question.Question.{Question}
use Rattle.device.specs.Answer.{Answer, returned, filled, answered}
use Rattle.device.specs.Program.{Program, done, ask, bind, Meaning, after, result, asked}
use Rattle.device.specs.Run.{Ran}

-- what the interface asks of a question
abbrev pub Onward : {S R : Type 0} → (S → Meaning R) → (S → Question → S → Type 0) → Type 0
Onward meaning moves = (d e : _) (q : Question) → moves d q e → meaning e ≡ after (meaning d) (q ∷ [])

module _ {S R A : Type 0} (meaning : S → Meaning R) (moves : S → Question → S → Type 0) (onward : Onward meaning moves) where
  pub ran-end : (p : Program R A) (s : S) (a : A) (t : S) → Ran meaning moves s p a t → (a ≡ result (meaning s) p) × (meaning t ≡ after (meaning s) (asked (meaning s) p))
  ran-end (done b) s a t ran = (ran.0, ap meaning ran.1)
  ran-end (ask q next) s a t (u, moved, ran) =
      subst (λ m. (a ≡ result m (next (meaning s [] q))) × (meaning t ≡ after m (asked m (next (meaning s [] q))))) (onward s u q moved)
      (ran-end (next (meaning s [] q)) u a t ran)

-- one question, and what its answer comes to
pub ran-one : {S R A : Type 0} (meaning : S → Meaning R) (moves : S → Question → S → Type 0) (q : Question) (f : Answer R → A) (s t : S) → moves s q t
    → Ran meaning moves s (ask q (λ answer. done (f answer))) (f (meaning s [] q)) t
ran-one meaning moves q f s t moved = (t, moved, (refl, refl))

-- one program, and then another
pub ran-bind : {S R A B : Type 0} (meaning : S → Meaning R) (moves : S → Question → S → Type 0) (p : Program R A) (then : A → Program R B) (s : S) (a : A) (t : S) (b : B) (u : S)
    → Ran meaning moves s p a t → Ran meaning moves t (then a) b u → Ran meaning moves s (bind p then) b u
ran-bind meaning moves (done x) then s a t b u first second =
    subst (λ v. Ran meaning moves v (then x) b u) first.1 (subst (λ x. Ran meaning moves t (then x) b u) first.0 second)
ran-bind meaning moves (ask q next) then s a t b u (v, moved, first) second = (v, moved, ran-bind meaning moves (next (meaning s [] q)) then v a t b u first second)

pub result-bind : {R A B : Type 0} (p : Program R A) (then : A → Program R B) (m : Meaning R) → result m (bind p then) ≡ result (after m (asked m p)) (then (result m p))
result-bind (done a) then m = refl
result-bind (ask q next) then m = result-bind (next (m [] q)) then (after m (q ∷ []))

-- what a call returned, and its buffer, by the answer
pub answered-is : {R : Type 0} (n : ℕ) (answer : Answer R) (r : Result (Unit {0}) R) (buf : List ℕ) → r ≡ returned answer → buf ≡ filled n answer → answered r buf ≡ answer
answered-is n (Ok bytes) r buf is was = ap₂ (λ x y. answered x y) is was
answered-is n (Err refusal) r buf is was = ap (λ x. answered x buf) is

-- and the answer by these
pub returned-is : {R : Type 0} (answer : Answer R) (r : Result (Unit {0}) R) (buf : List ℕ) → answered r buf ≡ answer → r ≡ returned answer
returned-is answer (Ok d) buf is = ap returned is
returned-is answer (Err refusal) buf is = ap returned is

pub filled-is : {R : Type 0} (n : ℕ) (answer : Answer R) (r : Result (Unit {0}) R) (buf : List ℕ) → answered r buf ≡ answer → OnErr r (buf ≡ replicate n 0) → buf ≡ filled n answer
filled-is n answer (Ok d) buf is zeros = ap (filled n) is
filled-is n answer (Err refusal) buf is zeros = zeros ∙ ap (filled n) is

-- what a `?` hands on
pub answered-err : {R : Type 0} (r : Result (Unit {0}) R) (refusal : R) (buf : List ℕ) → IsErr r × IsErrAnd r (λ e. e ≡ refusal) → answered r buf ≡ Err refusal
answered-err (Ok d) refusal buf both = absurd (false≢true both.0)
answered-err (Err e) refusal buf both = ap (λ x. Err x) both.1

-- a value that is only put into another
pub ran-put : {S R A B : Type 0} (meaning : S → Meaning R) (moves : S → Question → S → Type 0) (f : A → B) (p : Program R A) (s : S) (b : B) (t : S) → Ran meaning moves s (bind p (λ a. done (f a))) b t
    → (a : A) × Ran meaning moves s p a t × (b ≡ f a)
ran-put meaning moves f (done a) s b t ran = (a, (refl, ran.1), ran.0)
ran-put meaning moves f (ask q next) s b t (u, moved, ran) =
    let rest = ran-put meaning moves f (next (meaning s [] q)) u b t ran in
    (rest.0, (u, moved, rest.1), rest.2)

pub ran-then : {S R A B : Type 0} (meaning : S → Meaning R) (moves : S → Question → S → Type 0) (f : A → B) (p : Program R A) (s : S) (a : A) (t : S) → Ran meaning moves s p a t
    → Ran meaning moves s (bind p (λ x. done (f x))) (f a) t
ran-then meaning moves f p s a t ran = ran-bind meaning moves p (λ x. done (f x)) s a t (f a) t ran (refl, refl)

-- a run of one program and then another is two runs
pub ran-split : {S R A B : Type 0} (meaning : S → Meaning R) (moves : S → Question → S → Type 0) (p : Program R A) (then : A → Program R B) (s : S) (b : B) (t : S) → Ran meaning moves s (bind p then) b t
    → (a : A) × (u : S) × Ran meaning moves s p a u × Ran meaning moves u (then a) b t
ran-split meaning moves (done a) then s b t ran = (a, s, (refl, refl), ran)
ran-split meaning moves (ask q next) then s b t (v, moved, ran) =
    let rest = ran-split meaning moves (next (meaning s [] q)) then v b t ran in
    (rest.0, rest.1, (v, moved, rest.2), rest.3)
