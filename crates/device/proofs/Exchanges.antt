-- The questions and exchanges of a program: one program and then another, and along a run.
use Rattle.std.proofs.Common.{◌≡◌, List, [], ◌∷◌, ◌++◌, map, ap, refl, sym, subst}
use Rattle.device.specs.declared.question.Question.{Question}
use Rattle.device.specs.Answer.{Answer}
use Rattle.device.specs.Program.{Program, done, ask, bind, Meaning, Exchange, Sized, after, result, asked, exchanges}
use Rattle.device.specs.Run.{Ran, Along}
use Rattle.device.proofs.Runs.{Onward, result-bind}

abbrev pub at : {R : Type 0} → Question → Answer R → Exchange R
at q answer = record { question = q; answer = answer }

-- what is left of a meaning has answers of the right size
pub sized-after : {R : Type 0} (m : Meaning R) (qs : List Question) → Sized m → Sized (after m qs)
sized-after m qs sized more q = sized (qs ++ more) q

module _ {R A : Type 0} where
  pub exchanges-bind : {B : Type 0} (p : Program R A) (then : A → Program R B) (m : Meaning R) → exchanges m (bind p then) ≡ exchanges m p ++ exchanges (after m (asked m p)) (then (result m p))
  exchanges-bind (done a) then m = refl
  exchanges-bind (ask q next) then m = ap (λ xs. at q (m [] q) ∷ xs) (exchanges-bind (next (m [] q)) then (after m (q ∷ [])))

  pub asked-bind : {B : Type 0} (p : Program R A) (then : A → Program R B) (m : Meaning R) → asked m (bind p then) ≡ asked m p ++ asked (after m (asked m p)) (then (result m p))
  asked-bind (done a) then m = refl
  asked-bind (ask q next) then m = ap (λ qs. q ∷ qs) (asked-bind (next (m [] q)) then (after m (q ∷ [])))

  -- the questions of the exchanges are those that are asked
  pub questions-asked : (p : Program R A) (m : Meaning R) → map (λ x. x.question) (exchanges m p) ≡ asked m p
  questions-asked (done a) m = refl
  questions-asked (ask q next) m = ap (λ qs. q ∷ qs) (questions-asked (next (m [] q)) (after m (q ∷ [])))

  -- a run goes along its questions
  pub ran-along : {S : Type 0} (meaning : S → Meaning R) (moves : S → Question → S → Type 0) → Onward meaning moves → (p : Program R A) (s : S) (a : A) (t : S) → Ran meaning moves s p a t
      → Along moves s (asked (meaning s) p) t
  ran-along meaning moves onward (done b) s a t ran = ran.1
  ran-along meaning moves onward (ask q next) s a t (u, moved, ran) =
      (u, moved, subst (λ m. Along moves u (asked m (next (meaning s [] q))) t) (onward s u q moved) (ran-along meaning moves onward (next (meaning s [] q)) u a t ran))

-- and then along more
pub along-more : {S : Type 0} (moves : S → Question → S → Type 0) (qs rs : List Question) (s t u : S) → Along moves s qs t → Along moves t rs u → Along moves s (qs ++ rs) u
along-more moves [] rs s t u first second = subst (λ v. Along moves v rs u) first second
along-more moves (q ∷ qs) rs s t u (v, moved, first) second = (v, moved, along-more moves qs rs v t u first second)

-- a value that is only put into another
module _ {R A B : Type 0} (f : A → B) where
  pub exchanges-put : (p : Program R A) (m : Meaning R) → exchanges m (bind p (λ a. done (f a))) ≡ exchanges m p
  exchanges-put (done a) m = refl
  exchanges-put (ask q next) m = ap (λ xs. at q (m [] q) ∷ xs) (exchanges-put (next (m [] q)) (after m (q ∷ [])))

  pub asked-put : (p : Program R A) (m : Meaning R) → asked m (bind p (λ a. done (f a))) ≡ asked m p
  asked-put (done a) m = refl
  asked-put (ask q next) m = ap (λ qs. q ∷ qs) (asked-put (next (m [] q)) (after m (q ∷ [])))

  pub result-put : (p : Program R A) (m : Meaning R) → result m (bind p (λ a. done (f a))) ≡ f (result m p)
  result-put (done a) m = refl
  result-put (ask q next) m = result-put (next (m [] q)) (after m (q ∷ []))

-- what holds of a program's value and exchanges, by those of its parts
module _ {R A B : Type 0} (P : B → List (Exchange R) → Type 0) (p : Program R A) where
  pub of-bind : (then : A → Program R B) (m : Meaning R)
      → (let left = after m (asked m p) in P (result left (then (result m p))) (exchanges m p ++ exchanges left (then (result m p)))) → P (result m (bind p then)) (exchanges m (bind p then))
  of-bind then m h =
      let left = after m (asked m p) in
      subst (λ b. P b (exchanges m (bind p then))) (sym (result-bind p then m)) (subst (P (result left (then (result m p)))) (sym (exchanges-bind p then m)) h)

  pub of-put : (f : A → B) (m : Meaning R) → P (f (result m p)) (exchanges m p) → P (result m (bind p (λ a. done (f a)))) (exchanges m (bind p (λ a. done (f a))))
  of-put f m h = subst (λ b. P b (exchanges m (bind p (λ a. done (f a))))) (sym (result-put f p m)) (subst (P (f (result m p))) (sym (exchanges-put f p m)) h)
