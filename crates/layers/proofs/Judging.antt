-- The judgement of a question for a data block, and what follows where the device is honest.
use Rattle.std.proofs.Common.{◌≡◌, ℕ, List, [], ◌∷◌, Option, None, Some, IsSome, Ok, Err, refl, sym, ap, ◌∙◌, subst, inl, inr}
use Rattle.std.proofs.lemmas.Bool.{cond-true, false≢true}
use Rattle.device.specs.declared.question.Question.{Question}
use Rattle.device.specs.Answer.{Answer}
use Rattle.device.specs.Program.{Exchange, Somewhere, result, exchanges}
use Rattle.tree.specs.Shape.{levels}
use Rattle.layers.specs.declared.fault.StorageFault.{StorageFault}
use Rattle.layers.specs.declared.fault.StorageFault.TheVariants.{Label, NoBlock, Refused, Mismatch}
use Rattle.layers.specs.Verity.{is_block, walk, verity}
use Rattle.layers.specs.Publisher.{Publisher, anchor_of, right_block, NoTwin, Differs, Honest}
use Rattle.layers.specs.Judged.{IsFor, WasRefused, Judged}
use Rattle.layers.specs.Laws.{AnswersJudged, HonestAccepted}
use Rattle.layers.proofs.Tests.{block-parts}
use Rattle.layers.proofs.Descent.{judged}

pub answers_judged_lem : {R : Type 0} → AnswersJudged R
unfolding verity
answers_judged_lem {R = R} p whole m sized q is =
    let a = anchor_of p in
    let parts = block-parts p.shape q is in
    let way = walk {R = R} a q.block (levels p.shape) a.root in
    let same : verity (Some a) q ≡ way = cond-true (is_block p.shape q) way _ is in
    subst (λ w. Judged p q (result m w) (exchanges m w)) (sym same)
    (subst (λ r. Judged p r (result m way) (exchanges m way)) (sym parts.1) (judged p whole q.block parts.0 m sized))

-- where one answer is given and the publisher's block is another, the device was not honest
pub wrong : {R : Type 0} (p : Publisher) (x : Exchange R) (xs : List (Exchange R)) (right : List ℕ) (answer : Answer R) → Honest p (x ∷ xs) → right_block p x.question ≡ Some right → x.answer ≡ answer → answer ≡ Ok right
wrong p x xs right answer honest published was = sym was ∙ honest.0 right published

pub same_block : {R : Type 0} (a b : List ℕ) → ◌≡◌ {A = Answer R} (Ok a) (Ok b) → a ≡ b
same_block a b e = cc

pub some_of : {A : Type 0} (o : Option A) → IsSome o → (a : A) × (o ≡ Some a)
some_of None is = absurd (false≢true is)
some_of (Some a) is = (a, refl)

-- what an honest device gave is no twin, and nothing of it is wrong
pub no_twin : {R : Type 0} (p : Publisher) (xs : List (Exchange R)) → Honest p xs → NoTwin p xs
no_twin p [] honest = tt
no_twin p (x ∷ xs) honest = (λ twin. twin.unlike (same_block twin.given twin.right (wrong p x xs twin.right (Ok twin.given) honest twin.published twin.answered)), no_twin p xs honest.1)

none_differs : {R : Type 0} (p : Publisher) (P : Exchange R → Type 0) (xs : List (Exchange R)) → Honest p xs → Somewhere (λ x. P x × Differs p x) xs → ⊥
none_differs p P [] honest there = there
none_differs p P (x ∷ xs) honest (inl here) =
    let bad = here.1 in bad.unlike (same_block bad.given bad.right (wrong p x xs bad.right (Ok bad.given) honest bad.published bad.answered))
none_differs p P (x ∷ xs) honest (inr later) = none_differs p P xs honest.1 later

none_refused : {R : Type 0} (p : Publisher) (P : Exchange R → Type 0) (refusal : R) (xs : List (Exchange R)) → Honest p xs → Somewhere (λ x. P x × WasRefused p refusal x) xs → ⊥
none_refused p P refusal [] honest there = there
none_refused {R = R} p P refusal (x ∷ xs) honest (inl here) =
    let right = some_of (right_block p x.question) here.1.0 in
    let e : ◌≡◌ {A = Answer R} (Err refusal) (Ok right.0) = wrong p x xs right.0 (Err refusal) honest right.1 here.1.1 in
    cc
none_refused p P refusal (x ∷ xs) honest (inr later) = none_refused p P refusal xs honest.1 later

right_answer : {R : Type 0} (p : Publisher) (q : Question) (right : List ℕ) → right_block p q ≡ Some right → (answer : Answer (StorageFault R)) (xs : List (Exchange R)) → Honest p xs → Judged p q answer xs → answer ≡ Ok right
right_answer p q right published (Ok block) xs honest judged = let e = judged (no_twin p xs honest) in ap (λ b. Ok b) (let s : block ≡ right = cc in s)
right_answer p q right published (Err (Refused place refusal)) xs honest judged = absurd (none_refused p (IsFor p.shape place) refusal xs honest judged)
right_answer p q right published (Err (Mismatch place)) xs honest judged = absurd (none_differs p (IsFor p.shape place) xs honest (judged (no_twin p xs honest)))
right_answer p q right published (Err Label) xs honest judged = absurd judged
right_answer p q right published (Err (NoBlock block)) xs honest judged = absurd judged

pub honest_accepted_lem : {R : Type 0} → HonestAccepted R
honest_accepted_lem p whole m sized q is honest right published =
    right_answer p q right published _ _ honest (answers_judged_lem p whole m sized q is)
