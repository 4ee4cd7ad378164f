-- Whether a twin was given.
use Rattle.std.proofs.Common.{◌≡◌, ◌≢◌, ◌⊎◌, ℕ, true, List, [], ◌∷◌, length, Option, None, Some, Result, Ok, Err, refl, sym, ◌∙◌, subst, inl, inr, bytes_eq}
use Rattle.std.proofs.lemmas.Bool.{cases_eq}
use Rattle.std.proofs.lemmas.Slice.Eq.{bytes_eq-Decides}
use Rattle.device.specs.Program.{Exchange, Somewhere}
use Rattle.layers.specs.Publisher.{Publisher, Twin, NoTwin, right_block}
use Rattle.layers.proofs.Tests.{tested}

-- two lists of bytes are equal or not
same_or_not : (a b : List ℕ) → (a ≡ b) ⊎ (a ≢ b)
same_or_not a b =
    tested (bytes_eq a b) (λ c. (a ≡ b) ⊎ (a ≢ b)) (λ is. inl ((bytes_eq-Decides a b).0 is)) (λ is. inr (λ e. let no : bytes_eq a b ≡ true = (bytes_eq-Decides a b).1 e in cc))

module _ {R : Type 0} (p : Publisher) (x : Exchange R) where
  is_twin : (given right : List ℕ) → x.answer ≡ Ok given → right_block p x.question ≡ Some right → Twin p x ⊎ (Twin p x → ⊥)
  is_twin given right answered published =
      -- what a twin would hold is what is told here
      let given_is : (t : Twin p x) → t.given ≡ given = λ t. let same : ◌≡◌ {A = Result (List ℕ) R} (Ok t.given) (Ok given) = sym t.answered ∙ answered in cc in
      let right_is : (t : Twin p x) → t.right ≡ right = λ t. let same : Some t.right ≡ Some right = sym t.published ∙ published in cc in
      elim (same_or_not given right) [
        | inl same ↦ inr (λ t. t.unlike (given_is t ∙ same ∙ sym (right_is t)))
        | inr unlike ↦ elim (cases_eq (length given) (length right)) [
          | inr short ↦ inr (λ t. short (subst (λ g. length g ≡ length right) (given_is t) (subst (λ r. length t.given ≡ length r) (right_is t) t.long)))
          | inl long ↦ elim (same_or_not (p.salted given) (p.salted right)) [
            | inl same ↦ inl (record { given = given; right = right; answered = answered; published = published; unlike = unlike; long = long; same = same })
            | inr other ↦ inr (λ t. other (subst (λ g. p.salted g ≡ p.salted right) (given_is t) (subst (λ r. p.salted t.given ≡ p.salted r) (right_is t) t.same)))
          ]
        ]
      ]

  by_answer : (answer : Result (List ℕ) R) → x.answer ≡ answer → (right : Option (List ℕ)) → right_block p x.question ≡ right → Twin p x ⊎ (Twin p x → ⊥)
  by_answer (Err refusal) was right is = inr (λ t. let no : ◌≡◌ {A = Result (List ℕ) R} (Err refusal) (Ok t.given) = sym was ∙ t.answered in cc)
  by_answer (Ok given) was None is = inr (λ t. let no : ◌≡◌ {A = Option (List ℕ)} None (Some t.right) = sym is ∙ t.published in cc)
  by_answer (Ok given) was (Some right) is = is_twin given right was is

  twin_or_not : Twin p x ⊎ (Twin p x → ⊥)
  twin_or_not = by_answer x.answer refl (right_block p x.question) refl

-- of some exchanges one is a twin, or none is
pub twin_or_none : {R : Type 0} (p : Publisher) (xs : List (Exchange R)) → Somewhere (Twin p) xs ⊎ NoTwin p xs
twin_or_none p [] = inr tt
twin_or_none p (x ∷ xs) =
    elim (twin_or_not p x) [
      | inl here ↦ inl (inl here)
      | inr not_here ↦ elim (twin_or_none p xs) [ inl later ↦ inl (inr later) | inr none ↦ inr (not_here, none) ]
    ]
