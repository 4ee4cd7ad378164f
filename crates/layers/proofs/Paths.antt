-- A block is accepted exactly along a path.
use Rattle.std.proofs.Common.{◌≡◌, ℕ, zero, suc, Bool, cond, List, [], ◌∷◌, Ok, Err, refl, sym, ap, ap₂, ◌∙◌, subst, bytes_eq}
use Rattle.std.proofs.lemmas.Slice.Eq.{bytes_eq-Decides}
use Rattle.device.specs.declared.question.Question.{Question}
use Rattle.device.specs.Answer.{Answer}
use Rattle.device.specs.Program.{Program, Meaning, Exchange, after, result, exchanges}
use Rattle.layers.specs.declared.fault.Place.{Place}
use Rattle.layers.specs.declared.fault.StorageFault.{StorageFault}
use Rattle.layers.specs.declared.fault.StorageFault.TheVariants.{Refused, Mismatch}
use Rattle.layers.specs.Anchor.{Anchor}
use Rattle.layers.specs.Fault.{data_place}
use Rattle.layers.specs.Verity.{tree_place, next_digest, checked, go_on, walk}
use Rattle.layers.specs.Path.{data_question, tree_question, given, GivenDown, IsPath}
use Rattle.layers.proofs.Tests.{tested}
use Rattle.layers.proofs.Descent.{further, at}

abbrev pub UpperOf : Type 0 → Type 0
UpperOf R = Answer (StorageFault R)

-- two lists of exchanges that begin with an answer
first_answer : {R : Type 0} (q : Question) (answer : Answer R) (b : List ℕ) (xs ys : List (Exchange R)) → at q answer ∷ xs ≡ given q b ∷ ys → (answer ≡ Ok b) × (xs ≡ ys)
first_answer {R = R} q answer b xs ys same =
    let first : at {R = R} q answer ≡ given q b = cc in
    (ap (λ x. x.answer) first, cc)

module _ {R : Type 0} (a : Anchor) where
  -- a block is accepted exactly where it was given and has the digest
  pub accepted : (place : Place) (want bytes : List ℕ) (answer : Answer R) → checked a place want answer ≡ Ok bytes → (answer ≡ Ok bytes) × (a.salted bytes ≡ want)
  accepted place want bytes (Err refusal) is =
      let fault : UpperOf R = Err (Refused place refusal) in
      let good : UpperOf R = Ok bytes in
      let e : fault ≡ good = is in cc
  accepted place want bytes (Ok block) is =
      let good : UpperOf R = Ok block in
      let fault : UpperOf R = Err (Mismatch place) in
      let wanted : UpperOf R = Ok bytes in
      let Both : Type 0 = (block ≡ bytes) × (a.salted block ≡ want) in
      let P : Bool → Type 0 = λ b. cond b good fault ≡ wanted → Both in
      let both : Both = tested (bytes_eq (a.salted block) want) P
      (λ t same. let e : good ≡ wanted = same in (cc, (bytes_eq-Decides (a.salted block) want).0 t))
      (λ t same. let e : fault ≡ wanted = same in cc) is in
      (ap (λ xs. Ok xs) both.0, subst (λ xs. a.salted xs ≡ want) both.0 both.1)

  pub accepts : (place : Place) (want bytes : List ℕ) (answer : Answer R) → answer ≡ Ok bytes → a.salted bytes ≡ want → checked a place want answer ≡ Ok bytes
  accepts place want bytes answer was same =
      ap (checked a place want) was ∙ ap (λ b. cond b (Ok bytes) (Err (Mismatch place))) ((bytes_eq-Decides (a.salted bytes) want).1 same)

  -- with a fault the way down ends, and so it went on with a block
  went_on : (next : List ℕ → Program R (UpperOf R)) (m : Meaning R) (bytes : List ℕ) (answer : UpperOf R) → result m (go_on next answer) ≡ Ok bytes → (block : List ℕ) × (answer ≡ Ok block)
  went_on next m bytes (Ok block) is = (block, refl)
  went_on next m bytes (Err fault) is =
      let bad : UpperOf R = Err fault in
      let good : UpperOf R = Ok bytes in
      let e : bad ≡ good = is in cc

  module _ (k : ℕ) where
    pub along : (i : ℕ) (want bytes : List ℕ) (m : Meaning R) → result m (walk a k i want) ≡ Ok bytes → IsPath a k i want bytes (exchanges m (walk a k i want))
    unfolding walk
    along zero want bytes m is =
        let q = data_question a.shape k in
        let good = accepted (data_place k) want bytes (m [] q) is in
        ([], ap (λ answer. at q answer ∷ []) good.0, good.1)
    along (suc i) want bytes m is =
        let q = tree_question a.shape k i in
        let place = tree_place a.shape k i in
        let rest = after m (q ∷ []) in
        let found = went_on (further a k i) rest bytes (checked a place want (m [] q)) is in
        let b = found.0 in
        let good = accepted place want b (m [] q) found.1 in
        let same : go_on (further a k i) (checked a place want (m [] q)) ≡ further a k i b = ap (go_on (further a k i)) found.1 in
        let below = along i (next_digest a k i b) bytes rest (ap (result rest) (sym same) ∙ is) in
        let blocks = below.0 in (
          b ∷ blocks,
          (exchanges rest (further a k i b), ap₂ (λ answer p. at q answer ∷ exchanges rest p) good.0 same, below.1),
          (good.1, below.2),
        )

    pub back : (i : ℕ) (want bytes : List ℕ) (m : Meaning R) → IsPath a k i want bytes (exchanges m (walk a k i want)) → result m (walk a k i want) ≡ Ok bytes
    unfolding walk
    back zero want bytes m ([], down, leads) =
        let q = data_question a.shape k in
        accepts (data_place k) want bytes (m [] q) (first_answer q (m [] q) bytes [] [] down).0 leads
    back zero want bytes m (b ∷ bs, down, leads) = absurd down
    back (suc i) want bytes m ([], down, leads) = absurd down
    back (suc i) want bytes m (b ∷ bs, (xs, same, down), leads) =
        let q = tree_question a.shape k i in
        let place = tree_place a.shape k i in
        let rest = after m (q ∷ []) in
        let first = first_answer q (m [] q) b (exchanges rest (go_on (further a k i) (checked a place want (m [] q)))) xs same in
        let on : go_on (further a k i) (checked a place want (m [] q)) ≡ further a k i b = ap (go_on (further a k i)) (accepts place want b (m [] q) first.0 leads.0) in
        let here : xs ≡ exchanges rest (further a k i b) = sym first.1 ∙ ap (exchanges rest) on in
        ap (result rest) on
        ∙ back i (next_digest a k i b) bytes rest (bs, subst (λ ys. GivenDown a.shape k i bs bytes ys) here down, leads.1)
