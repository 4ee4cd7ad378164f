-- Going down a path: what each way to end is worth.
use Rattle.std.proofs.Common.{◌≡◌, ℕ, zero, suc, ◌/◌, ◌%◌, ◌^◌, ◌<◌, ◌≤◌, Bool, true, false, cond, List, [], ◌∷◌, length, Some, Ok, Err, refl, sym, ap, ◌∙◌, inl, inr, arith, bytes_eq, div-one}
use Rattle.std.proofs.lemmas.Slice.Eq.{bytes_eq-Decides}
use Rattle.device.specs.declared.question.Question.{Question}
use Rattle.device.specs.Answer.{Answer}
use Rattle.device.specs.Program.{Program, Meaning, Exchange, Somewhere, after, result, exchanges, Fits, Sized}
use Rattle.tree.specs.Shape.{Shape, fanout, levels}
use Rattle.tree.specs.Tree.{node}
use Rattle.tree.specs.Path.{held}
use Rattle.tree.specs.Tree.{root}
use Rattle.tree.proofs.Slots.{held_above, length-node}
use Rattle.tree.proofs.Widths.{top_of}
use Rattle.layers.specs.declared.fault.Place.{Place}
use Rattle.layers.specs.declared.fault.StorageFault.{StorageFault}
use Rattle.layers.specs.declared.fault.StorageFault.TheVariants.{Label, NoBlock, Refused, Mismatch}
use Rattle.layers.specs.Anchor.{Anchor}
use Rattle.layers.specs.Fault.{data_place, Lies}
use Rattle.layers.specs.Verity.{tree_place, next_digest, checked, go_on, walk}
use Rattle.layers.specs.Path.{data_question, tree_question}
use Rattle.layers.specs.Publisher.{Publisher, Whole, anchor_of, right_block, Differs, NoTwin}
use Rattle.layers.specs.Judged.{IsFor, WasRefused, Judged}
use Rattle.layers.proofs.Tests.{tested}
use Rattle.layers.proofs.Blocks.{tree-lies, right_data, right_tree, length-data}
use native.Mathlib.Nat.{pow-zero}

-- what holds of an answer whatever was given
abbrev Named : {R : Type 0} → Publisher → Answer (StorageFault R) → List (Exchange R) → Type 0
Named p (Ok block) xs = Unit {0}
Named p (Err (Refused place refusal)) xs = Somewhere (λ x. IsFor p.shape place x × WasRefused p refusal x) xs
Named p (Err (Mismatch place)) xs = Unit {0}
Named p (Err Label) xs = ⊥
Named p (Err (NoBlock block)) xs = ⊥

-- and where no twin was given
abbrev Good : {R : Type 0} → Publisher → Question → Answer (StorageFault R) → List (Exchange R) → Type 0
Good p q (Ok block) xs = right_block p q ≡ Some block
Good p q (Err (Refused place refusal)) xs = Unit {0}
Good p q (Err (Mismatch place)) xs = Somewhere (λ x. IsFor p.shape place x × Differs p x) xs
Good p q (Err Label) xs = Unit {0}
Good p q (Err (NoBlock block)) xs = Unit {0}

judged_by : {R : Type 0} (p : Publisher) (q : Question) (answer : Answer (StorageFault R)) (xs : List (Exchange R)) → Named p answer xs → (NoTwin p xs → Good p q answer xs) → Judged p q answer xs
judged_by p q (Ok block) xs named good = good
judged_by p q (Err (Refused place refusal)) xs named good = named
judged_by p q (Err (Mismatch place)) xs named good = good
judged_by p q (Err Label) xs named good = named
judged_by p q (Err (NoBlock block)) xs named good = named

named_later : {R : Type 0} (p : Publisher) (answer : Answer (StorageFault R)) (x : Exchange R) (xs : List (Exchange R)) → Named p answer xs → Named p answer (x ∷ xs)
named_later p (Ok block) x xs named = tt
named_later p (Err (Refused place refusal)) x xs named = inr named
named_later p (Err (Mismatch place)) x xs named = tt
named_later p (Err Label) x xs named = named
named_later p (Err (NoBlock block)) x xs named = named

good_later : {R : Type 0} (p : Publisher) (q : Question) (answer : Answer (StorageFault R)) (x : Exchange R) (xs : List (Exchange R)) → Good p q answer xs → Good p q answer (x ∷ xs)
good_later p q (Ok block) x xs good = good
good_later p q (Err (Refused place refusal)) x xs good = tt
good_later p q (Err (Mismatch place)) x xs good = inr good
good_later p q (Err Label) x xs good = tt
good_later p q (Err (NoBlock block)) x xs good = tt

-- the rest of the way down from the block of level i
abbrev pub further : {R : Type 0} → Anchor → ℕ → ℕ → List ℕ → Program R (Answer (StorageFault R))
further a k i block = walk a k i (next_digest a k i block)

abbrev pub at : {R : Type 0} → Question → Answer R → Exchange R
at q answer = record { question = q; answer = answer }

module _ (p : Publisher) (whole : Whole p) (k : ℕ) (there : k < p.shape.blocks) where
  abbrev s : Shape
  s = p.shape

  abbrev h : List ℕ → List ℕ
  h = p.salted

  abbrev a : Anchor
  a = anchor_of p

  -- the block i steps above data block k
  abbrev above : ℕ → List ℕ
  above i = node h s p.image i (k / fanout s ^ i)

  lies : (i : ℕ) → i < levels s → Lies s (tree_place s k i)
  lies i low = tree-lies s (omega (arith, whole.sound.wide)) k i there low

  module _ {R : Type 0} where
    named_data : (want : List ℕ) (answer : Answer R) → Named p (checked a (data_place k) want answer) (at (data_question s k) answer ∷ [])
    named_data want (Err refusal) = inl ((refl, refl, there), (rw (right_data p whole k there) refl, refl))
    named_data want (Ok block) =
        tested (bytes_eq (h block) want) (λ b. Named p (cond b (Ok block) (Err (Mismatch (data_place k)))) (at {R = R} (data_question s k) (Ok block) ∷ [])) (λ is. tt) (λ is. tt)

    module _ (i : ℕ) (low : i < levels s) (want : List ℕ) (m : Meaning R) where
      abbrev q : Question
      q = tree_question s k i

      abbrev rest : Answer R → Program R (Answer (StorageFault R))
      rest answer = go_on (further a k i) (checked a (tree_place s k i) want answer)

      named_tree : ((block : List ℕ) → Named p (result m (further a k i block)) (exchanges m (further a k i block))) → (answer : Answer R)
          → Named p (result m (rest answer)) (at q answer ∷ exchanges m (rest answer))
      named_tree below (Err refusal) = inl ((refl, refl, lies i low), (rw (right_tree p whole k there i low) refl, refl))
      named_tree below (Ok block) =
          let P : Bool → Type 0 = λ b. let then = go_on (further a k i) (cond b (Ok block) (Err (Mismatch (tree_place s k i)))) in Named p (result m then) (at {R = R} q (Ok block) ∷ exchanges m then) in
          tested (bytes_eq (h block) want) P (λ is. named_later p (result m (further a k i block)) (at {R = R} q (Ok block)) (exchanges m (further a k i block)) (below block)) (λ is. tt)

    pub named : (i : ℕ) → i ≤ levels s → (want : List ℕ) (m : Meaning R) → Named p (result m (walk a k i want)) (exchanges m (walk a k i want))
    unfolding walk
    named zero low want m = named_data want (m [] (data_question s k))
    named (suc i) low want m =
        let q = tree_question s k i in
        named_tree i low want (after m (q ∷ [])) (λ block. named i (omega arith) (next_digest a k i block) (after m (q ∷ []))) (m [] q)

    -- a wrong block with the right digest is a twin
    twin : (asked : Question) (block node_there : List ℕ) → Fits {R = R} asked (Ok block) → right_block p asked ≡ Some node_there → length node_there ≡ asked.length → h block ≡ h node_there
        → NoTwin p (at {R = R} asked (Ok block) ∷ []) → block ≡ node_there
    twin asked block node_there fits published long same none =
        tested (bytes_eq block node_there) (λ b. block ≡ node_there) (λ is. (bytes_eq-Decides block node_there).0 is)
        (λ is. absurd
        (none.0 record {
          given = block;
          right = node_there;
          answered = refl;
          published = published;
          unlike = λ e. let is' : bytes_eq block node_there ≡ true = (bytes_eq-Decides block node_there).1 e in cc;
          long = fits ∙ sym long;
          same = same;
        }))

    -- a block with another digest than the publisher's is not the publisher's
    differs : (asked : Question) (place : Place) (block node_there want : List ℕ) → IsFor p.shape place (at {R = R} asked (Ok block)) → right_block p asked ≡ Some node_there → want ≡ h node_there → bytes_eq (h block) want ≡ false
        → IsFor p.shape place (at {R = R} asked (Ok block)) × Differs p (at {R = R} asked (Ok block))
    differs asked place block node_there want is_for published wanted other = (
      is_for,
      record {
        given = block;
        right = node_there;
        answered = refl;
        published = published;
        unlike = λ e. let is : bytes_eq (h block) want ≡ true = (bytes_eq-Decides (h block) want).1 (ap h e ∙ sym wanted) in cc;
      },
    )

    good_data : (want : List ℕ) → want ≡ h (node h s p.image 0 k) → (answer : Answer R) → Fits (data_question s k) answer → NoTwin p (at (data_question s k) answer ∷ [])
        → Good p (data_question s k) (checked a (data_place k) want answer) (at (data_question s k) answer ∷ [])
    good_data want wanted (Err refusal) fits none = tt
    good_data want wanted (Ok block) fits none =
        let q = data_question s k in
        let published = right_data p whole k there in
        tested (bytes_eq (h block) want) (λ b. Good p q (cond b (Ok block) (Err (Mismatch (data_place k)))) (at {R = R} q (Ok block) ∷ []))
        (λ is.
        let same : h block ≡ h (node h s p.image 0 k) = (bytes_eq-Decides (h block) want).0 is ∙ wanted in
        published ∙ ap Some (sym (twin q block (node h s p.image 0 k) fits published (length-data p whole k there) same none)))
        (λ is. inl (differs q (data_place k) block (node h s p.image 0 k) want (refl, refl, there) published wanted is))

    module _ (i : ℕ) (low : i < levels s) (want : List ℕ) (wanted : want ≡ h (above (suc i))) (m : Meaning R) where
      good_tree : ((block : List ℕ) → block ≡ above (suc i) → NoTwin p (exchanges m (further a k i block)) → Good p (data_question s k) (result m (further a k i block)) (exchanges m (further a k i block)))
          → (answer : Answer R) → Fits (tree_question s k i) answer → NoTwin p (at (tree_question s k i) answer ∷ exchanges m (rest i low want m answer))
          → Good p (data_question s k) (result m (rest i low want m answer)) (at (tree_question s k i) answer ∷ exchanges m (rest i low want m answer))
      good_tree below (Err refusal) fits none = tt
      good_tree below (Ok block) fits none =
          let asked = tree_question s k i in
          let place = tree_place s k i in
          let published = right_tree p whole k there i low in
          let then : Bool → Program R (Answer (StorageFault R)) = λ b. go_on (further a k i) (cond b (Ok block) (Err (Mismatch place))) in
          let P : Bool → Type 0 = λ b. NoTwin p (at {R = R} asked (Ok block) ∷ exchanges m (then b)) → Good p (data_question s k) (result m (then b)) (at {R = R} asked (Ok block) ∷ exchanges m (then b)) in
          tested (bytes_eq (h block) want) P
          (λ is fine.
          let same : h block ≡ h (above (suc i)) = (bytes_eq-Decides (h block) want).0 is ∙ wanted in
          let right = twin asked block (above (suc i)) fits published (length-node h s p.size whole.sound p.image i (k / fanout s ^ suc i)) same (fine.0, tt) in
          good_later p (data_question s k) (result m (further a k i block)) (at {R = R} asked (Ok block)) (exchanges m (further a k i block)) (below block right fine.1))
          (λ is fine. inl (differs asked place block (above (suc i)) want (refl, refl, lies i low) published wanted is))
          none

    good : (i : ℕ) → i ≤ levels s → (want : List ℕ) → want ≡ h (above i) → (m : Meaning R) → Sized m → NoTwin p (exchanges m (walk a k i want))
        → Good p (data_question s k) (result m (walk a k i want)) (exchanges m (walk a k i want))
    unfolding walk
    good zero low want wanted m sized none =
        let q = data_question s k in
        let here : k / fanout s ^ 0 ≡ k = ap (λ n. k / n) (pow-zero (fanout s)) ∙ div-one k in
        good_data want (wanted ∙ ap (λ j. h (node h s p.image 0 j)) here) (m [] q) (sized [] q) none
    good (suc i) low want wanted m sized none =
        let q = tree_question s k i in
        let m' = after m (q ∷ []) in
        good_tree i low want wanted m'
        (λ block is none'.
        good i (omega arith) (next_digest a k i block)
        (ap (λ xs. held s p.size xs (k / fanout s ^ i % fanout s)) is ∙ held_above h s p.size whole.sound p.image i k there) m' (λ more. sized (q ∷ more)) none')
        (m [] q) (sized [] q) none

    -- from the label's root down
    pub judged : (m : Meaning R) → Sized m → Judged p (data_question s k) (result m (walk a k (levels s) a.root)) (exchanges m (walk a k (levels s) a.root))
    unfolding root
    judged m sized =
        let n = levels s in
        let low : n ≤ n = omega arith in
        let wanted : a.root ≡ h (above n) = ap (λ j. h (node h s p.image n j)) (sym (top_of s k whole.sound.wide there)) in
        judged_by p (data_question s k) (result m (walk a k n a.root)) (exchanges m (walk a k n a.root)) (named n low a.root m) (good n low a.root wanted m sized)
