-- What the path check gives has as many bytes as were asked for.
use Rattle.std.proofs.Common.{◌≡◌, ℕ, zero, suc, Bool, cond, List, [], ◌∷◌, length, Option, None, Some, Ok, Err, IfOk, sym, subst, bytes_eq}
use Rattle.device.specs.declared.question.Question.{Question}
use Rattle.device.specs.Answer.{Answer}
use Rattle.device.specs.Program.{Meaning, Fits, Sized, after, result, done}
use Rattle.device.proofs.Runs.{result-bind}
use Rattle.tree.specs.Shape.{levels}
use Rattle.layers.specs.declared.fault.Place.{Place}
use Rattle.layers.specs.declared.fault.StorageFault.{StorageFault}
use Rattle.layers.specs.declared.fault.StorageFault.TheVariants.{Mismatch, NoBlock}
use Rattle.layers.specs.Anchor.{Anchor}
use Rattle.layers.specs.Fault.{data_place}
use Rattle.layers.specs.Verity.{tree_place, question_at, next_digest, checked, go_on, walk, is_block, verity, verity_layer}
use Rattle.layers.specs.Path.{data_question, tree_question}
use Rattle.layers.proofs.Tests.{tested, block-parts}

module _ {R : Type 0} (a : Anchor) where
  checked_long : (place : Place) (want : List ℕ) (n : ℕ) (answer : Answer R) → Fits (question_at place n) answer → IfOk (checked a place want answer) (λ block. length block ≡ n)
  checked_long place want n (Err refusal) fits = tt
  checked_long place want n (Ok block) fits =
      tested (bytes_eq (a.salted block) want) (λ b. IfOk (cond {A = Answer (StorageFault R)} b (Ok block) (Err (Mismatch place))) (λ xs. length xs ≡ n)) (λ is. fits) (λ is. tt)

  module _ (k : ℕ) where
    go_on_long : (i : ℕ) (m : Meaning R) → ((block : List ℕ) → IfOk (result m (walk a k i (next_digest a k i block))) (λ xs. length xs ≡ a.shape.data_block)) → (answer : Answer (StorageFault R))
        → IfOk (result m (go_on (λ block. walk a k i (next_digest a k i block)) answer)) (λ xs. length xs ≡ a.shape.data_block)
    go_on_long i m below (Err fault) = tt
    go_on_long i m below (Ok block) = below block

    walk-long : (i : ℕ) (want : List ℕ) (m : Meaning R) → Sized m → IfOk (result m (walk a k i want)) (λ xs. length xs ≡ a.shape.data_block)
    unfolding walk
    walk-long zero want m sized = checked_long (data_place k) want a.shape.data_block (m [] (data_question a.shape k)) (sized [] (data_question a.shape k))
    walk-long (suc i) want m sized =
        let q = tree_question a.shape k i in
        go_on_long i (after m (q ∷ [])) (λ block. walk-long i (next_digest a k i block) (after m (q ∷ [])) (λ more. sized (q ∷ more))) (checked a (tree_place a.shape k i) want (m [] q))

pub verity-fits : {R : Type 0} (label : Option Anchor) (q : Question) (m : Meaning R) → Sized m → Fits q (result m (verity label q))
unfolding verity
verity-fits None q m sized = tt
verity-fits {R = R} (Some a) q m sized =
    let P : Bool → Type 0 = λ b. Fits q (result m (cond b (walk {R = R} a q.block (levels a.shape) a.root) (done (Err (NoBlock q.block))))) in
    tested (is_block a.shape q) P
    (λ is. subst (λ r. Fits r (result m (walk {R = R} a q.block (levels a.shape) a.root))) (sym (block-parts a.shape q is).1) (walk-long a q.block (levels a.shape) a.root m sized))
    (λ is. tt)

-- and so of it as a layer, which keeps what the label tells
pub verity_layer-fits : {R : Type 0} (m : Meaning R) → Sized m → (label : Option Anchor) → Unit {0} → (q : Question)
    → Fits q (result m (verity_layer label q)).0 × Unit {0}
verity_layer-fits {R = R} m sized label kept q =
    (subst (λ (r : Answer (StorageFault R) × Option Anchor). Fits q r.0) (sym (result-bind (verity label q) (λ answer. done (answer, label)) m)) (verity-fits label q m sized), tt)
