-- Programs of questions to a store of the publisher's blocks: what holds at their end, if each answer is the publisher's block
-- or one fault, after which nothing is asked.
use Rattle.std.proofs.Common.{◌≡◌, ℕ, true, List, Option, None, Some, Ok, Err}
use Rattle.device.specs.Program.{Program, done, ask, bind}
use Rattle.layers.specs.declared.fault.StorageFault.{StorageFault}
use Rattle.layers.specs.Verity.{is_block}
use Rattle.layers.specs.Publisher.{Publisher, right_block}

-- what is to hold of a program's value, and of the fault that it saw
abbrev pub Post : Type 0 → Type 0 → Type 1
Post R A = A → Option (StorageFault R) → Type 0

abbrev pub Fair : {R A : Type 0} → Publisher → Program (StorageFault R) A → Option (StorageFault R) → Post R A → Type 0
Fair p (done a) seen post = post a seen
Fair p (ask q next) None post =
    (is_block p.shape q ≡ true) × ((block : List ℕ) → right_block p q ≡ Some block → Fair p (next (Ok block)) None post)
    × ((fault : StorageFault _) → Fair p (next (Err fault)) (Some fault) post)
Fair p (ask q next) (Some fault) post = ⊥

module _ {R A : Type 0} (p : Publisher) where
  pub fair-more : (program : Program (StorageFault R) A) (seen : Option (StorageFault R)) (P Q : Post R A) → ((a : A) (s : Option (StorageFault R)) → P a s → Q a s) → Fair p program seen P → Fair p program seen Q
  fair-more (done a) seen P Q on fair = on a seen fair
  fair-more (ask q next) None P Q on fair = (
    fair.0,
    λ block right. fair-more (next (Ok block)) None P Q on (fair.1 block right),
    λ fault. fair-more (next (Err fault)) (Some fault) P Q on (fair.2 fault),
  )
  fair-more (ask q next) (Some fault) P Q on fair = absurd fair

  pub fair-bind : {B : Type 0} (program : Program (StorageFault R) A) (seen : Option (StorageFault R)) (then : A → Program (StorageFault R) B) (P : Post R B)
      → Fair p program seen (λ a s. Fair p (then a) s P) → Fair p (bind program then) seen P
  fair-bind (done a) seen then P fair = fair
  fair-bind (ask q next) None then P fair = (
    fair.0,
    λ block right. fair-bind (next (Ok block)) None then P (fair.1 block right),
    λ fault. fair-bind (next (Err fault)) (Some fault) then P (fair.2 fault),
  )
  fair-bind (ask q next) (Some fault) then P fair = absurd fair
