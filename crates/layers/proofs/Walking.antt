-- The way down as a run on a device: block by block.
use Rattle.std.proofs.Common.{◌≡◌, ℕ, suc, true, false, cond, List, Option, None, Some, Ok, Err, refl, sym, subst}
use Rattle.device.specs.declared.question.Question.{Question}
use Rattle.device.specs.Answer.{Answer}
use Rattle.device.specs.Program.{Program, done, Meaning}
use Rattle.device.specs.Run.{Ran}
use Rattle.device.proofs.Runs.{ran-bind}
use Rattle.layers.specs.declared.fault.StorageFault.{StorageFault}
use Rattle.layers.specs.declared.fault.StorageFault.TheVariants.{Label, NoBlock}
use Rattle.tree.specs.Shape.{levels}
use Rattle.layers.specs.Anchor.{Anchor}
use Rattle.layers.specs.Fault.{data_place}
use Rattle.layers.specs.Verity.{tree_place, next_digest, check_block, go_on, is_block, walk, verity, verity_layer}

module _ {S R : Type 0} (meaning : S → Meaning R) (moves : S → Question → S → Type 0) (a : Anchor) (k j i : ℕ) (next : j ≡ suc i) (n : ℕ) (long : n ≡ a.shape.hash_block) (want : List ℕ) (s t : S) where
  abbrev Checked : Answer (StorageFault R) → Type 0
  Checked answer = Ran meaning moves s (check_block a (tree_place a.shape k i) n want) answer t

  abbrev on : Answer (StorageFault R) → Program R (Answer (StorageFault R))
  on = go_on (λ block. walk a k i (next_digest a k i block))

  module _ (answer x : Answer (StorageFault R)) (u : S) where
    walk_by : Checked answer → Ran meaning moves t (on answer) x u → Ran meaning moves s (walk a k j want) x u
    unfolding walk
    walk_by checked rest =
        subst (λ m. Ran meaning moves s (walk a k m want) x u) (sym next)
        (ran-bind meaning moves (check_block a (tree_place a.shape k i) a.shape.hash_block want) on s answer t x u
        (subst (λ m. Ran meaning moves s (check_block a (tree_place a.shape k i) m want) answer t) long checked) rest)

  -- it ends with a fault
  pub walk-ends : (fault : StorageFault R) → Checked (Err fault) → Ran meaning moves s (walk a k j want) (Err fault) t
  walk-ends fault checked = walk_by (Err fault) (Err fault) t checked (refl, refl)

  -- and goes on with a block, from the next digest
  pub walk-goes : (block : List ℕ) (down : List ℕ) (x : Answer (StorageFault R)) (u : S) → Checked (Ok block) → down ≡ next_digest a k i block → Ran meaning moves t (walk a k i down) x u
      → Ran meaning moves s (walk a k j want) x u
  walk-goes block down x u checked is rest = walk_by (Ok block) x u checked (subst (λ d. Ran meaning moves t (walk a k i d) x u) is rest)

-- below the tree is the data block
pub walk-data : {S R : Type 0} (meaning : S → Meaning R) (moves : S → Question → S → Type 0) (a : Anchor) (k j : ℕ) → j ≡ 0 → (n : ℕ) → n ≡ a.shape.data_block → (want : List ℕ) (s : S) (answer : Answer (StorageFault R)) (t : S)
    → Ran meaning moves s (check_block a (data_place k) n want) answer t → Ran meaning moves s (walk a k j want) answer t
unfolding walk
walk-data meaning moves a k j none n long want s answer t checked =
    subst (λ m. Ran meaning moves s (walk a k m want) answer t) (sym none) (subst (λ m. Ran meaning moves s (check_block a (data_place k) m want) answer t) long checked)

module _ {S R : Type 0} (meaning : S → Meaning R) (moves : S → Question → S → Type 0) (label : Option Anchor) (q : Question) (s : S) where
  -- nothing is asked with a label that was refused
  pub verity-label : label ≡ None → Ran meaning moves s (verity label q) (Err Label) s
  unfolding verity
  verity-label is = subst (λ l. Ran meaning moves s (verity l q) (Err Label) s) (sym is) (refl, refl)

  module _ (a : Anchor) (is : label ≡ Some a) where
    -- nor for a question that is for no data block
    pub verity-no-block : is_block a.shape q ≡ false → Ran meaning moves s (verity label q) (Err (NoBlock q.block)) s
    unfolding verity
    verity-no-block none =
        subst (λ l. Ran meaning moves s (verity l q) (Err (NoBlock q.block)) s) (sym is)
        (subst (λ b. Ran meaning moves s (cond b (walk a q.block (levels a.shape) a.root) (done (Err (NoBlock q.block)))) (Err (NoBlock q.block)) s) (sym none) (refl, refl))

    pub verity-walks : is_block a.shape q ≡ true → (answer : Answer (StorageFault R)) (t : S) → Ran meaning moves s (walk a q.block (levels a.shape) a.root) answer t → Ran meaning moves s (verity label q) answer t
    unfolding verity
    verity-walks there answer t ran =
        subst (λ l. Ran meaning moves s (verity l q) answer t) (sym is)
        (subst (λ b. Ran meaning moves s (cond b (walk a q.block (levels a.shape) a.root) (done (Err (NoBlock q.block)))) answer t) (sym there) ran)

-- the check of a question, with what it leaves of the label
pub verity-ran : {S R : Type 0} (meaning : S → Meaning R) (moves : S → Question → S → Type 0) (label : Option Anchor) (q : Question) (s : S) (answer : Answer (StorageFault R)) (t : S)
    → Ran meaning moves s (verity label q) answer t → Ran meaning moves s (verity_layer label q) (answer, label) t
verity-ran meaning moves label q s answer t ran = ran-bind meaning moves (verity label q) (λ x. done (x, label)) s answer t (answer, label) t ran (refl, refl)
