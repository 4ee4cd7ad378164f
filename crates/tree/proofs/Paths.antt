-- Following the slots from the root leads to every data block.
use Rattle.std.proofs.Common.{ℕ, zero, suc, ◌/◌, ◌^◌, ◌<◌, List, sym, refl, ap, ◌∙◌, subst, div-one}
use native.Mathlib.Nat.{pow-zero}
use Rattle.tree.specs.Shape.{Shape, fanout, levels}
use Rattle.tree.specs.Tree.{node, root}
use Rattle.tree.specs.Path.{Leads, above}
use Rattle.tree.specs.Laws.{Sound, PathsStand}
use Rattle.tree.proofs.Slots.{held_above}
use Rattle.tree.proofs.Widths.{top_of}

module _ (h : List ℕ → List ℕ) (s : Shape) (size : ℕ) (sound : Sound h s size) (image : List ℕ) (k : ℕ) (inside : k < s.blocks) where
  leads : (i : ℕ) → Leads h s size k i (h (node h s image i (k / fanout s ^ i))) (above h s image k i) (node h s image 0 k)
  unfolding above
  leads zero = ap (λ j. h (node h s image 0 j)) (sym (ap (λ p. k / p) (pow-zero (fanout s)) ∙ div-one k))
  leads (suc i) = (
    refl,
    subst (λ d. Leads h s size k i d (above h s image k i) (node h s image 0 k)) (sym (held_above h s size sound image i k inside)) (leads i),
  )

pub paths_stand_lem : PathsStand
unfolding root
paths_stand_lem h s size sound image k inside =
    subst (λ j. Leads h s size k (levels s) (h (node h s image (levels s) j)) (above h s image k (levels s)) (node h s image 0 k))
    (top_of s k sound.wide inside) (leads h s size sound image k inside (levels s))
