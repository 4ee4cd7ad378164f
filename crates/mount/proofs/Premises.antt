-- What a publisher's label gives: a shape within the limits that has a tree, and an image of whole blocks.
use Rattle.std.proofs.Common.{◌≡◌, ℕ, Bool, true, false, cond, ◌&&◌, eqb, leb, List, length, Option, Some, None, refl, subst}
use Rattle.std.proofs.lemmas.Bool.{and_parts}
use Rattle.tree.specs.Tree.{salted}
use Rattle.tree.specs.Laws.{Sound}
use Rattle.geometry.specs.declared.label.Label.{Label}
use Rattle.geometry.specs.Label.{good, told}
use Rattle.geometry.specs.Limits.{within}
use Rattle.geometry.proofs.Trees.{sound_salted}
use Rattle.layers.specs.Anchor.{Anchor}
use Rattle.layers.specs.Publisher.{Publisher, Whole, anchor_of}
use Rattle.mount.specs.Law.{IsLabelOf}

-- of a test that gave a value: it was passed, and the value is that one
passed : {A : Type 0} (b : Bool) (x y : A) → cond b (Some x) None ≡ Some y → (b ≡ true) × (x ≡ y)
passed true x y is = (refl, cc)
passed {A = A} false x y is = let no : ◌≡◌ {A = Option A} None (Some y) = is in absurd cc

module _ (number size : ℕ) (meaning : List ℕ → List ℕ) (sized : (m : List ℕ) → length (meaning m) ≡ size) (p : Publisher) (label : Label) (his : IsLabelOf number size meaning p label) where
  abbrev anchor : Anchor
  anchor = record { salted = salted meaning label.salt.now; size = size; shape = told size label; root = label.root.now }

  both : (good number size label ≡ true) × (anchor ≡ anchor_of p)
  both = passed (good number size label) anchor (anchor_of p) his.told

  in_limits : within (told size label) ≡ true
  in_limits =
      let a = and_parts (eqb label.digest number && within (told size label) && leb (length label.salt.now) 256) (eqb (length label.root.now) size) both.0 in
      let b = and_parts (eqb label.digest number && within (told size label)) (leb (length label.salt.now) 256) a.0 in
      (and_parts (eqb label.digest number) (within (told size label)) b.0).1

  pub limits : within p.shape ≡ true
  limits = subst (λ (a : Anchor). within a.shape ≡ true) both.1 in_limits

  pub whole : Whole p
  whole = record {
    sound = subst (λ (a : Anchor). Sound a.salted a.shape a.size) both.1 (sound_salted meaning label.salt.now (told size label) size sized in_limits refl);
    filled = his.filled;
  }
