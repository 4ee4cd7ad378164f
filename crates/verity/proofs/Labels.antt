-- The lengths of a good label's strings, and the slots of a tree block.
use Rattle.std.proofs.Common.{◌≡◌, ℕ, ◌<◌, ◌≤◌, true, Option, None, Some, subst, ◌&&◌, ◌⊎◌, inl, inr, eqb, leb, length, arith}
use Rattle.std.proofs.lemmas.Bool.{and_parts, eqb-true, leb-true}
use Rattle.geometry.specs.declared.label.Label.{Label}
use Rattle.geometry.specs.Label.{told, good}
use Rattle.geometry.specs.Limits.{within}
use Rattle.geometry.proofs.Bounds.{bounds_of}
use Rattle.tree.specs.Shape.{fanout}
use Rattle.layers.specs.Anchor.{Anchor}
use Rattle.verity.specs.declared.anchor.Anchored.{Anchored}
use Rattle.verity.specs.Anchored.{anchor_of, kept}

module _ (id size : ℕ) (l : Label) (is : good id size l ≡ true) where
  parts : (((eqb l.digest id && within (told size l)) && leb (length l.salt.now) 256) ≡ true) × (eqb (length l.root.now) size ≡ true)
  parts = and_parts ((eqb l.digest id && within (told size l)) && leb (length l.salt.now) 256) (eqb (length l.root.now) size) is

  pub root_long : length l.root.now ≡ size
  root_long = eqb-true (length l.root.now) size parts.1

  pub salt_short : length l.salt.now ≤ 256
  salt_short = leb-true (length l.salt.now) 256 (and_parts (eqb l.digest id && within (told size l)) (leb (length l.salt.now) 256) parts.0).1

  pub root_short : ((size ≡ 32) ⊎ (size ≡ 64)) → length l.root.now ≤ 64
  root_short (inl e) = omega (arith, root_long)
  root_short (inr e) = omega (arith, root_long)

-- a tree block of a label that was kept has slots
pub kept-wide : {H : Type 0} {h : _} (o : Option (Anchored H h)) (anchor : Anchor) → kept o ≡ Some anchor → 0 < fanout anchor.shape
kept-wide None anchor told = cc
kept-wide (Some a) anchor told =
    let same : anchor_of a ≡ anchor = cc in
    subst (λ (x : Anchor). 0 < fanout x.shape) same (omega (arith, (bounds_of a.geometry).wide))
