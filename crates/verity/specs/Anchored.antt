-- What a checked label tells, as the path check's rule takes it.
use Rattle.std.specs.Prelude.{ℕ, cond, List, take, Option, Some, None}
use Rattle.tree.specs.Tree.{salted}
use Rattle.geometry.specs.Of.{shape_of}
use Rattle.geometry.specs.declared.label.Label.{Label}
use Rattle.geometry.specs.Label.{good, told}
use Rattle.layers.specs.Anchor.{Anchor}
use Rattle.verity.specs.declared.anchor.Anchored.{Anchored}

abbrev pub anchor_of : {H : Type 0} {d : _} → Anchored H d → Anchor
anchor_of {d = d} a = record {
  salted = salted d.meaning (take a.salt_len a.salt);
  size = d.LEN;
  shape = shape_of a.geometry;
  root = take d.LEN a.root;
}

-- the same of one that may have been refused
abbrev pub kept : {H : Type 0} {h : _} → Option (Anchored H h) → Option Anchor
kept None = None
kept (Some a) = Some (anchor_of a)

-- what a label tells, by a digest's number, size and meaning: nothing where it is refused
abbrev pub told_by : ℕ → ℕ → (List ℕ → List ℕ) → Label → Option Anchor
told_by number size meaning l =
    cond (good number size l) (Some (record { salted = salted meaning l.salt.now; size = size; shape = told size l; root = l.root.now })) None
