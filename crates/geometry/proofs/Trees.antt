-- A shape within the limits, whose slot is the digest's size, has a tree.
use Rattle.std.proofs.Common.{◌≡◌, ℕ, true, List, ◌++◌, length, arith}
use Rattle.tree.specs.Shape.{Shape}
use Rattle.tree.specs.Tree.{salted}
use Rattle.tree.specs.Laws.{Sound}
use Rattle.geometry.specs.Limits.{within}
use Rattle.geometry.proofs.Bounds.{bounds}

pub sound_salted : (meaning : List ℕ → List ℕ) (salt : List ℕ) (s : Shape) (size : ℕ) → ((m : List ℕ) → length (meaning m) ≡ size) → within s ≡ true → s.slot ≡ size
    → Sound (salted meaning salt) s size
sound_salted meaning salt s size sized limits slots =
    let known = bounds s limits in
    record {
      some = known.some;
      wide = omega (arith, known.wide);
      filled = known.filled;
      bytes = omega (arith, known.data_low);
      fits = omega arith;
      sized = λ m. sized (salt ++ m);
    }
