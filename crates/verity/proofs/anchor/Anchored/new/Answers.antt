use Rattle.std.proofs.Common.{◌≡◌, lit<, arith, true}
use Rattle.geometry.specs.Label.{good}
use Rattle.verity.proofs.Labels.{root_short}
use Rattle.verity.proofs.anchor.Anchored.new.Goals as goal

pub filled-requires-2 : goal.filled-requires-2
filled-requires-2 g c =
    let fine : good g.H.Digest.NUMBER g.H.Digest.LEN c.args.label.now ≡ true = grind arith in
    (lit< tt, root_short g.H.Digest.NUMBER g.H.Digest.LEN c.args.label.now fine g.met.H.Digest.sizes)
