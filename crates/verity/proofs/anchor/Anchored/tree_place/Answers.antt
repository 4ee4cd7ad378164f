use Rattle.std.proofs.Common.{add-one, arith}
use Rattle.verity.proofs.Numbers.{block_low}
use Rattle.verity.proofs.anchor.Anchored.tree_place.Goals as goal

pub overflow_add-block : goal.overflow_add-block
overflow_add-block g c =
    record { fits = rw (c.start-before.ensures, c.above.ensures, add-one) (omega (arith, block_low c.args.self.now.geometry c.args.level c.args.k c.requires.low c.requires.there)) }

pub overflow_cast-result : goal.overflow_cast-result
overflow_cast-result g c =
    record { fits = rw (c.start-before.ensures, c.above.ensures, add-one) (omega (arith, block_low c.args.self.now.geometry c.args.level c.args.k c.requires.low c.requires.there)) }
