use Rattle.std.proofs.Common.{lit≤, rules}
use Rattle.sha2_block.proofs.Rotations.{step_by_step}
use Rattle.sha2_block.proofs.word64.U64Word.big_sigma1.Goals as goal

pub returns : goal.returns
returns c = step_by_step 64 14 4 23 c.args.self _ _ _ (lit≤ tt) (search rules) c.rotate_right.ensures c.rotate_right-2.ensures c.rotate_right-3.ensures
