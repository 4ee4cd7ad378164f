use Rattle.std.proofs.Common.{lit≤, rules}
use Rattle.sha2_block.proofs.Rotations.{step_by_step}
use Rattle.sha2_block.proofs.word32.U32Word.big_sigma1.Goals as goal

pub returns : goal.returns
returns c = step_by_step 32 6 5 14 c.args.self _ _ _ (lit≤ tt) (search rules) c.rotate_right.ensures c.rotate_right-2.ensures c.rotate_right-3.ensures
