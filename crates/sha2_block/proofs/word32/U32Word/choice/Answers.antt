use Rattle.std.proofs.Common.{rules}
use Rattle.sha2_block.proofs.Bitwise.{choice_bits}
use Rattle.sha2_block.proofs.word32.U32Word.choice.Goals as goal

pub returns : goal.returns
returns c = choice_bits 32 c.args.self c.args.y c.args.z (search rules) (search rules) (search rules)
