use Rattle.sha2_block.proofs.Recursion.{schedule_stands_lem}
use Rattle.sha2_block.proofs.block.schedule_stands.Goals as goal

pub returns : goal.returns
returns c = schedule_stands_lem
