use Rattle.std.proofs.Common.{rules}
use Rattle.published.proofs.read.read_open.Goals as goal

pub returns-clause-steps : goal.returns-clause-steps
returns-clause-steps g c = (c.read-answer.new.self, c.read-answer.ensures.step, search rules)
