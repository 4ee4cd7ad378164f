use Rattle.std.proofs.Common.{rules}
use Rattle.open_files.proofs.reading.read_whole.Goals as goal

pub returns-in-Err-clause-none : goal.returns-in-Err-clause-none
returns-in-Err-clause-none g c = (c.whole.new.self, search rules, search rules)
