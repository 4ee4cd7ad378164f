use Rattle.std.proofs.Common.{◌==◌}
use Rattle.open_files.proofs.Names.{position-or-end}
use Rattle.open_files.proofs.reading.Listed.name_end.Goals as goal

pub returns-clause-place : goal.returns-clause-place
returns-clause-place c = cc (position-or-end (λ byte. byte == 0) c.args.self.now.name)
