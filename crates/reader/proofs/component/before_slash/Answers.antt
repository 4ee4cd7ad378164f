use Rattle.std.proofs.Common.{None, sym}
use Rattle.reader.proofs.Parting.{before_slash}
use Rattle.reader.proofs.component.before_slash.Goals as goal

pub returns-in-None-clause-value : goal.returns-in-None-clause-value
returns-in-None-clause-value c = sym (before_slash c.args.bytes.now None c.in-None.ensures)
