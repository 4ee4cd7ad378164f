use Rattle.label_text.proofs.Reading.{printed_reads}
use Rattle.label_text.proofs.laws.printed_reads.Goals as goal

pub returns : goal.returns
returns c = printed_reads
