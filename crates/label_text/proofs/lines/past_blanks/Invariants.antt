use Rattle.std.proofs.Common.{◌≡◌, length}
use Rattle.label_text.specs.Lines.{past_blanks}
use Rattle.label_text.proofs.lines.past_blanks.Given as goal

abbrev pub invariant-loop-rest : goal.invariant-loop-rest
invariant-loop-rest l = past_blanks l.rest ≡ past_blanks l.fn.text

abbrev pub decreases-loop-rest : goal.decreases-loop-rest
decreases-loop-rest l = length l.rest
