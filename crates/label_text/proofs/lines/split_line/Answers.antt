use Rattle.std.proofs.Common.{◌∙◌, sym}
use Rattle.std.proofs.lemmas.List.{take_rest}
use Rattle.label_text.proofs.Splits.{split_found, split_nowhere}
use Rattle.label_text.proofs.lines.split_line.Goals as goal

pub returns-in-Some : goal.returns-in-Some
returns-in-Some c = rw take_rest (split_found _ c.args.text.now c.in-Some.end (sym c.in-Some.is ∙ c.line_end.ensures))

pub returns-in-None : goal.returns-in-None
returns-in-None c = split_nowhere _ c.args.text.now (sym c.in-None.is ∙ c.line_end.ensures)
