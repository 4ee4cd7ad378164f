use Rattle.std.proofs.Common.{refl}
use Rattle.std.proofs.Output.{has_written_of_eq}
use Rattle.std.proofs.lemmas.List.{append-nil}
use Rattle.label_text.specs.Printed.{text_of}
use Rattle.label_text.proofs.print.LabelTextDisplay.fmt.Goals as goal

pub returns-clause-writes : goal.returns-clause-writes
unfolding text_of
returns-clause-writes g c plain ok = has_written_of_eq _ _ _ _ _ (rw (c.salt.ensures, c.root.ensures, append-nil) refl) (c.write.ensures.writes plain ok)
