use Rattle.std.proofs.Common.{refl}
use Rattle.label_text.specs.Lines.{value_of}
use Rattle.label_text.proofs.lines.value.Goals as goal

pub loop-rest-init : goal.loop-rest-init
unfolding value_of
loop-rest-init c = refl
