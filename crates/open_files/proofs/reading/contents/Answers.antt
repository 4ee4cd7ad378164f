use Rattle.std.proofs.Common.{inr}
use Rattle.std.proofs.lemmas.Result.{IfOk-weaker, IfErr-weaker}
use Rattle.reader.specs.Calls.{extent_of}
use Rattle.open_files.proofs.reading.contents.Goals as goal

pub returns-in-Ok-clause-read : goal.returns-in-Ok-clause-read
returns-in-Ok-clause-read g c = IfOk-weaker c.read_whole.result _ _ (λ bytes gave. (extent_of c.in-Ok.handle, c.open.new.self, c.in-Ok.ensures.step, gave)) c.read_whole.ensures.whole

pub returns-in-Ok-clause-none : goal.returns-in-Ok-clause-none
returns-in-Ok-clause-none g c =
    IfErr-weaker c.read_whole.result _ _ (λ why gave. inr (extent_of c.in-Ok.handle, c.open.new.self, c.in-Ok.ensures.step, gave)) c.read_whole.ensures.none
