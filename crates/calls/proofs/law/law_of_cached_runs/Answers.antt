use Rattle.layers.proofs.Stores.{cached_check-store}
use Rattle.calls.specs.Mount.{cached_check}
use Rattle.calls.proofs.Runs.{law_of_runs_lem}
use Rattle.calls.proofs.law.law_of_cached_runs.Goals as goal

pub returns : goal.returns
returns g c = law_of_runs_lem (cached_check _) _ cached_check-store g.D.Device.meaning g.D.Device.moves g.met.D.Device.onward g.met.D.Device.sized
