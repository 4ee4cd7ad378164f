use Rattle.calls.proofs.Runs.{law_of_runs_lem}
use Rattle.calls.proofs.law.law_of_runs.Goals as goal

pub returns : goal.returns
returns g c = law_of_runs_lem g.S.Store.rule g.S.Store.Keeps g.met.S.Store.lawful g.S.Bottom.Device.meaning g.S.Bottom.Device.moves g.met.S.Bottom.Device.onward g.met.S.Bottom.Device.sized
