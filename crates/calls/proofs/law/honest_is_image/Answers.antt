use Rattle.calls.proofs.Runs.{honest_is_image_lem}
use Rattle.calls.proofs.law.honest_is_image.Goals as goal

pub returns : goal.returns
returns g c = honest_is_image_lem g.S.Store.rule g.S.Store.Keeps g.met.S.Store.lawful g.S.Bottom.Device.meaning g.S.Bottom.Device.moves g.met.S.Bottom.Device.onward g.met.S.Bottom.Device.sized
