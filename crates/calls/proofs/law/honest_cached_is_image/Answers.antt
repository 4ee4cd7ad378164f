use Rattle.layers.proofs.Stores.{cached_check-store}
use Rattle.calls.specs.Mount.{cached_check}
use Rattle.calls.proofs.Runs.{honest_is_image_lem}
use Rattle.calls.proofs.law.honest_cached_is_image.Goals as goal

pub returns : goal.returns
returns g c = honest_is_image_lem (cached_check _) _ cached_check-store g.D.Device.meaning g.D.Device.moves g.met.D.Device.onward g.met.D.Device.sized
