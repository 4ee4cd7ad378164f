use Rattle.layers.proofs.Caching.{cache_stands_lem}
use Rattle.layers.proofs.laws.cache_stands.Goals as goal

pub returns : goal.returns
returns g c = cache_stands_lem
