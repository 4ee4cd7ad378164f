use Rattle.std.proofs.Common.{refl}
use Rattle.layers.specs.Cache.{cache_layer}
use Rattle.mount_cases.proofs.caches_stand.Goals as goal

pub returns : goal.returns
unfolding cache_layer
returns c = record {
  four_rows = refl;
  first_goes = refl;
  others_stay = refl;
  second_goes_next = refl;
  hit_moves_nothing = refl;
  keeps_4096 = refl;
  keeps_0 = refl;
  not_4097 = refl;
  longer_moves_nothing = refl;
  not_refused = refl;
  refusal_moves_nothing = refl;
  by_area = refl;
  by_length = refl;
  answers = refl;
  passes_on = refl;
  passes_refusals = refl;
}
