use Rattle.std.proofs.Common.{refl}
use Rattle.constants.specs.Primes.{undivided, is_prime, primes_below}
use Rattle.constants.specs.Roots.{root_from}
use Rattle.constants.specs.Rule.{constant_of, round_constants}
use Rattle.constants.proofs.Tables.{round_rule}
use Rattle.constants.proofs.round_constants.Goals as goal

pub returns : goal.returns
unfolding undivided is_prime primes_below root_from constant_of round_constants
returns c = record { value = refl; rule = round_rule }
