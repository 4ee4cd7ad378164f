use Rattle.std.proofs.Common.{refl}
use Rattle.constants.specs.Primes.{undivided, is_prime, primes_below}
use Rattle.constants.specs.Roots.{root_from}
use Rattle.constants.specs.Rule.{constant_of, starting_words}
use Rattle.constants.proofs.Tables.{start_rule}
use Rattle.constants.proofs.starting_words.Goals as goal

pub returns : goal.returns
unfolding undivided is_prime primes_below root_from constant_of starting_words
returns c = record { value = refl; rule = start_rule }
