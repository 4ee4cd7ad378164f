use mathlib.Core.Path.{refl}
use Rattle.constants.specs.Primes.{undivided, is_prime, primes_below}
use Rattle.constants.specs.Roots.{root_from}
use Rattle.constants.specs.Rule.{constant_of, round_constants, starting_words}
use Rattle.sha2_block.specs.Block.{scheduled, next_word, one_more, extended, schedule, round, rounds_from, added, block_step}
use Rattle.digest.specs.Padding.{zeros, padded}
use Rattle.digest.specs.Hash.{word_at, block_at, state_after, last_state, state_bytes, start_of, hash, sha256, sha512}
use Rattle.examples.proofs.examples_stand.Goals as goal

pub returns : goal.returns
unfolding undivided is_prime primes_below root_from constant_of round_constants starting_words scheduled next_word one_more extended schedule round rounds_from added block_step zeros padded word_at block_at state_after last_state state_bytes start_of hash sha256 sha512
returns c = record { one_block_256 = refl; one_block_512 = refl; two_blocks_256 = refl; two_blocks_512 = refl }
