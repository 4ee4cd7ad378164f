use Rattle.std.proofs.Common.{◌≡◌, ◌%◌}
use Rattle.volume.specs.Words.{words_sum}
use Rattle.reader.proofs.words.sums_to_zero.Given as goal

abbrev pub invariant-loop-i : goal.invariant-loop-i
invariant-loop-i l = l.sum ≡ words_sum l.bytes 0 l.i % 4294967296
