use Rattle.std.specs.Vec.Iter.{into_iter_len}
use Rattle.card.proofs.options.parse_build.Given as goal

-- the words that are left
abbrev pub decreases-loop-word : goal.decreases-loop-word
decreases-loop-word l = into_iter_len l.words
