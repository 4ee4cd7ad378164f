use Rattle.std.proofs.Common.{◌≡◌, ◌+◌, ◌/◌, ◌%◌, length, refl, ap, ◌∙◌, arith, ◌==◌}
use Rattle.volume.specs.Words.{words_sum, sums_to_zero}
use Rattle.reader.proofs.Sums.{sum_more}
use Rattle.reader.proofs.words.sums_to_zero.Goals as goal

pub loop-i-preserved : goal.loop-i-preserved
loop-i-preserved c = sum_more c.args.bytes.now c.loop-i.i c.loop-i.sum c.word-sum.result ((c.loop-i.sum + c.word-sum.result) % 4294967296) c.loop-i.invariant c.word-sum.ensures refl

pub returns : goal.returns
unfolding sums_to_zero
returns c =
    let all : c.loop-i.i ≡ length c.args.bytes.now / 4 = omega arith in
    ap (λ n. n == 0) (c.loop-i.invariant ∙ ap (λ k. words_sum c.args.bytes.now 0 k % 4294967296) all)
