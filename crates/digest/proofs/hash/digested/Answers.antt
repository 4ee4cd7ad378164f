use Rattle.std.proofs.Common.{◌≡◌, ◌+◌, ◌*◌, ◌≤◌, ◌<◌, [], ◌∷◌, ◌++◌, length, drop, sym, refl, ap, ◌∙◌, subst, arith}
use Rattle.std.proofs.lemmas.List.{length-append, length-drop}
use Rattle.sha2_block.specs.Window.{eight}
use Rattle.digest.specs.Hash.{state_after}
use Rattle.digest.specs.Message.{joined}
use Rattle.digest.specs.Padding.{block_bytes, padded}
use Rattle.digest.proofs.Blocks.{block_in, rest_is, next_block, all_blocks}
use Rattle.digest.proofs.hash.digested.Goals as goal

pub loop-block-init : goal.loop-block-init
unfolding state_after
loop-block-init g c =
    let made = c.into_iter-block-iterator.ensures.into_iter_gives in
    let chunks = c.chunks_exact-block-items.ensures in
    let v = g.W.Word.variant in
    let none : 0 ≡ 0 * block_bytes v = omega arith in
    record {
      size = ap (λ s. s.size) made ∙ chunks.size ∙ ap (λ n. 16 * n) c.size.ensures;
      inside = omega arith;
      rest = ap (λ s. s.rest.now) made ∙ chunks.rest ∙ c.pad.ensures ∙ ap (λ j. drop j (padded v (joined c.args.message.now))) none;
      state = refl;
    }

pub loop-block-preserved : goal.loop-block-preserved
loop-block-preserved g c =
    let v = g.W.Word.variant in
    let value = g.W.Word.value in
    let bytes = padded v (joined c.args.message.now) in
    let n = block_bytes v in
    let before = c.loop-block.invariant in
    let k = length c.loop-block.yielded in
    let block = c.in-Some.block.now in
    let more = c.next.new.self.rest.now in
    let steps = c.in-Some.ensures.steps in
    let here : drop (k * n) bytes ≡ block ++ more = sym before.rest ∙ steps.1.0 in
    let whole : length block ≡ n = steps.1.1 ∙ before.size in
    let next : length (c.loop-block.yielded ++ c.in-Some.block ∷ []) ≡ k + 1 = length-append c.loop-block.yielded (c.in-Some.block ∷ []) in
    let room : (k + 1) * n ≤ length bytes = omega (arith, before.inside, length-drop (k * n) bytes, ap length here, length-append block more) in
    record {
      size = steps.0 ∙ before.size;
      inside = subst (λ j. j * n ≤ length bytes) (sym next) room;
      rest = rest_is v bytes block more k here whole ∙ ap (λ j. drop (j * n) bytes) (sym next);
      state = next_block v (eight value c.args.start) bytes k (eight value c.loop-block.state) _ _ before.state (c.words.ensures ∙ block_in v bytes block more k here whole) c.compress-state.ensures
          ∙ ap (state_after v (eight value c.args.start) bytes) (sym next);
    }

pub returns : goal.returns
returns g c =
    let v = g.W.Word.variant in
    let value = g.W.Word.value in
    let bytes = padded v (joined c.args.message.now) in
    let before = c.loop-block.invariant in
    let k = length c.loop-block.yielded in
    let short : length (drop (k * block_bytes v) bytes) < block_bytes v = omega (arith, c.in-None.ensures.steps.1.0, before.size, ap length before.rest) in
    all_blocks v (eight value c.args.start) (eight value c.loop-block.state) (joined c.args.message.now) k before.inside short before.state
