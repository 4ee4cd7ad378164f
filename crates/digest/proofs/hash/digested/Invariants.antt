use Rattle.std.proofs.Common.{◌≡◌, ◌*◌, ◌≤◌, length, drop}
use Rattle.sha2_block.specs.Window.{eight}
use Rattle.digest.specs.Hash.{state_after}
use Rattle.digest.specs.Message.{joined}
use Rattle.digest.specs.Padding.{block_bytes, padded}
use Rattle.digest.proofs.hash.digested.Given as goal

abbrev pub invariant-loop-block : goal.invariant-loop-block
invariant-loop-block g l =
    let v = g.W.Word.variant in
    let value = g.W.Word.value in
    let bytes = padded v (joined l.fn.message) in
    let done = length l.yielded in
    record {
      size : l.block-iterator.size ≡ block_bytes v;
      inside : done * block_bytes v ≤ length bytes;
      rest : l.block-iterator.rest.now ≡ drop (done * block_bytes v) bytes;
      state : eight value l.state ≡ state_after v (eight value l.initial.state) bytes done;
    }
