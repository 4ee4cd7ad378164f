use Rattle.std.proofs.Common.{◌+◌, ◌-◌, ◌≤◌, length, take}
use Rattle.reader.proofs.Gathering.{Going}
use Rattle.reader.proofs.fetch.fetch.Given as goal

abbrev pub invariant-loop-done : goal.invariant-loop-done
invariant-loop-done g l = record {
  inside : l.done ≤ length l.buf;
  going : Going g.D.Device.meaning g.D.Device.moves l.block.bytes l.fn.store l.from (length l.fn.buf) l.store (l.from + l.done) (length l.buf - l.done) (take l.done l.buf);
}

abbrev pub decreases-loop-done : goal.decreases-loop-done
decreases-loop-done g l = length l.initial.buf - l.done
