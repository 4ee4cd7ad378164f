use Rattle.std.proofs.Common.{◌≡◌, ◌≤◌, ◌-◌, ◌%◌}
use Rattle.sha2_block.specs.Window.{LeadsTo, eight, sixteen}
use Rattle.sha2_block.proofs.block.compress.Given as goal

abbrev pub invariant-loop-t : goal.invariant-loop-t
invariant-loop-t g l =
    let value = g.W.Word.value in
    record {
      whole : l.t % 16 ≡ 0;
      low : l.t ≤ l.last;
      led : LeadsTo g.W.Word.variant 0 l.t (sixteen value l.initial.work.window) (eight value l.initial.work.state) (sixteen value l.work.window) (eight value l.work.state);
    }

abbrev pub decreases-loop-t : goal.decreases-loop-t
decreases-loop-t g l = l.last - l.t
