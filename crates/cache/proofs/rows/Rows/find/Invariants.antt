use Rattle.std.proofs.Common.{◌≡◌, drop, map}
use Rattle.layers.specs.Cache.{find}
use Rattle.cache.specs.Rows.{row_of}
use Rattle.cache.proofs.rows.Rows.find.Given as goal

-- no row so far has it
abbrev pub invariant-loop-row : goal.invariant-loop-row
invariant-loop-row l = find l.question (map row_of l.row-items) ≡ find l.question (map row_of (drop l.row-index l.row-items))
