use Rattle.std.proofs.Common.{◌≡◌, ◌++◌, length, option_copied, option_to_list}
use Rattle.std.specs.List.{filter_map}
use Rattle.label_text.specs.Lines.{lines_left, only, value_in, value_of}
use Rattle.label_text.proofs.lines.value.Given as goal

-- the value so far, and those of the rest
abbrev pub invariant-loop-rest : goal.invariant-loop-rest
invariant-loop-rest l = only l.key (option_to_list (option_copied l.found) ++ filter_map (value_in l.key) (lines_left (option_copied l.rest))) ≡ value_of l.key l.fn.text

abbrev pub decreases-loop-rest : goal.decreases-loop-rest
decreases-loop-rest l = length (lines_left (option_copied l.rest))
