use Rattle.std.proofs.Common.{◌≡◌, is_some, length}
use Rattle.text.specs.Hex.{unhex_of}
use Rattle.text.proofs.hex_text.HexText.new.Given as goal

-- the rest is pairs exactly if the text is
abbrev pub invariant-loop-rest : goal.invariant-loop-rest
invariant-loop-rest l = is_some (unhex_of l.rest) ≡ is_some (unhex_of l.fn.text)

abbrev pub decreases-loop-rest : goal.decreases-loop-rest
decreases-loop-rest l = length l.rest
