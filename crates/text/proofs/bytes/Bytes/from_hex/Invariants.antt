use Rattle.std.proofs.Common.{◌≡◌, ◌+◌, ◌*◌, ◌%◌, ◌++◌, length, take}
use Rattle.std.specs.Option.{option_map}
use Rattle.text.specs.Hex.{unhex_of}
use Rattle.text.proofs.bytes.Bytes.from_hex.Given as goal

-- the bytes so far, and those of the rest, for which there is room
abbrev pub invariant-loop-rest : goal.invariant-loop-rest
invariant-loop-rest g l = record {
  size : length l.buffer ≡ g.row.N;
  even : length l.rest % 2 ≡ 0;
  room : 2 * l.len + length l.rest ≡ length l.fn.text;
  found : option_map (λ more. take l.len l.buffer ++ more) (unhex_of l.rest) ≡ unhex_of l.fn.text;
}

abbrev pub decreases-loop-rest : goal.decreases-loop-rest
decreases-loop-rest g l = length l.rest
