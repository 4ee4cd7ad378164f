-- The buffer that a message is padded in.
use Rattle.std.specs.Prelude.{◌≡◌, ℕ, ◌-◌, ◌≤◌, List, ◌++◌, length, replicate}
use Rattle.digest.specs.declared.padded.TheConstants.{PADDED}

-- the bytes of a buffer are these and zeros behind them
abbrev pub Filled : List ℕ → List ℕ → Type 0
Filled front buf = buf ≡ front ++ replicate (PADDED - length front) 0

-- bytes were written at a place behind whatever front the buffer had, with zeros between
abbrev pub Behind : List ℕ → ℕ → List ℕ → List ℕ → Type 0
Behind before at bytes after = (front : List ℕ) → Filled front before → length front ≤ at → Filled (front ++ replicate (at - length front) 0 ++ bytes) after
