-- What holds of numbers and of hexadecimal, in words of its own.
use Rattle.std.specs.Prelude.{◌≡◌, ℕ, ◌^◌, ◌<◌, List, Some, slice_index}
use Rattle.std.specs.Fmt.{decimal}
use Rattle.text.specs.Hex.{hex_of, unhex_of}
use Rattle.text.specs.Number.{number_of}

-- reading undoes writing, for every row of bytes
abbrev pub DigitsStand : Type 0
DigitsStand = (bytes : List ℕ) → ((i : ℕ) → slice_index bytes i < 256) → unhex_of (hex_of bytes) ≡ Some bytes

-- and for every number of 32 bits, which std prints as `decimal`
abbrev pub NumbersStand : Type 0
NumbersStand = (n : ℕ) → n < 2 ^ 32 → number_of (decimal n) ≡ Some n
