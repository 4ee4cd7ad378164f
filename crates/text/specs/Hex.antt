-- Bytes in hexadecimal, as ASCII codes.
use Rattle.std.specs.Prelude.{ℕ, ◌+◌, ◌-◌, ◌*◌, ◌/◌, ◌%◌, ◌&&◌, cond, if◌then◌else◌, List, [], ◌∷◌, Option, Some, None, nat_lt, nat_le}
use Rattle.std.specs.Option.{option_and_then, option_map}
use Rattle.std.specs.List.{flat_map}

-- the digit of a number below 16: 0 to 9 from code 48 on, a to f from code 97 on
abbrev pub digit_of : ℕ → ℕ
digit_of n = cond (nat_lt n 10) (48 + n) (87 + n)

-- the upper half first
abbrev pub two_digits : ℕ → List ℕ
two_digits b = digit_of (b / 16) ∷ digit_of (b % 16) ∷ []

abbrev pub hex_of : List ℕ → List ℕ
hex_of bytes = flat_map two_digits bytes

-- the number that a digit stands for, in either case of letters
abbrev pub digit_value : ℕ → Option ℕ
digit_value c =
    if nat_le 48 c && nat_le c 57 then Some (c - 48)
    else if nat_le 97 c && nat_le c 102 then Some (c - 87)
    else if nat_le 65 c && nat_le c 70 then Some (c - 55)
    else None

-- the byte of two digits, the upper half first
abbrev pub byte_of : ℕ → ℕ → Option ℕ
byte_of high low = option_and_then (λ h. option_map (λ l. h * 16 + l) (digit_value low)) (digit_value high)

-- a byte before some bytes, where all are there
abbrev pub before : Option ℕ → Option (List ℕ) → Option (List ℕ)
before byte bytes = option_and_then (λ b. option_map (λ bs. b ∷ bs) bytes) byte

-- the bytes of a text that is pairs of digits, and none of any other text
unfoldable pub unhex_of : List ℕ → Option (List ℕ)
unhex_of [] = Some []
unhex_of (c ∷ []) = None
unhex_of (high ∷ low ∷ rest) = before (byte_of high low) (unhex_of rest)
