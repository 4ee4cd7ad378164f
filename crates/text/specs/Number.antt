-- Numbers in decimal digits, as ASCII codes.
use Rattle.std.specs.Prelude.{ℕ, ◌^◌, ◌&&◌, if◌then◌else◌, List, length, Option, Some, None, nat_lt}
use Rattle.std.specs.Char.{is_ascii_digit}
use Rattle.std.specs.List.{list_all}
use Rattle.std.specs.Str.Parse.{digits_value}

-- the number of a text that is one digit or more and nothing else, where it has so many bits at most
abbrev pub number_within : ℕ → List ℕ → Option ℕ
number_within bits text =
    if list_all is_ascii_digit text && nat_lt 0 (length text) && nat_lt (digits_value 10 text) (2 ^ bits) then Some (digits_value 10 text)
    else None

-- of 32 bits, and of 64
abbrev pub number_of : List ℕ → Option ℕ
number_of text = number_within 32 text

abbrev pub wide_number_of : List ℕ → Option ℕ
wide_number_of text = number_within 64 text
