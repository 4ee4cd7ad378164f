-- A text of pairs of hexadecimal digits, and the bytes that it stands for.
use Rattle.std.specs.Prelude.{ℕ, List, [], unwrap_or}
use Rattle.text.specs.Hex.{unhex_of}
use Rattle.text.specs.declared.hex_text.HexText.{HexText}

-- the text
abbrev pub text_told : HexText → List ℕ
text_told t = t.text.now

-- the bytes
abbrev pub bytes_told : HexText → List ℕ
bytes_told t = unwrap_or (unhex_of (text_told t)) []
