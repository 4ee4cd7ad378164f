-- The lines of a script.
use Rattle.std.specs.Prelude.{ℕ, ◌==◌, if◌then◌else◌, List, [], ◌∷◌, length, Option, Some, None}
use Rattle.std.specs.List.{after_first, before_first}
use Rattle.std.specs.Option.{option_and_then, option_map}
use Rattle.text.specs.Hex.{unhex_of}
use Rattle.text.specs.Number.{wide_number_of}
use Rattle.script.specs.Call.{Asked, to_begin, to_open, to_read, to_whole, to_list, to_close}
use Rattle.script.specs.Name.{named}
use Rattle.script.specs.declared.name.Name.{Name}
use Rattle.script.specs.declared.name.Name.TheVariants as name

-- what stands before a text's first space, and what behind it
abbrev pub word_of : List ℕ → List ℕ
word_of text = before_first (λ c. c == 32) text

abbrev pub rest_of : List ℕ → List ℕ
rest_of text = after_first (λ c. c == 32) text

-- a first step, and what is made of it next
infixl 10 ◌>>=◌
abbrev pub ◌>>=◌ : {A B : Type 0} → Option A → (A → Option B) → Option B
found >>= next = option_and_then next found

-- a number of at most 64 bits, and what follows it
abbrev pub line_number : List ℕ → Option (ℕ × List ℕ)
line_number text = option_map (λ n. (n, rest_of text)) (wide_number_of (word_of text))

-- the bytes of a path: what stands there, or behind `=` what pairs of hexadecimal digits stand for
abbrev pub path_of : List ℕ → Option (List ℕ)
path_of [] = Some []
path_of (c ∷ rest) = if c == 61 then unhex_of rest else Some (c ∷ rest)

-- what each call has behind its name
abbrev pub begin_of : List ℕ → Option Asked
begin_of text = if length text == 0 then Some to_begin else None

abbrev pub open_of : List ℕ → Option Asked
open_of text = option_map to_open (path_of text)

abbrev pub read_of : List ℕ → Option Asked
read_of text = do
  handle ← line_number text
  offset ← line_number handle.1
  size ← wide_number_of offset.1
  Some (to_read handle.0 offset.0 size)

abbrev pub whole_of : List ℕ → Option Asked
whole_of text = do
  handle ← line_number text
  size ← wide_number_of handle.1
  Some (to_whole handle.0 size)

abbrev pub list_of : List ℕ → Option Asked
list_of text = do
  index ← line_number text
  size ← line_number index.1
  path ← path_of size.1
  Some (to_list index.0 size.0 path)

abbrev pub close_of : List ℕ → Option Asked
close_of text = option_map to_close (wide_number_of text)

abbrev pub call_by : Name → List ℕ → Option Asked
call_by name.Begin text = begin_of text
call_by name.Open text = open_of text
call_by name.Read text = read_of text
call_by name.Whole text = whole_of text
call_by name.List text = list_of text
call_by name.Close text = close_of text

-- the call that a line asks for: a name, and behind a space what the call takes
unfoldable pub call_of : List ℕ → Option Asked
call_of line = named (word_of line) >>= λ name. call_by name (rest_of line)
