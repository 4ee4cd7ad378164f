-- The lines of a text, and what stands behind a key.
use Rattle.std.specs.Prelude.{ℕ, ◌==◌, ◌||◌, if◌then◌else◌, List, [], ◌∷◌, length, take, drop, Option, Some, None, Result, Ok, Err}
use Rattle.std.specs.List.{filter_map, slice_split}
use Rattle.std.specs.Option.{option_map}
use Rattle.std.specs.Str.{bytes_eq}
use Rattle.label_text.specs.Key.{front_of}
use Rattle.label_text.specs.declared.fault.Fault.{Fault}
use Rattle.label_text.specs.declared.fault.Fault.TheVariants.{Doubled, Missing}
use Rattle.label_text.specs.declared.key.Key.{Key}

-- the lines between a text's line feeds
abbrev pub lines : List ℕ → List (List ℕ)
lines text = slice_split (λ c. c == 10) text

-- a text without the spaces and tabs at its front
abbrev pub past_blanks : List ℕ → List ℕ
past_blanks [] = []
past_blanks (c ∷ rest) = if c == 32 || c == 9 then past_blanks rest else c ∷ rest

-- what stands behind a front
abbrev pub behind : List ℕ → List ℕ → Option (List ℕ)
behind front line = if bytes_eq (take (length front) line) front then Some (drop (length front) line) else None

-- a line's value, where the line has the key
abbrev pub value_in : Key → List ℕ → Option (List ℕ)
value_in key line = option_map past_blanks (behind (front_of key) line)

-- the only one of some values
abbrev pub only : Key → List (List ℕ) → Result (List ℕ) Fault
only key [] = Err (Missing key)
only key (value ∷ []) = Ok value
only key (value ∷ other ∷ more) = Err (Doubled key)

-- the value of the one line with the key
unfoldable pub value_of : Key → List ℕ → Result (List ℕ) Fault
value_of key text = only key (filter_map (value_in key) (lines text))

-- the lines of what is left of a text, if anything is
abbrev pub lines_left : Option (List ℕ) → List (List ℕ)
lines_left None = []
lines_left (Some text) = lines text
