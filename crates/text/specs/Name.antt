-- The names of the digest functions, as ASCII codes.
use Rattle.std.specs.Prelude.{ℕ, List, [], ◌∷◌, Option, find, codes}
use Rattle.std.specs.Str.{bytes_eq}
use Rattle.text.specs.declared.function.Function.{Function}
use Rattle.text.specs.declared.function.Function.TheVariants.{Sha256, Sha512}

-- each function once
abbrev pub functions : List Function
functions = Sha256 ∷ Sha512 ∷ []

abbrev pub name_of : Function → List ℕ
name_of Sha256 = codes "sha256"
name_of Sha512 = codes "sha512"

-- the function that has this very text for its name
abbrev pub named : List ℕ → Option Function
named text = find (λ f. bytes_eq text (name_of f)) functions
