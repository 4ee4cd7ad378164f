-- What the values of a label's lines stand for.
use Rattle.std.specs.Prelude.{ℕ, ◌*◌, ◌==◌, if◌then◌else◌, List, [], length, Option, Some, None, codes}
use Rattle.std.specs.Str.{bytes_eq}
use Rattle.text.specs.Bytes.{unhexed}
use Rattle.text.specs.Hex.{unhex_of}
use Rattle.text.specs.Sum.{size_of}
use Rattle.text.specs.declared.function.Function.{Function}

-- 1 is the only type of tree
abbrev pub hash_type_of : List ℕ → Option (Unit {0})
hash_type_of value = if bytes_eq value (codes "1") then Some tt else None

-- pairs of digits, or `-` for no byte
abbrev pub salt_of : List ℕ → Option (List ℕ)
salt_of value =
    if length value == 0 then None
    else if bytes_eq value (codes "-") then Some []
    else unhexed 256 value

-- as many pairs of digits as a digest has bytes
abbrev pub root_of : Function → List ℕ → Option (List ℕ)
root_of function value = if length value == 2 * size_of function then unhex_of value else None
