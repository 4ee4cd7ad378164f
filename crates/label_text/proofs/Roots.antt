-- A root that was read is as long as a digest.
use Rattle.std.proofs.Common.{◌≡◌, ℕ, ◌*◌, List, length, Option, Some, None, IfSome, sym, arith}
use Rattle.std.specs.Option.{option_map}
use Rattle.text.specs.Bytes.{bytes_of, unhexed}
use Rattle.text.specs.declared.bytes.Bytes.{Bytes}
use Rattle.text.proofs.Limits.{unhexed-length}

pub root_whole : (size : ℕ) (value : List ℕ) (r : Option (Bytes 64)) → option_map bytes_of r ≡ unhexed 64 value → length value ≡ 2 * size → IfSome r (λ root. length (bytes_of root) ≡ size)
root_whole size value None h long = tt
root_whole size value (Some root) h long =
    let two : length value ≡ 2 * length (bytes_of root) = unhexed-length 64 value (bytes_of root) (sym h) in
    omega arith
