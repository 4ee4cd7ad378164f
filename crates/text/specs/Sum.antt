-- The digest function that a name stands for, and its digests.
use Rattle.std.specs.Prelude.{ℕ, ◌+◌, if◌then◌else◌, List, ◌++◌, length, nat_le, Result, Ok, Err}
use Rattle.std.specs.Result.{result_map_both}
use Rattle.digest.specs.Hash.{sha256, sha512}
use Rattle.digest.specs.declared.refusal.Refusal.{Refusal}
use Rattle.digest.specs.declared.refusal.Refusal.TheVariants.{Length}
use Rattle.text.specs.Bytes.{bytes_of}
use Rattle.text.specs.declared.bytes.Bytes.{Bytes}
use Rattle.text.specs.declared.function.Function.{Function}
use Rattle.text.specs.declared.function.Function.TheVariants.{Sha256, Sha512}

abbrev pub sum_of : Function → List ℕ → List ℕ
sum_of Sha256 m = sha256 m
sum_of Sha512 m = sha512 m

-- bytes of a digest
abbrev pub size_of : Function → ℕ
size_of Sha256 = 32
size_of Sha512 = 64

-- the function's number in a label
abbrev pub label_number : Function → ℕ
label_number Sha256 = 1
label_number Sha512 = 2

-- the digest of two strings joined, or the refusal of more than 4,352 bytes
abbrev pub digest_within : (List ℕ → List ℕ) → List ℕ → List ℕ → Result (List ℕ) Refusal
digest_within meaning first second = if nat_le (length first + length second) 4352 then Ok (meaning (first ++ second)) else Err Length

-- an answer, apart from where its bytes lie
abbrev pub given : Result (Bytes 64) Refusal → Result (List ℕ) Refusal
given answer = result_map_both bytes_of (λ refusal. refusal) answer
