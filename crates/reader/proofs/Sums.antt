-- The sum of words, one more at the end.
use Rattle.std.proofs.Common.{◌≡◌, ℕ, zero, suc, ◌+◌, ◌*◌, ◌%◌, List, sym, ap, arith, add-one}
use Rattle.volume.specs.Words.{word, words_sum}

sum_last : (bytes : List ℕ) (at n : ℕ) → words_sum bytes at (suc n) ≡ words_sum bytes at n + word bytes (at + n * 4)
sum_last bytes at zero = let e : at ≡ at + 0 * 4 = omega arith in let f : word bytes at ≡ word bytes (at + 0 * 4) = ap (word bytes) e in omega arith
sum_last bytes at (suc n) =
    let there : at + 4 + n * 4 ≡ at + suc n * 4 = omega arith in
    let later = sum_last bytes (at + 4) n in
    let same : word bytes (at + 4 + n * 4) ≡ word bytes (at + suc n * 4) = ap (word bytes) there in
    omega arith

-- and modulo 2^32
pub sum_more : (bytes : List ℕ) (i sum w next : ℕ) → sum ≡ words_sum bytes 0 i % 4294967296 → w ≡ word bytes (i * 4) → next ≡ (sum + w) % 4294967296 → next ≡ words_sum bytes 0 (i + 1) % 4294967296
sum_more bytes i sum w next is here goes =
    let last = sum_last bytes 0 i in
    let zero_first : word bytes (0 + i * 4) ≡ word bytes (i * 4) = ap (word bytes) (let e : 0 + i * 4 ≡ i * 4 = omega arith in e) in
    let one : words_sum bytes 0 (suc i) ≡ words_sum bytes 0 (i + 1) = ap (words_sum bytes 0) (sym (add-one i)) in
    omega arith
