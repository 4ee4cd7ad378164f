-- The padded message is a whole number of blocks, and what the code writes is it.
use Rattle.std.proofs.Common.{◌≡◌, ℕ, zero, suc, ◌+◌, ◌-◌, ◌*◌, ◌/◌, ◌%◌, ◌^◌, ◌<◌, ◌≤◌, ◌⊎◌, List, [], ◌∷◌, ◌++◌, length, replicate, sym, refl, ap, ◌∙◌, ap₂, inl, inr, div-one, arith}
use Rattle.std.proofs.lemmas.List.{append_assoc, length-append, length-replicate, replicate-append-replicate}
use Rattle.sha2_block.specs.Variant.{Variant}
use Rattle.sha2_block.specs.Bytes.{big_endian}
use Rattle.digest.specs.Padding.{block_bytes, length_bytes, zeros, padded}

pub length-big_endian : (k n : ℕ) → length (big_endian k n) ≡ k
length-big_endian zero n = refl
length-big_endian (suc k) n = ap suc (length-big_endian k n)

-- where the padded message ends
pub ends : (v : Variant) → ((v.bits ≡ 32) ⊎ (v.bits ≡ 64)) → (n : ℕ)
    → n + 1 + zeros v n + length_bytes v ≡ (n + length_bytes v) / block_bytes v * block_bytes v + block_bytes v
unfolding zeros
ends v (inl h) n = rw h (omega arith)
ends v (inr h) n = rw h (omega arith)

pub length-padded : (v : Variant) (m : List ℕ) → length (padded v m) ≡ length m + 1 + zeros v (length m) + length_bytes v
unfolding padded
length-padded v m = simp (length-append, length-replicate, length-big_endian)

-- eight bytes hold a small number
pub eight_bytes : (x : ℕ) (bytes : List ℕ)
    → bytes ≡ (x / 72057594037927936 % 256) ∷ (x / 281474976710656 % 256) ∷ (x / 1099511627776 % 256) ∷ (x / 4294967296 % 256) ∷ (x / 16777216 % 256) ∷ (x / 65536 % 256) ∷ (x / 256 % 256) ∷ (x % 256) ∷ []
    → bytes ≡ big_endian 8 x
eight_bytes x bytes read =
    read ∙ ap (λ y. (x / 72057594037927936 % 256) ∷ (x / 281474976710656 % 256) ∷ (x / 1099511627776 % 256) ∷ (x / 4294967296 % 256) ∷ (x / 16777216 % 256) ∷ (x / 65536 % 256) ∷ (x / 256 % 256) ∷ (y % 256) ∷ []) (sym (div-one x))

-- the eight upper ones of sixteen are zeros
sixteen_bytes : (x : ℕ) → x < 2 ^ 64 → big_endian 16 x ≡ replicate 8 0 ++ big_endian 8 x
sixteen_bytes x small =
    let z15 : x / 256 ^ 15 % 256 ≡ 0 = omega arith in
    let z14 : x / 256 ^ 14 % 256 ≡ 0 = omega arith in
    let z13 : x / 256 ^ 13 % 256 ≡ 0 = omega arith in
    let z12 : x / 256 ^ 12 % 256 ≡ 0 = omega arith in
    let z11 : x / 256 ^ 11 % 256 ≡ 0 = omega arith in
    let z10 : x / 256 ^ 10 % 256 ≡ 0 = omega arith in
    let z9 : x / 256 ^ 9 % 256 ≡ 0 = omega arith in
    let z8 : x / 256 ^ 8 % 256 ≡ 0 = omega arith in
    rw (z15, z14, z13, z12, z11, z10, z9, z8) refl

-- zeros up to the last eight bytes, and the length in those
pub written_tail : (v : Variant) → ((v.bits ≡ 32) ⊎ (v.bits ≡ 64)) → (m : List ℕ) (end : ℕ) → length m ≤ 4352
    → end ≡ length (padded v m)
    → m ++ (0x80 ∷ []) ++ replicate (end - 8 - length (m ++ (0x80 ∷ []))) 0 ++ big_endian 8 (8 * length m) ≡ padded v m
unfolding padded
written_tail v (inl h) m end small e =
    let n = length m in
    let words : 8 ≡ length_bytes v = rw h refl in
    let long = length-padded v m in
    let gap : end - 8 - length (m ++ (0x80 ∷ [])) ≡ zeros v n = omega (arith, length-append m (0x80 ∷ [])) in
    ap₂ (λ k j. m ++ (0x80 ∷ []) ++ replicate k 0 ++ big_endian j (8 * n)) gap words
written_tail v (inr h) m end small e =
    let n = length m in
    let front : List ℕ = m ++ (0x80 ∷ []) in
    let z : List ℕ = replicate (zeros v n) 0 in
    let words : 16 ≡ length_bytes v = rw h refl in
    let long = length-padded v m in
    let gap : end - 8 - length (m ++ (0x80 ∷ [])) ≡ zeros v n + 8 = omega (arith, length-append m (0x80 ∷ [])) in
    ap (λ xs. front ++ xs ++ big_endian 8 (8 * n)) (ap (λ k. replicate k 0) gap ∙ sym (replicate-append-replicate (zeros v n) 8 0))
    ∙ ap (λ xs. xs ++ big_endian 8 (8 * n)) (sym (append_assoc front z (replicate 8 0)))
    ∙ append_assoc (front ++ z) (replicate 8 0) (big_endian 8 (8 * n))
    ∙ ap (λ xs. front ++ z ++ xs) (sym (sixteen_bytes (8 * n) (omega arith)))
    ∙ ap (λ j. front ++ z ++ big_endian j (8 * n)) words

-- the code's count of the whole, from a word's bytes
pub whole : (v : Variant) → ((v.bits ≡ 32) ⊎ (v.bits ≡ 64)) → (m : List ℕ) (n w : ℕ) → n ≡ length m → w ≡ v.bits / 8
    → (n + 2 * w) / (16 * w) * (16 * w) + 16 * w ≡ length (padded v m)
whole v law m n w count word =
    ap₂ (λ i j. (i + 2 * j) / (16 * j) * (16 * j) + 16 * j) count word ∙ sym (length-padded v m ∙ ends v law (length m))

-- the message and its one byte end before the last eight
pub room : (v : Variant) → ((v.bits ≡ 32) ⊎ (v.bits ≡ 64)) → (m : List ℕ) (n end : ℕ) → n ≡ length m → end ≡ length (padded v m) → n + 1 ≤ end - 8
room v (inl h) m n end count long = omega (arith, length-padded v m)
room v (inr h) m n end count long = omega (arith, length-padded v m)
