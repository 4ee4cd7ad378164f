-- Pairs of digits, with a limit on how many.
use Rattle.std.proofs.Common.{◌≡◌, ℕ, ◌*◌, ◌<◌, ◌≤◌, List, length, get_or, Option, Some, None, ◌∷◌, [], suc, refl, sym, ap, ◌∙◌, arith, leb}
use Rattle.std.proofs.lemmas.Bool.{cond-true, cond-false, cond_both, le-leb, lt-leb}
use Rattle.std.proofs.lemmas.Option.{none-some, same_Some}
use Rattle.text.specs.Hex.{before, byte_of, hex_of, unhex_of}
use Rattle.text.specs.Bytes.{unhexed}
use Rattle.text.proofs.Pairs.{unhex_of-hex_of}

pub unhexed_within : (limit : ℕ) (s : List ℕ) (r : Option (List ℕ)) → length s ≤ 2 * limit → r ≡ unhex_of s → r ≡ unhexed limit s
unhexed_within limit s r few found = found ∙ sym (cond-true (leb (length s) (2 * limit)) (unhex_of s) None (le-leb _ _ few))

pub unhexed_long : (limit : ℕ) (s : List ℕ) → 2 * limit < length s → None ≡ unhexed limit s
unhexed_long limit s long = sym (cond-false (leb (length s) (2 * limit)) (unhex_of s) None (lt-leb _ _ long))

pub unhexed_none : (limit : ℕ) (s : List ℕ) → None ≡ unhex_of s → None ≡ unhexed limit s
unhexed_none limit s none = cond_both (leb (length s) (2 * limit)) (unhex_of s) None (λ r. None ≡ r) (λ _. none) (λ _. refl)

before-some : (byte : Option ℕ) (more : Option (List ℕ)) (m : List ℕ) → before byte more ≡ Some m → (b : ℕ) × (rest : List ℕ) × (more ≡ Some rest) × (m ≡ b ∷ rest)
before-some (Some b) (Some rest) m h = (b, rest, refl, same_Some m (b ∷ rest) (sym h))
before-some (Some b) None m h = absurd (none-some m h)
before-some None more m h = absurd (none-some m h)

-- two digits for each byte
pub unhex_of-length : (s m : List ℕ) → unhex_of s ≡ Some m → length s ≡ 2 * length m
unfolding unhex_of
unhex_of-length [] m h = let none : [] ≡ m = same_Some [] m h in rw (← none) refl
unhex_of-length (c ∷ []) m h = absurd (none-some m h)
unhex_of-length (high ∷ low ∷ rest) m h =
    let parts = before-some (byte_of high low) (unhex_of rest) m h in
    let so : length rest ≡ 2 * length parts.1 = unhex_of-length rest parts.1 parts.2 in
    let longer : length m ≡ suc (length parts.1) = ap length parts.3 in
    omega arith

pub length-hex_of : (bytes : List ℕ) → length (hex_of bytes) ≡ 2 * length bytes
length-hex_of [] = refl
length-hex_of (b ∷ bytes) = let so : length (hex_of bytes) ≡ 2 * length bytes = length-hex_of bytes in omega arith

-- bytes that fit are those of their own digits
pub unhexed-hex_of : (limit : ℕ) (bytes : List ℕ) → ((i : ℕ) → get_or bytes i 0 < 256) → length bytes ≤ limit → unhexed limit (hex_of bytes) ≡ Some bytes
unhexed-hex_of limit bytes each few = sym (unhexed_within limit (hex_of bytes) _ (omega (arith, length-hex_of bytes)) refl) ∙ unhex_of-hex_of bytes each

-- where they give bytes, there are two digits for each
pub unhexed-length : (limit : ℕ) (s m : List ℕ) → unhexed limit s ≡ Some m → length s ≡ 2 * length m
unhexed-length limit s m h = unhex_of-length s m (cond_both (leb (length s) (2 * limit)) (unhex_of s) None (λ r. r ≡ Some m → unhex_of s ≡ Some m) (λ _ found. found) (λ _ found. absurd (none-some m found)) h)
