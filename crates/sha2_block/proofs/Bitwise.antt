-- Ch and Maj with fewer operations: the same bit by bit.
use Rattle.std.proofs.Common.{◌≡◌, ℕ, zero, suc, ◌+◌, ◌-◌, ◌/◌, ◌%◌, ◌^◌, ◌<◌, sym, refl, ap, ◌∙◌, subst, inl, inr, arith}
use Rattle.std.proofs.lemmas.Bool.{cases_eq}
use lib.Bits.{bit_and, bit_xor, xor_shr, and_shr, xor_mod, and_mod}

-- a number is its lowest bit and the rest
by_bits : {a b : ℕ} → a / 2 ≡ b / 2 → a % 2 ≡ b % 2 → a ≡ b
by_bits high low = omega arith

xor_half : (a b : ℕ) → bit_xor a b / 2 ≡ bit_xor (a / 2) (b / 2)
xor_half a b = xor_shr a b 1

and_half : (a b : ℕ) → bit_and a b / 2 ≡ bit_and (a / 2) (b / 2)
and_half a b = and_shr a b 1

xor_low : (a b : ℕ) → bit_xor a b % 2 ≡ bit_xor (a % 2) (b % 2)
xor_low a b = xor_mod a b 1

and_low : (a b : ℕ) → bit_and a b % 2 ≡ bit_and (a % 2) (b % 2)
and_low a b = and_mod a b 1

-- what holds of a bit, of three bits, whichever they are
one_bit : (P : ℕ → Type 0) → P 0 → P 1 → (x : ℕ) → P (x % 2)
one_bit P zero_bit set_bit x =
    elim (cases_eq (x % 2) 0) [
      | inl e ↦ subst P (sym e) zero_bit
      | inr ne ↦ subst P (let e : 1 ≡ x % 2 = omega arith in e) set_bit
    ]

three_bits : (P : ℕ → ℕ → ℕ → Type 0) → P 0 0 0 → P 0 0 1 → P 0 1 0 → P 0 1 1 → P 1 0 0 → P 1 0 1 → P 1 1 0 → P 1 1 1 → (x y z : ℕ) → P (x % 2) (y % 2) (z % 2)
three_bits P a b c d e f g h x y z =
    one_bit (λ i. P i (y % 2) (z % 2))
    (one_bit (λ j. P 0 j (z % 2)) (one_bit (P 0 0) a b z) (one_bit (P 0 1) c d z) y)
    (one_bit (λ j. P 1 j (z % 2)) (one_bit (P 1 0) e f z) (one_bit (P 1 1) g h z) y) x

no_bits : (P : ℕ → ℕ → ℕ → Type 0) → P 0 0 0 → (x y z : ℕ) → x < 1 → y < 1 → z < 1 → P x y z
no_bits P none x y z hx hy hz =
    let ex : 0 ≡ x = omega arith in
    let ey : 0 ≡ y = omega arith in
    let ez : 0 ≡ z = omega arith in
    subst (λ i. P i y z) ex (subst (λ j. P 0 j z) ey (subst (P 0 0) ez none))

abbrev Ch : ℕ → ℕ → ℕ → ℕ
Ch x y z = bit_xor z (bit_and x (bit_xor y z))

pub choice_bits : (k x y z : ℕ) → x < 2 ^ k → y < 2 ^ k → z < 2 ^ k → Ch x y z ≡ bit_xor (bit_and x y) (bit_and (2 ^ k - 1 - x) z)
choice_bits zero x y z hx hy hz = no_bits (λ i j l. Ch i j l ≡ bit_xor (bit_and i j) (bit_and (2 ^ 0 - 1 - i) l)) refl x y z hx hy hz
choice_bits (suc k) x y z hx hy hz =
    let half : (2 ^ suc k - 1 - x) / 2 ≡ 2 ^ k - 1 - x / 2 = omega arith in
    let low : (2 ^ suc k - 1 - x) % 2 ≡ 1 - x % 2 = omega arith in
    by_bits
    (simp (xor_half, and_half) (choice_bits k (x / 2) (y / 2) (z / 2) (omega arith) (omega arith) (omega arith) ∙ ap (λ c. bit_xor (bit_and (x / 2) (y / 2)) (bit_and c (z / 2))) (sym half)))
    (simp (xor_low, and_low, low)
    (three_bits (λ i j l. Ch i j l ≡ bit_xor (bit_and i j) (bit_and (1 - i) l)) refl refl refl refl refl refl refl refl x y z))

abbrev Maj : ℕ → ℕ → ℕ → ℕ
Maj x y z = bit_xor y (bit_and (bit_xor x y) (bit_xor y z))

majority_bits : (k x y z : ℕ) → x < 2 ^ k → y < 2 ^ k → z < 2 ^ k → Maj x y z ≡ bit_xor (bit_xor (bit_and x y) (bit_and x z)) (bit_and y z)
majority_bits zero x y z hx hy hz = no_bits (λ i j l. Maj i j l ≡ bit_xor (bit_xor (bit_and i j) (bit_and i l)) (bit_and j l)) refl x y z hx hy hz
majority_bits (suc k) x y z hx hy hz =
    by_bits
    (simp (xor_half, and_half) (majority_bits k (x / 2) (y / 2) (z / 2) (omega arith) (omega arith) (omega arith)))
    (simp (xor_low, and_low)
    (three_bits (λ i j l. Maj i j l ≡ bit_xor (bit_xor (bit_and i j) (bit_and i l)) (bit_and j l)) refl refl refl refl refl refl refl refl x y z))

below_power : (n : ℕ) → n < 2 ^ n
below_power zero = omega arith
below_power (suc n) = omega (arith, below_power n)

pub majority_of : (x y z : ℕ) → Maj x y z ≡ bit_xor (bit_xor (bit_and x y) (bit_and x z)) (bit_and y z)
majority_of x y z =
    let k = x + y + z in
    let all : k < 2 ^ k = below_power k in
    majority_bits k x y z (omega arith) (omega arith) (omega arith)
