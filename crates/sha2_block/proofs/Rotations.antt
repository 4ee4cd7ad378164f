-- Rotations one after the other, and of an exclusive or.
use Rattle.std.proofs.Common.{◌≡◌, ℕ, ◌+◌, ◌-◌, ◌*◌, ◌/◌, ◌%◌, ◌^◌, ◌<◌, ◌≤◌, sym, ap, ◌∙◌, subst, ap₂, arith}
use native.Mathlib.Nat.{mul-mod_left, mul-add-mod_self_right, add-mul-div_right}
use lib.Bits.{bit_or, bit_xor, xor_block, xor_assoc, xor_lt}
use Rattle.std.proofs.lemmas.Nat.{pow_pos, pow-add, shl-shr, shr-shr, shr_below, mod-pow-add, mod_below, mul-add-lt, or_shifted, or_comm, xor_shr, xor_mod}
use Rattle.sha2_block.specs.Words.{rotr, rotations}
use Rattle.sha2_block.specs.Variant.{amounts}

-- a word of n + k bits, rotated by n: the lower n bits come on top of the k others
abbrev turned : ℕ → ℕ → ℕ → ℕ
turned n k x = (x % 2 ^ n) * 2 ^ k + x / 2 ^ n

shifted_mod : (x n k : ℕ) → (x * 2 ^ k) % 2 ^ (n + k) ≡ (x % 2 ^ n) * 2 ^ k
shifted_mod x n k =
    let none : (x * 2 ^ k) % 2 ^ k ≡ 0 = mul-mod_left x (2 ^ k) in
    mod-pow-add (x * 2 ^ k) n k ∙ ap₂ (λ a b. (a % 2 ^ n) * 2 ^ k + b) (shl-shr x k) none ∙ omega arith

upper_lt : (n k x : ℕ) → x < 2 ^ (n + k) → x / 2 ^ n < 2 ^ k
upper_lt n k x small = shr_below x k n (subst (λ w. x < 2 ^ w) (let e : n + k ≡ k + n = omega arith in e) small)

module _ (w n k : ℕ) (whole : w ≡ n + k) where
  rotated : (x : ℕ) → x < 2 ^ w → rotr w n x ≡ turned n k x
  rotated x small =
      let rest : w - n ≡ k = omega arith in
      ap₂ (λ j v. bit_or (x / 2 ^ n) ((x * 2 ^ j) % 2 ^ v)) rest whole
      ∙ ap (bit_or (x / 2 ^ n)) (shifted_mod x n k)
      ∙ or_comm (x / 2 ^ n) ((x % 2 ^ n) * 2 ^ k)
      ∙ or_shifted (x % 2 ^ n) k (x / 2 ^ n) (upper_lt n k x (subst (λ v. x < 2 ^ v) whole small))

  turned_lt : (x : ℕ) → x < 2 ^ w → turned n k x < 2 ^ w
  turned_lt x small =
      let below = mul-add-lt (x % 2 ^ n) (2 ^ k) (x / 2 ^ n) (2 ^ n) (mod_below x (2 ^ n) (pow_pos n)) (upper_lt n k x (subst (λ v. x < 2 ^ v) whole small)) in
      let size : 2 ^ w ≡ 2 ^ n * 2 ^ k = ap (λ v. 2 ^ v) whole ∙ pow-add 2 n k in
      omega arith

  turned-xor : (x y : ℕ) → x < 2 ^ w → y < 2 ^ w → turned n k (bit_xor x y) ≡ bit_xor (turned n k x) (turned n k y)
  turned-xor x y hx hy =
      ap₂ (λ a b. a * 2 ^ k + b) (xor_mod x y n) (xor_shr x y n)
      ∙ sym (xor_block k (x % 2 ^ n) (y % 2 ^ n) (x / 2 ^ n) (y / 2 ^ n)
      (upper_lt n k x (subst (λ v. x < 2 ^ v) whole hx)) (upper_lt n k y (subst (λ v. y < 2 ^ v) whole hy)))

pub rotr_lt : (w n x : ℕ) → n ≤ w → x < 2 ^ w → rotr w n x < 2 ^ w
rotr_lt w n x le small =
    let whole : w ≡ n + (w - n) = omega arith in
    subst (λ y. y < 2 ^ w) (sym (rotated w n (w - n) whole x small)) (turned_lt w n (w - n) whole x small)

pub rotr-xor : (w n x y : ℕ) → n ≤ w → x < 2 ^ w → y < 2 ^ w → rotr w n (bit_xor x y) ≡ bit_xor (rotr w n x) (rotr w n y)
rotr-xor w n x y le hx hy =
    let k = w - n in
    let whole : w ≡ n + k = omega arith in
    rotated w n k whole (bit_xor x y) (xor_lt w x y hx hy) ∙ turned-xor w n k whole x y hx hy
    ∙ sym (ap₂ bit_xor (rotated w n k whole x hx) (rotated w n k whole y hy))

pub rotr-rotr : (w m n x : ℕ) → m + n ≤ w → x < 2 ^ w → rotr w m (rotr w n x) ≡ rotr w (m + n) x
rotr-rotr w m n x le small =
    let l = w - (m + n) in
    let first : w ≡ n + (m + l) = omega arith in
    let second : w ≡ m + (n + l) = omega arith in
    let both : w ≡ m + n + l = omega arith in
    let y = turned n (m + l) x in
    let split : 2 ^ (m + l) ≡ 2 ^ l * 2 ^ m = pow-add 2 m l ∙ omega arith in
    let spelled : y ≡ (x % 2 ^ n) * 2 ^ l * 2 ^ m + x / 2 ^ n = ap (λ p. (x % 2 ^ n) * p + x / 2 ^ n) split ∙ omega arith in
    let lower : y % 2 ^ m ≡ x / 2 ^ n % 2 ^ m = ap (λ z. z % 2 ^ m) spelled ∙ mul-add-mod_self_right ((x % 2 ^ n) * 2 ^ l) (2 ^ m) (x / 2 ^ n) in
    let swapped : y ≡ x / 2 ^ n + (x % 2 ^ n) * 2 ^ l * 2 ^ m = spelled ∙ omega arith in
    let upper : y / 2 ^ m ≡ x / 2 ^ (n + m) + (x % 2 ^ n) * 2 ^ l =
    ap (λ z. z / 2 ^ m) swapped ∙ add-mul-div_right (x / 2 ^ n) ((x % 2 ^ n) * 2 ^ l) (pow_pos m) ∙ ap (λ z. z + (x % 2 ^ n) * 2 ^ l) (shr-shr x n m) in
    let top : 2 ^ (n + l) ≡ 2 ^ n * 2 ^ l = pow-add 2 n l in
    let low : x % 2 ^ (m + n) ≡ (x / 2 ^ n % 2 ^ m) * 2 ^ n + x % 2 ^ n = mod-pow-add x m n in
    let joined : turned m (n + l) y ≡ turned (m + n) l x =
    ap₂ (λ a b. a * 2 ^ (n + l) + b) lower upper
    ∙ ap₂ (λ p q. (x / 2 ^ n % 2 ^ m) * p + (x / 2 ^ q + (x % 2 ^ n) * 2 ^ l)) top (let e : n + m ≡ m + n = omega arith in e)
    ∙ sym (ap (λ z. z * 2 ^ l + x / 2 ^ (m + n)) low ∙ omega arith) in
    ap (rotr w m) (rotated w n (m + l) first x small)
    ∙ rotated w m (n + l) second y (turned_lt w n (m + l) first x small)
    ∙ joined ∙ sym (rotated w (m + n) l both x small)

-- three rotations, each by what it adds to the one before
pub rotations_nested : (w a b c x : ℕ) → a + b + c ≤ w → x < 2 ^ w
    → rotr w a (bit_xor x (rotr w b (bit_xor x (rotr w c x)))) ≡ bit_xor (bit_xor (rotr w a x) (rotr w (a + b) x)) (rotr w (a + b + c) x)
rotations_nested w a b c x le small =
    let in_c = rotr_lt w c x (omega arith) small in
    let inner = bit_xor x (rotr w c x) in
    let in_inner = xor_lt w x (rotr w c x) small in_c in
    rotr-xor w a x (rotr w b inner) (omega arith) small (rotr_lt w b inner (omega arith) in_inner)
    ∙ ap (bit_xor (rotr w a x))
    (rotr-rotr w a b inner (omega arith) in_inner
    ∙ rotr-xor w (a + b) x (rotr w c x) (omega arith) small in_c
    ∙ ap (bit_xor (rotr w (a + b) x)) (rotr-rotr w (a + b) c x le small))
    ∙ sym (xor_assoc (rotr w a x) (rotr w (a + b) x) (rotr w (a + b + c) x))

-- the same, step by step
pub step_by_step : (w a b c x r₁ r₂ r₃ : ℕ) → a + b + c ≤ w → x < 2 ^ w → r₁ ≡ rotr w c x → r₂ ≡ rotr w b (bit_xor x r₁) → r₃ ≡ rotr w a (bit_xor x r₂)
    → r₃ ≡ rotations w (amounts a (a + b) (a + b + c)) x
step_by_step w a b c x r₁ r₂ r₃ le small h₁ h₂ h₃ =
    h₃ ∙ ap (λ r. rotr w a (bit_xor x r)) (h₂ ∙ ap (λ r. rotr w b (bit_xor x r)) h₁) ∙ rotations_nested w a b c x le small
