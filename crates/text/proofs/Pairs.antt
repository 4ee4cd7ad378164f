-- Pairs of digits, read one at a time; and that reading undoes writing.
use Rattle.std.proofs.Common.{◌≡◌, ℕ, suc, ◌+◌, ◌-◌, ◌*◌, ◌/◌, ◌%◌, ◌<◌, ◌≤◌, ◌≢◌, List, [], ◌∷◌, ◌++◌, length, take, drop, get_or, Option, Some, None, is_some, true, false, refl, sym, ap, ◌∙◌, arith, append_assoc}
use Rattle.std.specs.Option.{option_map}
use Rattle.std.proofs.lemmas.List.{append-nil, length-drop, take_rest}
use Rattle.std.proofs.lemmas.Bool.Decides.{nat_tests}
use Rattle.text.specs.Laws.{DigitsStand}
use Rattle.text.specs.Hex.{before, byte_of, digit_of, digit_value, hex_of, unhex_of}

-- the first two digits, and the rest
unhex_of-pair : (s : List ℕ) → 2 ≤ length s → unhex_of s ≡ before (byte_of (get_or s 0 0) (get_or s 1 0)) (unhex_of (drop 2 s))
unfolding unhex_of
unhex_of-pair [] h = absurd (omega arith)
unhex_of-pair (c ∷ []) h = absurd (omega arith)
unhex_of-pair (high ∷ low ∷ rest) h = refl

before-map : (front : List ℕ) (byte : ℕ) (more : Option (List ℕ)) → option_map (λ m. (front ++ byte ∷ []) ++ m) more ≡ option_map (λ m. front ++ m) (before (Some byte) more)
before-map front byte (Some m) = ap Some (append_assoc front (byte ∷ []) m)
before-map front byte None = refl

before-none : (byte : Option ℕ) → None ≡ before byte None
before-none None = refl
before-none (Some b) = refl

-- two that are no digits
pub unpaired : (s : List ℕ) (f : List ℕ → List ℕ) (t : Option (List ℕ)) → 2 ≤ length s → byte_of (get_or s 0 0) (get_or s 1 0) ≡ None → option_map f (unhex_of s) ≡ t → None ≡ t
unpaired s f t long bad found = ap (λ b. option_map f (before b (unhex_of (drop 2 s)))) (sym bad) ∙ ap (option_map f) (sym (unhex_of-pair s long)) ∙ found

-- one byte more
pub paired : (s front after : List ℕ) (byte : ℕ) (t : Option (List ℕ)) → 2 ≤ length s → byte_of (get_or s 0 0) (get_or s 1 0) ≡ Some byte → after ≡ front ++ byte ∷ [] → option_map (λ m. front ++ m) (unhex_of s) ≡ t → option_map (λ m. after ++ m) (unhex_of (take (length s - 2) (drop 2 s))) ≡ t
paired s front after byte t long good longer found =
    let whole : take (length s - 2) (drop 2 s) ≡ drop 2 s = take_rest s 2 in
    let pair : before (Some byte) (unhex_of (drop 2 s)) ≡ unhex_of s = ap (λ b. before b (unhex_of (drop 2 s))) (sym good) ∙ sym (unhex_of-pair s long) in
    rw (whole, longer) (before-map front byte (unhex_of (drop 2 s)) ∙ ap (option_map (λ m. front ++ m)) pair ∙ found)

-- an odd number of digits
pub odd : (s : List ℕ) → length s % 2 ≢ 0 → None ≡ unhex_of s
unfolding unhex_of
odd [] h = absurd (h refl)
odd (c ∷ []) h = refl
odd (high ∷ low ∷ rest) h = before-none (byte_of high low) ∙ ap (before (byte_of high low)) (odd rest (λ even. h (omega arith)))

-- two digits less
pub two_less : (s : List ℕ) → 2 ≤ length s → length s % 2 ≡ 0 → length (take (length s - 2) (drop 2 s)) % 2 ≡ 0
two_less s long even = ap (λ xs. length xs % 2) (take_rest s 2) ∙ omega (arith, length-drop 2 s)

-- the end of the pairs
pub ended : (front s : List ℕ) (t : Option (List ℕ)) → length s < 2 → length s % 2 ≡ 0 → option_map (λ m. front ++ m) (unhex_of s) ≡ t → Some front ≡ t
unfolding unhex_of
ended front [] t short even found = ap Some (sym (append-nil front)) ∙ found
ended front (c ∷ []) t short even found = absurd (omega arith)
ended front (c ∷ d ∷ rest) t short even found = absurd (omega arith)

-- whether a text is pairs of digits: a pair that is none, one pair less, and the end
none_of : (t : Option (List ℕ)) → is_some t ≡ false → None ≡ t
none_of None h = refl
none_of (Some m) h = cc

before-is_some : (b : ℕ) (more : Option (List ℕ)) → is_some (before (Some b) more) ≡ is_some more
before-is_some b (Some m) = refl
before-is_some b None = refl

pub paired_not : (s : List ℕ) (t : Option (List ℕ)) → 2 ≤ length s → byte_of (get_or s 0 0) (get_or s 1 0) ≡ None → is_some (unhex_of s) ≡ is_some t → None ≡ t
paired_not s t long bad h = none_of t (sym h ∙ ap is_some (unhex_of-pair s long ∙ ap (λ b. before b (unhex_of (drop 2 s))) bad))

pub paired_less : (s : List ℕ) (byte : ℕ) → 2 ≤ length s → byte_of (get_or s 0 0) (get_or s 1 0) ≡ Some byte → is_some (unhex_of (take (length s - 2) (drop 2 s))) ≡ is_some (unhex_of s)
paired_less s byte long good =
    let whole : take (length s - 2) (drop 2 s) ≡ drop 2 s = take_rest s 2 in
    rw whole (sym (before-is_some byte (unhex_of (drop 2 s))) ∙ ap (λ b. is_some (before b (unhex_of (drop 2 s)))) (sym good) ∙ ap is_some (sym (unhex_of-pair s long)))

pub paired_end : (s : List ℕ) (t : Option (List ℕ)) → length s ≡ 0 → is_some (unhex_of s) ≡ is_some t → is_some t ≡ true
unfolding unhex_of
paired_end [] t none h = sym h
paired_end (c ∷ rest) t none h = absurd (omega arith)

pub paired_odd : (s : List ℕ) (t : Option (List ℕ)) → length s < 2 → 0 < length s → is_some (unhex_of s) ≡ is_some t → None ≡ t
unfolding unhex_of
paired_odd [] t short some h = absurd (omega arith)
paired_odd (c ∷ []) t short some h = none_of t (sym h)
paired_odd (c ∷ d ∷ rest) t short some h = absurd (omega arith)

-- a digit that was written reads as itself
digit_value-digit_of : (n : ℕ) → n < 16 → digit_value (digit_of n) ≡ Some n
digit_value-digit_of n h = grind (arith, nat_tests)

byte_of-two_digits : (b : ℕ) → b < 256 → byte_of (digit_of (b / 16)) (digit_of (b % 16)) ≡ Some b
byte_of-two_digits b h =
    let high : b / 16 < 16 = omega arith in
    let low : b % 16 < 16 = omega arith in
    let whole : b / 16 * 16 + b % 16 ≡ b = omega arith in
    rw (digit_value-digit_of (b / 16) high, digit_value-digit_of (b % 16) low) (ap Some whole)

-- the bytes of their own digits
pub unhex_of-hex_of : (bytes : List ℕ) → ((i : ℕ) → get_or bytes i 0 < 256) → unhex_of (hex_of bytes) ≡ Some bytes
unfolding unhex_of
unhex_of-hex_of [] h = refl
unhex_of-hex_of (b ∷ rest) h = rw (byte_of-two_digits b (h 0), unhex_of-hex_of rest (λ i. h (suc i)))

pub digits_stand_lem : DigitsStand
digits_stand_lem = unhex_of-hex_of
