-- `primes_below` lists the primes: entry t of it is the t-th prime.
use Rattle.std.proofs.Common.{◌≡◌, ℕ, zero, suc, ◌+◌, ◌-◌, ◌%◌, ◌<◌, ◌≤◌, Bool, true, false, cond, eqb, leb, List, [], ◌∷◌, ◌++◌, length, get_or, sym, refl, subst, inl, inr, arith}
use Rattle.std.proofs.lemmas.List.{append-nil, length_push, get_or_push, get_or_append_left}
use Rattle.std.proofs.lemmas.Bool.{false≢true, eqb-false, leb-true, and_parts, cases_lt}
use Rattle.constants.specs.Primes.{Prime, undivided, is_prime, primes_below}
use Rattle.constants.specs.Rule.{NthPrime}

one_divisor : (b x : Bool) → elim b [ true ↦ false | false ↦ x ] ≡ true → (b ≡ false) × (x ≡ true)
one_divisor true x h = absurd (false≢true h)
one_divisor false x h = (refl, h)

none_divides : (p n : ℕ) → undivided p n ≡ true → (d : ℕ) → 2 ≤ d → d < n + 2 → p % d ≡ 0 → ⊥
unfolding undivided
none_divides p zero h d low high z = omega arith
none_divides p (suc n) h d low high z =
    let parts = one_divisor (eqb (p % suc (suc n)) 0) (undivided p n) h in
    elim (cases_lt d (n + 2)) [
      | inl below ↦ none_divides p n parts.1 d low below z
      | inr above ↦ eqb-false (p % suc (suc n)) 0 parts.0 (subst (λ k. p % k ≡ 0) (omega arith) z)
    ]

pub prime_from_test : (p : ℕ) → is_prime p ≡ true → Prime p
unfolding is_prime
prime_from_test p h =
    let parts = and_parts (leb 2 p) (undivided p (p - 2)) h in
    let low : 2 ≤ p = leb-true 2 p parts.0 in
    (low, λ d from below. none_divides p (p - 2) parts.1 d from (omega arith))

-- p passes the test, and t primes lie below it
abbrev Place : ℕ → ℕ → Type 0
Place t p = (is_prime p ≡ true) × (length (primes_below p) ≡ t)

earlier : (n t : ℕ) (more : List ℕ) → t < length (primes_below n) → Place t (get_or (primes_below n) t 0) → Place t (get_or (primes_below n ++ more) t 0)
earlier n t more below place = subst (Place t) (sym (get_or_append_left (primes_below n) more 0 t below)) place

-- the same of entry t of the primes below n and, if b says that n is prime, of n
one_more : (n t : ℕ) (b : Bool) → is_prime n ≡ b → t < length (primes_below n ++ cond b (n ∷ []) [])
    → (t < length (primes_below n) → Place t (get_or (primes_below n) t 0)) → Place t (get_or (primes_below n ++ cond b (n ∷ []) []) t 0)
one_more n t false e below before =
    let h : t < length (primes_below n) = subst (λ ps. t < length ps) (append-nil (primes_below n)) below in
    earlier n t [] h (before h)
one_more n t true e below before =
    elim (cases_lt t (length (primes_below n))) [
      | inl h ↦ earlier n t (n ∷ []) h (before h)
      | inr h ↦
          let last : length (primes_below n) ≡ t = omega (arith, length_push (primes_below n) n) in
          subst (Place t) (sym (get_or_push (primes_below n) n 0 t last)) (e, last)
    ]

place : (n t : ℕ) → t < length (primes_below n) → Place t (get_or (primes_below n) t 0)
unfolding primes_below
place zero t h = absurd (omega arith)
place (suc n) t h = one_more n t (is_prime n) refl h (place n t)

pub nth_prime : (n t : ℕ) → t < length (primes_below n) → NthPrime t (get_or (primes_below n) t 0)
nth_prime n t h = let at = place n t h in (prime_from_test (get_or (primes_below n) t 0) at.0, at.1)
