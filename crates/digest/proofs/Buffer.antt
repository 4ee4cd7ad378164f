-- Writes behind one another into a buffer of zeros.
use Rattle.std.proofs.Common.{◌≡◌, ℕ, ◌+◌, ◌-◌, ◌≤◌, List, [], ◌∷◌, ◌++◌, length, take, drop, replicate, sym, refl, ap, ◌∙◌, subst, ap₂, arith}
use borrow.Rule.Slice.PartMut.{put_mid}
use lib.Seq.{take-append-add, drop-append-add}
use Rattle.std.proofs.lemmas.List.{append_assoc, append-nil, length-append, length-replicate, take-replicate, drop-replicate}
use Rattle.digest.specs.declared.padded.TheConstants.{PADDED}
use Rattle.digest.specs.Buffer.{Filled, Behind}

-- what stands before and behind a place of a buffer that is zeros from there on
module _ (front buf : List ℕ) (at : ℕ) (filled : Filled front buf) (behind : length front ≤ at) (inside : at ≤ PADDED) where
  place : at ≡ length front + (at - length front)
  place = omega arith

  before : take at buf ≡ front ++ replicate (at - length front) 0
  before =
      ap₂ take place filled ∙ take-append-add front (replicate (PADDED - length front) 0) (at - length front)
      ∙ ap (λ xs. front ++ xs) (take-replicate (at - length front) (PADDED - length front) 0 (omega arith))

  after : (n : ℕ) → drop n (drop at buf) ≡ replicate (PADDED - at - n) 0
  after n =
      let rest : PADDED - length front - (at - length front) ≡ PADDED - at = omega arith in
      ap (drop n)
      (ap₂ drop place filled ∙ drop-append-add front (replicate (PADDED - length front) 0) (at - length front)
      ∙ drop-replicate (at - length front) (PADDED - length front) 0 ∙ ap (λ k. replicate k 0) rest)
      ∙ drop-replicate n (PADDED - at) 0

-- bytes at a place behind the front: zeros fill the gap
pub put_behind : (front bytes buf : List ℕ) (at n : ℕ) → n ≡ length bytes → at + length bytes ≤ PADDED → Filled front buf → length front ≤ at
    → Filled (front ++ replicate (at - length front) 0 ++ bytes) (put_mid at n buf bytes)
put_behind front bytes buf at n count inside filled behind =
    let gap : List ℕ = replicate (at - length front) 0 in
    let long : length (front ++ gap ++ bytes) ≡ at + length bytes =
    length-append (front ++ gap) bytes ∙ ap (λ k. k + length bytes) (length-append front gap ∙ ap (λ k. length front + k) (length-replicate (at - length front) 0) ∙ omega arith) in
    let rest : PADDED - at - n ≡ PADDED - length (front ++ gap ++ bytes) = omega arith in
    ap₂ (λ xs ys. xs ++ (bytes ++ ys)) (before front buf at filled behind (omega arith)) (after front buf at filled behind (omega arith) n ∙ ap (λ k. replicate k 0) rest)
    ∙ sym (append_assoc (front ++ gap) bytes (replicate (PADDED - length (front ++ gap ++ bytes)) 0))

-- no gap where the place is the front's end
pub no_gap : (front bytes buf : List ℕ) (at : ℕ) → at ≡ length front → Filled (front ++ replicate (at - length front) 0 ++ bytes) buf → Filled (front ++ bytes) buf
no_gap front bytes buf at end filled =
    let none : at - length front ≡ 0 = omega arith in
    subst (λ xs. Filled (xs ++ bytes) buf) (ap (λ k. front ++ replicate k 0) none ∙ append-nil front) filled

-- the four writes of a padded message: two parts, the byte 80 hex, and eight bytes of length
pub four_writes : (first second tail b0 b1 b2 b3 b4 : List ℕ) (n end : ℕ) → n ≡ length first + length second → b0 ≡ replicate PADDED 0
    → Behind b0 0 first b1 → Behind b1 (length first) second b2 → Behind b2 n (0x80 ∷ []) b3 → Behind b3 end tail b4 → n + 1 ≤ end
    → Filled (first ++ second ++ (0x80 ∷ []) ++ replicate (end - length (first ++ second ++ (0x80 ∷ []))) 0 ++ tail) b4
four_writes first second tail b0 b1 b2 b3 b4 n end count zeros w1 w2 w3 w4 room =
    let joined = length-append first second in
    let ended = length-append (first ++ second) (0x80 ∷ []) in
    let f1 : Filled first b1 = w1 [] zeros (omega arith) in
    let f2 : Filled (first ++ second) b2 = no_gap first second b2 (length first) refl (w2 first f1 (omega arith)) in
    let f3 : Filled (first ++ second ++ (0x80 ∷ [])) b3 = no_gap (first ++ second) (0x80 ∷ []) b3 n (omega arith) (w3 (first ++ second) f2 (omega arith)) in
    w4 (first ++ second ++ (0x80 ∷ [])) f3 (omega arith)
