-- Pieces of one length, joined: where each lies, and how long the whole is.
use Rattle.std.proofs.Common.{◌≡◌, ℕ, zero, suc, ◌+◌, ◌*◌, ◌<◌, List, ◌++◌, length, take, drop, sym, ap, ◌∙◌, ap₂, add-zero, arith}
use Rattle.std.specs.List.{range_with_len, flat_map}
use Rattle.std.proofs.lemmas.List.{length-append, length-drop, take_at, drop_at, drop-drop, take-append-drop, nil_from_length}
use Rattle.tree.specs.Tree.{block_of}

module _ (g : ℕ → List ℕ) (len : ℕ) (long : (t : ℕ) → length (g t) ≡ len) where
  pub piece : (n a t : ℕ) → t < n → take len (drop (t * len) (flat_map g (range_with_len a n))) ≡ g (a + t)
  piece zero a t h = absurd (omega arith)
  piece (suc n) a zero h =
      let none : zero * len ≡ 0 = omega arith in
      rw none (take_at (g a) (flat_map g (range_with_len (a + 1) n)) len (long a) ∙ ap g (sym (add-zero a)))
  piece (suc n) a (suc t) h =
      let rest = flat_map g (range_with_len (a + 1) n) in
      let past : suc t * len ≡ len + t * len = omega arith in
      ap (λ k. take len (drop k (g a ++ rest))) past
      ∙ ap (take len) (sym (drop-drop (t * len) len (g a ++ rest)) ∙ ap (drop (t * len)) (drop_at (g a) rest len (long a)))
      ∙ piece n (a + 1) t (omega arith) ∙ ap g (omega arith)

  pub length_pieces : (n a : ℕ) → length (flat_map g (range_with_len a n)) ≡ n * len
  length_pieces zero a = omega arith
  length_pieces (suc n) a =
      let rest = flat_map g (range_with_len (a + 1) n) in
      omega (arith, length-append (g a) rest, long a, length_pieces n (a + 1))

-- a list is its blocks
pub same_blocks : (n d : ℕ) (a b : List ℕ) → length a ≡ n * d → length b ≡ n * d → ((k : ℕ) → k < n → block_of d a k ≡ block_of d b k) → a ≡ b
same_blocks zero d a b la lb same = nil_from_length a (omega arith) ∙ sym (nil_from_length b (omega arith))
same_blocks (suc n) d a b la lb same =
    let none : 0 * d ≡ 0 = omega arith in
    let first : take d a ≡ take d b = rw none at (same 0 (omega arith)) in
    let later : (k : ℕ) → k < n → block_of d (drop d a) k ≡ block_of d (drop d b) k = λ k h.
    let past : suc k * d ≡ d + k * d = omega arith in
    ap (take d) (drop-drop (k * d) d a ∙ ap (λ j. drop j a) (sym past)) ∙ same (suc k) (omega arith)
    ∙ ap (take d) (ap (λ j. drop j b) past ∙ sym (drop-drop (k * d) d b)) in
    let rest = same_blocks n d (drop d a) (drop d b) (omega (arith, length-drop d a)) (omega (arith, length-drop d b)) later in
    sym (take-append-drop d a) ∙ ap₂ (λ x y. x ++ y) first rest ∙ take-append-drop d b
