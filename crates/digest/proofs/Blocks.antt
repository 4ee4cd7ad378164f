-- Words and blocks, read from a message's chunks.
use Rattle.std.proofs.Common.{◌≡◌, ℕ, ◌+◌, ◌-◌, ◌*◌, ◌/◌, ◌<◌, ◌≤◌, cond, leb, List, [], ◌∷◌, ◌++◌, map, length, take, drop, sym, refl, ap, ◌∙◌, ap₂, mul-le-mul_right, zero-add, add-one, arith}
use native.Mathlib.Nat.{add-mul-div_right, div-eq_of_lt}
use Rattle.std.proofs.Math.Seq.{drop-append_seam}
use Rattle.std.proofs.lemmas.List.{length-drop, drop-drop, take_all, take-append-le, drop-append-le}
use Rattle.std.specs.List.{range_with_len}
use Rattle.std.proofs.lemmas.List.FromFn.{fill_by_all, get_or-map-range_with_len, length-map-range_with_len}
use Rattle.std.proofs.lemmas.Bool.{le-leb, cond-true}
use Rattle.sha2_block.specs.Variant.{Variant}
use Rattle.sha2_block.specs.Bytes.{number}
use Rattle.sha2_block.specs.Block.{Eight, block_step}
use Rattle.digest.specs.Hash.{word_at, block_at, state_after, last_state}
use Rattle.digest.specs.Padding.{block_bytes, padded}

-- the word that the first bytes of what is left spell, k bytes of it
pub read_word : (v : Variant) (block : List ℕ) (i n k r : ℕ) → n ≡ v.bits / 8 → k ≡ length block - i * n → (i + 1) * (v.bits / 8) ≤ length block
    → r ≡ cond (leb (v.bits / 8) (length (take k (drop (i * n) block)))) (number (take (v.bits / 8) (take k (drop (i * n) block)))) 0
    → r ≡ word_at v block i
unfolding word_at
read_word v block i n k r word count inside read =
    let w = v.bits / 8 in
    let same : i * n ≡ i * w = ap (λ x. i * x) word in
    let rest = drop (i * n) block in
    let left = length-drop (i * n) block in
    let all : take k rest ≡ rest = take_all k rest (omega arith) in
    let enough = le-leb w (length rest) (omega arith) in
    read ∙ ap (λ xs. cond (leb w (length xs)) (number (take w xs)) 0) all ∙ cond-true (leb w (length rest)) (number (take w rest)) 0 enough
    ∙ ap (λ j. number (take w (drop j block))) same

pub block_is : (v : Variant) (bytes : List ℕ) (i w0 w1 w2 w3 w4 w5 w6 w7 w8 w9 w10 w11 w12 w13 w14 w15 : ℕ)
    → w0 ≡ word_at v bytes (16 * i + 0) → w1 ≡ word_at v bytes (16 * i + 1) → w2 ≡ word_at v bytes (16 * i + 2) → w3 ≡ word_at v bytes (16 * i + 3) → w4 ≡ word_at v bytes (16 * i + 4) → w5 ≡ word_at v bytes (16 * i + 5) → w6 ≡ word_at v bytes (16 * i + 6) → w7 ≡ word_at v bytes (16 * i + 7) → w8 ≡ word_at v bytes (16 * i + 8) → w9 ≡ word_at v bytes (16 * i + 9) → w10 ≡ word_at v bytes (16 * i + 10) → w11 ≡ word_at v bytes (16 * i + 11) → w12 ≡ word_at v bytes (16 * i + 12) → w13 ≡ word_at v bytes (16 * i + 13) → w14 ≡ word_at v bytes (16 * i + 14) → w15 ≡ word_at v bytes (16 * i + 15)
    → w0 ∷ w1 ∷ w2 ∷ w3 ∷ w4 ∷ w5 ∷ w6 ∷ w7 ∷ w8 ∷ w9 ∷ w10 ∷ w11 ∷ w12 ∷ w13 ∷ w14 ∷ w15 ∷ [] ≡ block_at v bytes i
unfolding block_at
block_is v bytes i w0 w1 w2 w3 w4 w5 w6 w7 w8 w9 w10 w11 w12 w13 w14 w15 h0 h1 h2 h3 h4 h5 h6 h7 h8 h9 h10 h11 h12 h13 h14 h15 = rw (h0, h1, h2, h3, h4, h5, h6, h7, h8, h9, h10, h11, h12, h13, h14, h15) refl

inner : (w k : ℕ) → k < 16 → k * w + w ≤ 16 * w
inner w k h = omega (arith, mul-le-mul_right w (let le : k + 1 ≤ 16 = omega arith in le))

-- a chunk of the message, k blocks after its start, is block k
module _ (v : Variant) (bytes chunk more : List ℕ) (k : ℕ) (here : drop (k * block_bytes v) bytes ≡ chunk ++ more) (whole : length chunk ≡ block_bytes v) where
  word_in : (j : ℕ) → j < 16 → word_at v chunk (16 * 0 + j) ≡ word_at v bytes (16 * k + j)
  unfolding word_at
  word_in j low =
      let w = v.bits / 8 in
      let fits = inner w j low in
      let same : (16 * 0 + j) * w ≡ j * w = omega arith in
      let place : (16 * k + j) * w ≡ k * block_bytes v + j * w = omega arith in
      ap number
      (ap (λ n. take w (drop n chunk)) same
      ∙ sym
      (ap (λ n. take w (drop n bytes)) place ∙ ap (take w) (sym (drop-drop (j * w) (k * block_bytes v) bytes) ∙ ap (drop (j * w)) here ∙ drop-append-le (j * w) chunk more (omega arith))
      ∙ take-append-le w (drop (j * w) chunk) more (omega (arith, length-drop (j * w) chunk))))

  pub block_in : block_at v chunk 0 ≡ block_at v bytes k
  unfolding block_at
  block_in =
      let near : ℕ → ℕ = λ j. word_at v chunk (16 * 0 + j) in
      let far : ℕ → ℕ = λ j. word_at v bytes (16 * k + j) in
      fill_by_all far (map near (range_with_len 0 16)) 16 0 (length-map-range_with_len near 0 16)
      (λ j h. get_or-map-range_with_len near 0 16 j j 0 h (zero-add j) ∙ word_in j h)

  pub rest_is : more ≡ drop ((k + 1) * block_bytes v) bytes
  rest_is =
      let n = block_bytes v in
      let place : (k + 1) * n ≡ k * n + n = omega arith in
      sym
      (ap (λ j. drop j bytes) place ∙ sym (drop-drop n (k * n) bytes) ∙ ap (drop n) here
      ∙ ap (λ j. drop j (chunk ++ more)) (sym whole) ∙ drop-append_seam chunk more)

pub next_block : (v : Variant) (start : Eight) (bytes : List ℕ) (i : ℕ) (s s' : Eight) (block : List ℕ) → s ≡ state_after v start bytes i → block ≡ block_at v bytes i
    → s' ≡ block_step v s block → s' ≡ state_after v start bytes (i + 1)
unfolding state_after
next_block v start bytes i s s' block before read step =
    step ∙ ap₂ (block_step v) before read ∙ ap (state_after v start bytes) (sym (add-one i))

-- once less than a block is left
pub all_blocks : (v : Variant) (start s : Eight) (m : List ℕ) (k : ℕ) → k * block_bytes v ≤ length (padded v m) → length (drop (k * block_bytes v) (padded v m)) < block_bytes v
    → s ≡ state_after v start (padded v m) k → s ≡ last_state v start m
unfolding last_state
all_blocks v start s m k inside short done =
    let bytes = padded v m in
    let n = block_bytes v in
    let r = length bytes - k * n in
    let left : r < n = omega (arith, length-drop (k * n) bytes) in
    let all : length bytes ≡ r + k * n = omega arith in
    let some : 0 < n = omega arith in
    let blocks : k ≡ length bytes / n = sym (ap (λ j. j / n) all ∙ add-mul-div_right r k some ∙ ap (λ j. j + k) (div-eq_of_lt left) ∙ zero-add k) in
    done ∙ ap (state_after v start bytes) blocks
