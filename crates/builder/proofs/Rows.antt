-- Slots in a row over a row of blocks: where each goes, and what they come to.
use Rattle.std.proofs.Common.{◌≡◌, ℕ, ◌+◌, ◌-◌, ◌*◌, ◌<◌, ◌≤◌, cond, ltb, List, ◌++◌, length, take, drop, replicate, sym, ap, ◌∙◌, ap₂, inl, inr, mul-le-mul_right, mul_assoc, arith}
use borrow.Rule.Slice.PartMut.{put_mid}
use Rattle.std.specs.List.{range_with_len, flat_map}
use Rattle.std.proofs.lemmas.List.{append_assoc, length-append, length-replicate, length-drop, replicate-append-replicate, take_at, drop_at, drop-drop, drop-replicate}
use Rattle.std.proofs.lemmas.Nat.{mod_below, div-add-mod'}
use Rattle.std.proofs.lemmas.Bool.{cond-true, cond-false, lt-ltb, le-ltb, cases_lt}
use Rattle.tree.specs.Shape.{Shape, fanout, width}
use Rattle.tree.specs.Tree.{block_of, in_slot, node, level}
use Rattle.tree.specs.Laws.{Sound}
use Rattle.tree.proofs.Pieces.{length_pieces}
use Rattle.tree.proofs.Slots.{length-in_slot}
use Rattle.tree.proofs.Widths.{parent, width_zero}
use Rattle.builder.specs.Parts.{IsRow, slots_of, row_slots}
use Rattle.builder.proofs.Joins.{joined_split, joined_more, joined_rows, joined_same, joined_zeros}

pub length-slots : (slot : ℕ) (piece : ℕ → List ℕ) (size n : ℕ) → ((k : ℕ) → length (piece k) ≡ size) → size ≤ slot → length (slots_of slot piece n) ≡ n * slot
length-slots slot piece size n sized fits = length_pieces (λ k. in_slot slot (piece k)) slot (λ k. length-in_slot slot size (piece k) (sized k) fits) n 0

-- a digest over the zeros behind a front
over_slot : (front d : List ℕ) (at len r slot : ℕ) → length front ≡ at → length d ≡ len → len ≤ slot → slot ≤ r
    → put_mid at len (front ++ replicate r 0) d ≡ (front ++ in_slot slot d) ++ replicate (r - slot) 0
over_slot front d at len r slot here sized fits room =
    let parts : r - len ≡ slot - length d + (r - slot) = omega arith in
    ap₂ (λ xs ys. xs ++ (d ++ ys)) (take_at front (replicate r 0) at here)
    (ap (drop len) (drop_at front (replicate r 0) at here) ∙ drop-replicate len r 0 ∙ ap (λ k. replicate k 0) parts ∙ sym (replicate-append-replicate (slot - length d) (r - slot) 0))
    ∙ ap (λ xs. front ++ xs) (sym (append_assoc d (replicate (slot - length d) 0) (replicate (r - slot) 0)))
    ∙ sym (append_assoc front (in_slot slot d) (replicate (r - slot) 0))

-- the first j slots
abbrev slots : (List ℕ → List ℕ) → Shape → ℕ → List ℕ → ℕ → List ℕ
slots h s slot row = slots_of slot (λ k. h (block_of s.data_block row k))

-- a buffer of zeros with j slots filled, over a row of which the blocks from j on are left
pub record Filling (h : List ℕ → List ℕ) (s : Shape) (slot total : ℕ) (row : List ℕ) (j step : ℕ) (left buf : List ℕ) : Type 0 where
  pub bytes : step ≡ s.data_block
  rest : left ≡ drop (j * step) row
  within : j ≤ s.blocks
  done : buf ≡ slots h s slot row j ++ replicate (total - j * slot) 0

-- no slot yet
pub filling_starts : {h : List ℕ → List ℕ} {s : Shape} {slot total step : ℕ} {row left buf : List ℕ} → step ≡ s.data_block → left ≡ row → buf ≡ replicate total 0
    → Filling h s slot total row 0 step left buf
filling_starts {slot = slot} {total = total} {step = step} {row = row} bytes all zeros =
    let none : 0 ≡ 0 * step = omega arith in
    let room : total ≡ total - 0 * slot = omega arith in
    record {
      bytes = bytes;
      rest = all ∙ ap (λ k. drop k row) none;
      within = omega arith;
      done = zeros ∙ ap (λ k. replicate k 0) room;
    }

module _ {h : List ℕ → List ℕ} {s : Shape} {size slot total : ℕ} {row : List ℕ} {j step : ℕ} {left buf : List ℕ} (filling : Filling h s slot total row j step left buf)
    (whole : IsRow s row) (sized : (m : List ℕ) → length (h m) ≡ size) (fits : size ≤ slot) where
  long : length left ≡ s.blocks * step - j * step
  long = ap length filling.rest ∙ length-drop (j * step) row ∙ ap (λ k. k - j * step) (whole ∙ ap (λ k. s.blocks * k) (sym filling.bytes))

  length-front : (n : ℕ) → length (slots h s slot row n) ≡ n * slot
  length-front n = length-slots slot (λ k. h (block_of s.data_block row k)) size n (λ k. sized (block_of s.data_block row k)) fits

  -- every slot
  pub filling_ends : length left < step → buf ≡ in_slot total (row_slots h s slot row)
  filling_ends short =
      let all : j ≡ s.blocks = elim (cases_lt j s.blocks) [
        | inl less ↦ let far = mul-le-mul_right step less in absurd (omega (arith, long))
        | inr past ↦ omega (arith, filling.within)
      ] in
      filling.done ∙ ap₂ (λ n k. slots h s slot row n ++ replicate (total - k) 0) all (sym (length-front j) ∙ ap (λ n. length (slots h s slot row n)) all)

  -- block j comes next, as the iterator says
  module _ (room : s.blocks * slot ≤ total) (block more : List ℕ) {k next bytes : ℕ} {Q R : Type 0}
      (goes : ((bytes ≡ step) × ((left ≡ block ++ more) × (length block ≡ step)) × Q) × (k ≡ j) × (next ≡ j + 1) × R) (some : 0 < step) where
    there : j < s.blocks
    there = elim (cases_lt j s.blocks) [
      | inl less ↦ less
      | inr past ↦ let far = mul-le-mul_right step past in absurd (omega (arith, long, ap length goes.0.1.0, length-append block more, goes.0.1.1))
    ]

    behind : j * slot + slot ≤ total
    behind = omega (arith, room, mul-le-mul_right slot there)

    -- its slot has room
    pub filling_room : k * slot + size ≤ length buf
    filling_room =
        let n = total - j * slot in
        let here : k * slot ≡ j * slot = ap (λ x. x * slot) goes.1 in
        omega (arith, ap length filling.done, length-append (slots h s slot row j) (replicate n 0), length-front j, length-replicate {A = ℕ} n 0, behind, fits)

    -- and is filled
    pub filling_goes : {len : ℕ} {d : List ℕ} → len ≡ size → d ≡ h block → Filling h s slot total row next bytes more (put_mid (k * slot) len buf d)
    filling_goes {len = len} {d = d} made_len made =
        let here : j * slot ≡ k * slot = ap (λ x. x * slot) (sym goes.1) in
        let once : j * step + step ≡ (j + 1) * step = omega arith in
        let far : j * step + step ≡ next * bytes = once ∙ ap₂ (λ x y. x * y) (sym goes.2) (sym goes.0.0) in
        let is : block ≡ block_of s.data_block row j =
        sym (take_at block more step goes.0.1.1) ∙ ap (take step) (sym goes.0.1.0 ∙ filling.rest) ∙ ap (λ x. take x (drop (j * x) row)) filling.bytes in
        let last : total - j * slot - slot ≡ total - next * slot = omega (arith, ap (λ x. x * slot) goes.2) in
        record {
          bytes = goes.0.0 ∙ filling.bytes;
          rest = sym (drop_at block more step goes.0.1.1) ∙ ap (drop step) (sym goes.0.1.0 ∙ filling.rest) ∙ drop-drop step (j * step) row ∙ ap (λ x. drop x row) far;
          within = omega (arith, there, goes.2);
          done =
              ap₂ (λ x xs. put_mid (k * slot) x xs d) made_len filling.done
              ∙ over_slot (slots h s slot row j) d (k * slot) size (total - j * slot) slot (length-front j ∙ here) (ap length made ∙ sized block) fits (omega (arith, behind))
              ∙ ap₂ (λ xs x. (slots h s slot row j ++ in_slot slot xs) ++ replicate x 0) (made ∙ ap h is) last
              ∙ ap (λ xs. xs ++ replicate (total - next * slot) 0) (sym (joined_more (λ x. in_slot slot (h (block_of s.data_block row x))) j) ∙ ap (slots h s slot row) (sym goes.2));
        }

module _ {h : List ℕ → List ℕ} {s : Shape} {size : ℕ} (sound : Sound h s size) where
  positive : 0 < fanout s
  positive = omega (arith, sound.wide)

  slot_bytes : (n : ℕ) → n * fanout s * s.slot ≡ n * s.hash_block
  slot_bytes n = mul_assoc n (fanout s) s.slot ∙ ap (λ k. n * k) sound.filled

  -- every block has a slot in level 0
  wide_enough : s.blocks ≤ width s 1 * fanout s
  wide_enough =
      let f = fanout s in
      let last = s.blocks - 1 in
      let up = parent s positive 0 last (omega (arith, width_zero s positive, sound.some)) in
      omega (arith, mod_below last f positive, div-add-mod' last f, mul-le-mul_right f up, sound.some)

  pub slots_room : s.blocks * s.slot ≤ width s 1 * s.hash_block
  slots_room = omega (arith, mul-le-mul_right s.slot wide_enough, slot_bytes (width s 1))

  -- level 0 is the slots, with zeros behind them
  pub level_is : (row : List ℕ) → level h s row 0 ≡ in_slot (width s 1 * s.hash_block) (row_slots h s s.slot row)
  unfolding level node
  level_is row =
      let f = fanout s in
      let up = width s 1 in
      let n = s.blocks in
      let r = up * f - n in
      let piece : ℕ → List ℕ = λ k. in_slot s.slot (h (block_of s.data_block row k)) in
      let zeros : List ℕ = replicate s.slot 0 in
      let slot_at : ℕ → List ℕ = λ k. cond (ltb k (width s 0)) (piece k) zeros in
      let none : 0 * f ≡ 0 = omega arith in
      let parts : up * f ≡ n + r = omega (arith, wide_enough) in
      let long : length (row_slots h s s.slot row) ≡ n * s.slot =
      length-slots s.slot (λ k. h (block_of s.data_block row k)) size n (λ k. sound.sized (block_of s.data_block row k)) sound.fits in
      let rest : r * s.slot ≡ up * s.hash_block - length (row_slots h s s.slot row) = omega (arith, slot_bytes up, ap (λ k. k * s.slot) parts, long) in
      joined_rows slot_at f up 0 ∙ ap₂ (λ a m. flat_map slot_at (range_with_len a m)) none parts ∙ joined_split slot_at n r 0
      ∙ ap₂ (λ xs ys. xs ++ ys)
      (joined_same slot_at piece n 0 (λ k low high. cond-true (ltb k (width s 0)) (piece k) zeros (lt-ltb k (width s 0) (omega (arith, high, width_zero s positive)))))
      (joined_same slot_at (λ k. zeros) r (0 + n) (λ k low high. cond-false (ltb k (width s 0)) (piece k) zeros (le-ltb k (width s 0) (omega (arith, low, width_zero s positive))))
      ∙ joined_zeros s.slot r (0 + n) ∙ ap (λ k. replicate k 0) rest)
