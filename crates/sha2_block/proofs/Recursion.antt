-- The schedule obeys its recursion, and the window is a part of it.
use Rattle.std.proofs.Common.{◌≡◌, ℕ, zero, suc, ◌+◌, ◌-◌, ◌<◌, ◌≤◌, List, length, get_or, drop, sym, ap, ◌∙◌, suc-add, zero-add, arith}
use Rattle.std.proofs.lemmas.List.{get_or_append_left, get_or_push, get_or-drop, drop-drop, length-drop}
use Rattle.sha2_block.specs.Variant.{Variant}
use Rattle.sha2_block.specs.Block.{scheduled, next_word, one_more, extended, schedule}
use Rattle.sha2_block.specs.Window.{shifted, window_after}
use Rattle.sha2_block.specs.Schedule.{Schedule, ScheduleStands, word}
use Rattle.sha2_block.proofs.Schedule.{length-one_more, length-extended, grown, extended-plus, extended-shifted}

module _ (v : Variant) where
  -- an extension keeps the words that were there
  kept : (n i : ℕ) (ws : List ℕ) → i < length ws → get_or (extended v n ws) i 0 ≡ get_or ws i 0
  kept n i ws inside = let g = grown v n ws in ap (λ xs. get_or xs i 0) g.1 ∙ get_or_append_left ws g.0 0 i inside

  -- of the words with k more than a block's, in a longer extension
  prefix : (k n i : ℕ) (ws : List ℕ) → k ≤ n → i < length ws + k → get_or (extended v n ws) i 0 ≡ get_or (extended v k ws) i 0
  prefix k n i ws le inside =
      let e : n ≡ n - k + k = omega arith in
      ap (λ j. get_or (extended v j ws) i 0) e ∙ ap (λ xs. get_or xs i 0) (extended-plus v (n - k) k ws)
      ∙ kept (n - k) i (extended v k ws) (omega (arith, length-extended v k ws))

  length-shifted : (ws : List ℕ) → length ws ≡ 16 → length (shifted v ws) ≡ 16
  unfolding shifted
  length-shifted ws long = length-drop 1 (one_more v ws) ∙ omega (arith, length-one_more v ws)

  length-window : (n : ℕ) (ws : List ℕ) → length ws ≡ 16 → length (window_after v n ws) ≡ 16
  unfolding window_after
  length-window zero ws long = long
  length-window (suc n) ws long = length-window n (shifted v ws) (length-shifted ws long)

  window_is : (n m : ℕ) (ws : List ℕ) → length ws ≡ 16 → drop n (extended v (n + m) ws) ≡ extended v m (window_after v n ws)
  unfolding window_after
  window_is zero m ws long = ap (λ k. extended v k ws) (zero-add m)
  window_is (suc n) m ws long =
      let one : suc n ≡ 1 + n = omega arith in
      ap (λ k. drop k (extended v (suc n + m) ws)) one
      ∙ sym (drop-drop n 1 (extended v (suc n + m) ws))
      ∙ ap (λ k. drop n (drop 1 (extended v k ws))) (suc-add n m)
      ∙ ap (drop n) (extended-shifted v (n + m) ws long)
      ∙ window_is n m (shifted v ws) (length-shifted ws long)

same_words : (v : Variant) {a b c d a' b' c' d' : ℕ} → a ≡ a' → b ≡ b' → c ≡ c' → d ≡ d' → scheduled v a b c d ≡ scheduled v a' b' c' d'
same_words v p q r s = cc

module _ (v : Variant) (block : List ℕ) (enough : 16 ≤ v.rounds) (long : length block ≡ 16) where
  later : (t : ℕ) → 16 ≤ t → t < v.rounds → word v block t ≡ scheduled v (word v block (t - 2)) (word v block (t - 7)) (word v block (t - 15)) (word v block (t - 16))
  unfolding schedule next_word one_more extended
  later t from below =
      let k = t - 16 in
      let n = v.rounds - 16 in
      let ws : List ℕ = extended v k block in
      let count : length ws ≡ t = length-extended v k block ∙ omega arith in
      let same : (i : ℕ) → i < t → get_or ws i 0 ≡ get_or (extended v n block) i 0 = λ i inside. sym (prefix v k n i block (omega arith) (omega arith)) in
      prefix v (suc k) n t block (omega arith) (omega arith)
      ∙ get_or_push ws (next_word v ws) 0 t count
      ∙ ap (λ j. scheduled v (get_or ws (j - 2) 0) (get_or ws (j - 7) 0) (get_or ws (j - 15) 0) (get_or ws (j - 16) 0)) count
      ∙ same_words v (same (t - 2) (omega arith)) (same (t - 7) (omega arith)) (same (t - 15) (omega arith)) (same (t - 16) (omega arith))

  pub holds : Schedule v block
  unfolding schedule scheduled
  holds = record {
    count = length-extended v (v.rounds - 16) block ∙ omega arith;
    first = λ t below. kept v (v.rounds - 16) t block (omega arith);
    later = later;
    window = λ t i fits inside.
        let m = v.rounds - 16 - t in
        let all : t + m ≡ v.rounds - 16 = omega arith in
        sym (kept v m i (window_after v t block) (omega (arith, length-window v t block long)))
        ∙ ap (λ xs. get_or xs i 0) (sym (window_is v t m block long))
        ∙ get_or-drop t (extended v (t + m) block) i 0
        ∙ ap (λ k. get_or (extended v k block) (t + i) 0) all;
  }

pub schedule_stands_lem : ScheduleStands
schedule_stands_lem v block enough long = holds v block enough long
