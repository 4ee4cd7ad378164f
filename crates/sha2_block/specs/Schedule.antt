-- The schedule in the standard's words: W_t for every t, and the window that the code keeps of it.
use Rattle.std.specs.Prelude.{◌≡◌, ℕ, ◌+◌, ◌-◌, ◌<◌, ◌≤◌, List, length, slice_index}
use Rattle.sha2_block.specs.Variant.{Variant}
use Rattle.sha2_block.specs.Words.{plus, small_sigma0, small_sigma1}
use Rattle.sha2_block.specs.Block.{schedule}
use Rattle.sha2_block.specs.Window.{window_after}

-- W_t
abbrev pub word : Variant → List ℕ → ℕ → ℕ
word v block t = slice_index (schedule v block) t

pub record Schedule (v : Variant) (block : List ℕ) : Type 0 where
  -- one word for each round
  pub count : length (schedule v block) ≡ v.rounds
  -- the first sixteen are the block's
  pub first : (t : ℕ) → t < 16 → word v block t ≡ slice_index block t
  -- W_t = σ1(W_(t-2)) + W_(t-7) + σ0(W_(t-15)) + W_(t-16)
  pub later : (t : ℕ) → 16 ≤ t → t < v.rounds
      → word v block t ≡ plus v (plus v (plus v (small_sigma1 v (word v block (t - 2))) (word v block (t - 7))) (small_sigma0 v (word v block (t - 15)))) (word v block (t - 16))
  -- before round t the window holds W_t to W_(t+15)
  pub window : (t i : ℕ) → t + 16 ≤ v.rounds → i < 16 → slice_index (window_after v t block) i ≡ word v block (t + i)

-- of every block of sixteen words
abbrev pub ScheduleStands : Type 0
ScheduleStands = (v : Variant) (block : List ℕ) → 16 ≤ v.rounds → length block ≡ 16 → Schedule v block
