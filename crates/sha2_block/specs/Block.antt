-- The block step: the schedule of a block's sixteen words, the rounds, and their result added to the state.
use Rattle.std.specs.Prelude.{ℕ, zero, suc, ◌+◌, ◌-◌, List, [], ◌∷◌, ◌++◌, length, slice_index}
use Rattle.sha2_block.specs.Variant.{Variant}
use Rattle.sha2_block.specs.Words.{plus, big_sigma0, big_sigma1, small_sigma0, small_sigma1, choice, majority}

-- the eight words of a state, and the working words of the rounds
pub record Eight : Type 0 where
  pub a : ℕ
  pub b : ℕ
  pub c : ℕ
  pub d : ℕ
  pub e : ℕ
  pub f : ℕ
  pub g : ℕ
  pub h : ℕ

-- W_t from W_(t-2), W_(t-7), W_(t-15) and W_(t-16)
unfoldable pub scheduled : Variant → ℕ → ℕ → ℕ → ℕ → ℕ
scheduled v w2 w7 w15 w16 = plus v (plus v (plus v (small_sigma1 v w2) w7) (small_sigma0 v w15)) w16

-- the word that comes behind the words ws, at place t, their number
unfoldable pub next_word : Variant → List ℕ → ℕ
next_word v ws =
    let t = length ws in
    scheduled v (slice_index ws (t - 2)) (slice_index ws (t - 7)) (slice_index ws (t - 15)) (slice_index ws (t - 16))

unfoldable pub one_more : Variant → List ℕ → List ℕ
one_more v ws = ws ++ next_word v ws ∷ []

unfoldable pub extended : Variant → ℕ → List ℕ → List ℕ
extended v zero ws = ws
extended v (suc n) ws = one_more v (extended v n ws)

-- the whole schedule: W_t is its entry t
unfoldable pub schedule : Variant → List ℕ → List ℕ
schedule v block = extended v (v.rounds - 16) block

-- one round, with K_t and W_t
unfoldable pub round : Variant → ℕ → ℕ → Eight → Eight
round v k w s =
    let t1 = plus v (plus v (plus v (plus v s.h (big_sigma1 v s.e)) (choice v s.e s.f s.g)) k) w in
    let t2 = plus v (big_sigma0 v s.a) (majority s.a s.b s.c) in
    record {
      a = plus v t1 t2;
      b = s.a;
      c = s.b;
      d = s.c;
      e = plus v s.d t1;
      f = s.e;
      g = s.f;
      h = s.g;
    }

-- the working words after n rounds from round t on, with the words ws, the first of them W_t
unfoldable pub rounds_from : Variant → ℕ → List ℕ → ℕ → Eight → Eight
rounds_from v t ws zero s = s
rounds_from v t ws (suc n) s = round v (slice_index v.constants (t + n)) (slice_index ws n) (rounds_from v t ws n s)

-- two states, added word by word
unfoldable pub added : Variant → Eight → Eight → Eight
added v s t = record {
  a = plus v s.a t.a;
  b = plus v s.b t.b;
  c = plus v s.c t.c;
  d = plus v s.d t.d;
  e = plus v s.e t.e;
  f = plus v s.f t.f;
  g = plus v s.g t.g;
  h = plus v s.h t.h;
}

-- the state after a block of sixteen words
unfoldable pub block_step : Variant → Eight → List ℕ → Eight
block_step v s block = added v s (rounds_from v 0 (schedule v block) v.rounds s)
