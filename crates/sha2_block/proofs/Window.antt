-- The window, one word on.
use Rattle.std.proofs.Common.{◌≡◌, ℕ, [], ◌∷◌, ap, ◌∙◌}
use Rattle.sha2_block.specs.Variant.{Variant}
use Rattle.sha2_block.specs.Words.{plus, small_sigma0, small_sigma1}
use Rattle.sha2_block.specs.Block.{scheduled, next_word, one_more}
use Rattle.sha2_block.specs.Window.{shifted}

-- the words behind the first, and behind them the schedule's next, sum by sum
pub moved : (v : Variant) (w0 w1 w2 w3 w4 w5 w6 w7 w8 w9 w10 w11 w12 w13 w14 w15 a b c d e : ℕ)
    → a ≡ small_sigma1 v w14 → b ≡ plus v a w9 → c ≡ small_sigma0 v w1 → d ≡ plus v b c → e ≡ plus v d w0
    → w1 ∷ w2 ∷ w3 ∷ w4 ∷ w5 ∷ w6 ∷ w7 ∷ w8 ∷ w9 ∷ w10 ∷ w11 ∷ w12 ∷ w13 ∷ w14 ∷ w15 ∷ e ∷ [] ≡ shifted v (w0 ∷ w1 ∷ w2 ∷ w3 ∷ w4 ∷ w5 ∷ w6 ∷ w7 ∷ w8 ∷ w9 ∷ w10 ∷ w11 ∷ w12 ∷ w13 ∷ w14 ∷ w15 ∷ [])
unfolding shifted one_more next_word scheduled
moved v w0 w1 w2 w3 w4 w5 w6 w7 w8 w9 w10 w11 w12 w13 w14 w15 a b c d e ha hb hc hd he =
    ap (λ x. w1 ∷ w2 ∷ w3 ∷ w4 ∷ w5 ∷ w6 ∷ w7 ∷ w8 ∷ w9 ∷ w10 ∷ w11 ∷ w12 ∷ w13 ∷ w14 ∷ w15 ∷ x ∷ [])
    (he ∙ ap (λ x. plus v x w0) (hd ∙ ap (λ x. plus v x c) (hb ∙ ap (λ x. plus v x w9) ha) ∙ ap (plus v (plus v (small_sigma1 v w14) w9)) hc))
