-- A path that is cut at its data is not whole.
use Rattle.std.proofs.Common.{ℕ, List, [], ◌∷◌, ap, ◌∙◌}
use Rattle.layers.specs.Path.{GivenDown}
use Rattle.mount_cases.specs.Blames.{refused_of}
use Rattle.mount_cases.specs.Cards.{data_of, pair}
use Rattle.mount_cases.specs.Cuts.{top}
use Rattle.mount_cases.proofs.Plain.{err_is, heads, tails}

pub down_cut : (k : ℕ) (bytes : List ℕ) (blocks : List (List ℕ)) → GivenDown pair.shape k 1 blocks bytes (top ∷ refused_of (data_of 1 k) ∷ []) → ⊥
down_cut k bytes [] g = g
down_cut k bytes (b ∷ []) g = err_is (ap (λ x. x.answer) (heads (tails g.1 ∙ g.2)))
down_cut k bytes (b ∷ c ∷ more) g = g.2
