-- A text's first line, and the lines behind it.
use Rattle.std.proofs.Common.{◌≡◌, ℕ, ◌+◌, ◌≤◌, Bool, List, [], ◌∷◌, length, take, drop, Some, None, sym, ◌∙◌, subst, ltb, arith}
use Rattle.std.specs.List.{position, position_or_len, slice_split}
use Rattle.std.proofs.lemmas.Bool.{ltb-true, ltb-false, cond-true, false_from_ne_true}
use Rattle.std.proofs.lemmas.Option.{cond_some, none-some}
use Rattle.std.proofs.lemmas.List.Splits.{slice_split_first, slice_split_none}
use Rattle.std.proofs.lemmas.List.Sums.{fails_before_first}

pub split_found : (p : ℕ → Bool) (xs : List ℕ) (i : ℕ) → Some i ≡ position p xs → slice_split p xs ≡ take i xs ∷ slice_split p (drop (i + 1) xs)
split_found p xs i h =
    let found = cond_some (ltb (position_or_len p xs) (length xs)) (position_or_len p xs) i (sym h) in
    let P : ℕ → Type 0 = λ k. slice_split p xs ≡ take k xs ∷ slice_split p (drop (k + 1) xs) in
    subst P found.1 (slice_split_first p xs 0 (ltb-true _ _ found.0))

pub split_nowhere : (p : ℕ → Bool) (xs : List ℕ) → None ≡ position p xs → slice_split p xs ≡ xs ∷ []
split_nowhere p xs h =
    let over : length xs ≤ position_or_len p xs = ltb-false _ _ (false_from_ne_true _ (λ t. none-some (position_or_len p xs) (h ∙ cond-true _ (Some (position_or_len p xs)) None t))) in
    slice_split_none p xs (λ k d within. fails_before_first p xs k d (omega arith))
