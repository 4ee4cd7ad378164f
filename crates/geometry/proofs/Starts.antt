-- Where levels start, found from the top level down.
use Rattle.std.proofs.Common.{◌≡◌, ℕ, suc, ◌+◌, ◌-◌, ◌<◌, ◌≤◌, ◌≢◌, List, length, get_or, set, replicate, sym, ap, ◌∙◌, ap₂, inl, inr, add-one, arith}
use Rattle.std.proofs.lemmas.List.FromFn.{fill_by_all}
use Rattle.std.proofs.lemmas.List.{get_or-replicate, get_or-set_same, get_or-set_other}
use Rattle.std.proofs.lemmas.Bool.{cases_eq}
use Rattle.tree.specs.Shape.{Shape, levels, width, blocks_from, start}
use Rattle.geometry.specs.Limits.{starts}

module _ (s : Shape) (m : ℕ) (height : levels s ≡ m) where
  -- the levels from i on are counted, and so are their starts
  abbrev pub Counted : ℕ → ℕ → List ℕ → Type 0
  Counted i total found = (total ≡ blocks_from s i (m - i)) × ((j : ℕ) → i ≤ j → j < 7 → get_or found j 0 ≡ start s j)

  pub none_counted : Counted m 0 (replicate 7 0)
  unfolding blocks_from
  none_counted = (
    ap (blocks_from s m) (let e : 0 ≡ m - m = omega arith in e),
    λ j from below.
        get_or-replicate 7 j 0 0 below ∙ ap (blocks_from s (suc j)) (let e : 0 ≡ levels s - suc j = omega arith in e),
  )

  pub next_counted : (i k total w : ℕ) (found : List ℕ) → i ≡ suc k → i ≤ m → length found ≡ 7 → m ≤ 7 → w ≡ width s (k + 1) → Counted i total found
      → Counted k (total + w) (set found k total)
  unfolding blocks_from
  next_counted i k total w found next inside long few wide counted =
      let left : m - k ≡ suc (m - suc k) = omega arith in
      let above : total ≡ blocks_from s (suc k) (m - suc k) = counted.0 ∙ ap (λ x. blocks_from s x (m - x)) next in
      let one : w ≡ width s (suc k) = wide ∙ ap (width s) (add-one k) in
      let sum : total + w ≡ width s (suc k) + blocks_from s (suc k) (m - suc k) = omega (arith, above, one) in (
        sum ∙ ap (blocks_from s k) (sym left),
        λ j from below.
            elim (cases_eq j k) [
              | inl here ↦
                  ap (λ x. get_or (set found k total) x 0) here ∙ get_or-set_same found k total 0 (omega arith) ∙ above
                  ∙ ap₂ (λ x y. blocks_from s (suc x) (y - suc x)) (sym here) (sym height)
              | inr apart ↦ let ne : j ≢ k = apart in get_or-set_other found k j total 0 ne ∙ counted.1 j (omega arith) below
            ],
      )

  pub all_counted : (total : ℕ) (found : List ℕ) → length found ≡ 7 → Counted 0 total found → found ≡ starts s
  unfolding starts
  all_counted total found long counted = fill_by_all (start s) found 7 0 long (λ j below. counted.1 j (omega arith) below)
