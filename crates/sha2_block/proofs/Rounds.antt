-- Rounds, a few at a time.
use Rattle.std.proofs.Common.{◌≡◌, ℕ, zero, suc, ◌+◌, ◌-◌, ◌≤◌, List, ◌++◌, length, get_or, drop, sym, refl, ap, ◌∙◌, subst, ap₂, add-zero, add_assoc, zero-add, one-add, arith}
use Rattle.std.proofs.lemmas.List.{get_or_append_left, get_or-drop}
use Rattle.sha2_block.specs.Variant.{Variant}
use Rattle.sha2_block.specs.Block.{Eight, round, rounds_from, extended, schedule}
use Rattle.sha2_block.specs.Window.{shifted, rounds_left, LeadsTo}
use Rattle.sha2_block.proofs.Schedule.{length-extended, grown, extended-plus, extended-shifted}

module _ (v : Variant) where
  -- the first of several rounds may as well come by itself
  first_round : (t n : ℕ) (ws : List ℕ) (s : Eight)
      → rounds_from v t ws (suc n) s ≡ rounds_from v (t + 1) (drop 1 ws) n (round v (get_or v.constants t 0) (get_or ws 0 0) s)
  unfolding rounds_from
  first_round t zero ws s = ap (λ k. round v (get_or v.constants k 0) (get_or ws 0 0) s) (add-zero t)
  first_round t (suc n) ws s =
      let e : t + suc n ≡ t + 1 + n = omega arith in
      let word : get_or ws (suc n) 0 ≡ get_or (drop 1 ws) n 0 = sym (get_or-drop 1 ws n 0 ∙ ap (λ k. get_or ws k 0) (omega arith)) in
      let before = first_round t n ws s in
      cc

  -- rounds look at no word past their own
  pub rounds_from_front : (t n : ℕ) (ws more : List ℕ) (s : Eight) → n ≤ length ws → rounds_from v t (ws ++ more) n s ≡ rounds_from v t ws n s
  unfolding rounds_from
  rounds_from_front t zero ws more s h = refl
  rounds_from_front t (suc n) ws more s h =
      let word : get_or (ws ++ more) n 0 ≡ get_or ws n 0 = get_or_append_left ws more 0 n (omega arith) in
      let before = rounds_from_front t n ws more s (omega arith) in
      cc

  pub one_round : (t : ℕ) (ws : List ℕ) (s : Eight) → length ws ≡ 16
      → LeadsTo v t 1 ws s (shifted v ws) (round v (get_or v.constants t 0) (get_or ws 0 0) s)
  unfolding rounds_left
  one_round t ws s long m =
      let word : get_or (extended v (suc m) ws) 0 0 ≡ get_or ws 0 0 =
      let g = grown v (suc m) ws in ap (λ xs. get_or xs 0 0) g.1 ∙ get_or_append_left ws g.0 0 0 (omega arith) in
      ap (λ n. rounds_from v t (extended v n ws) n s) (one-add m)
      ∙ first_round t m (extended v (suc m) ws) s
      ∙ ap (λ xs. rounds_from v (t + 1) xs m (round v (get_or v.constants t 0) (get_or (extended v (suc m) ws) 0 0) s)) (extended-shifted v m ws long)
      ∙ ap (λ w. rounds_from v (t + 1) (extended v m (shifted v ws)) m (round v (get_or v.constants t 0) w s)) word

  -- the same, part by part
  pub one_step : (t k : ℕ) (ws ws' : List ℕ) (s s' : Eight) → length ws ≡ 16 → k ≡ get_or v.constants t 0 → s' ≡ round v k (get_or ws 0 0) s → ws' ≡ shifted v ws
      → LeadsTo v t 1 ws s ws' s'
  one_step t k ws ws' s s' long constant made moved m =
      one_round t ws s long m
      ∙ ap₂ (λ xs x. rounds_left v (t + 1) xs m x) (sym moved) (sym (made ∙ ap (λ x. round v x (get_or ws 0 0) s) constant))

  -- all rounds: the schedule has as many words
  pub all_rounds : (block : List ℕ) (s : Eight) → length block ≡ 16 → 16 ≤ v.rounds
      → rounds_left v 0 block v.rounds s ≡ rounds_from v 0 (schedule v block) v.rounds s
  unfolding rounds_left schedule
  all_rounds block s long enough =
      let m = v.rounds - 16 in
      let e : v.rounds ≡ 16 + m = omega arith in
      let g = grown v 16 (extended v m block) in
      ap (λ xs. rounds_from v 0 xs v.rounds s) (ap (λ n. extended v n block) e ∙ extended-plus v 16 m block ∙ g.1)
      ∙ rounds_from_front 0 v.rounds (extended v m block) g.0 s (omega (arith, length-extended v m block))

  pub no_rounds : (t : ℕ) (ws : List ℕ) (s : Eight) → LeadsTo v t 0 ws s ws s
  no_rounds t ws s m = ap (λ k. rounds_left v t ws k s) (zero-add m) ∙ ap (λ k. rounds_left v k ws m s) (sym (add-zero t))

  pub then_rounds : (t n k : ℕ) (ws ws' ws'' : List ℕ) (s s' s'' : Eight) → LeadsTo v t n ws s ws' s' → LeadsTo v (t + n) k ws' s' ws'' s'' → LeadsTo v t (n + k) ws s ws'' s''
  then_rounds t n k ws ws' ws'' s s' s'' one two m = ap (λ j. rounds_left v t ws j s) (add_assoc n k m) ∙ one (k + m) ∙ two m ∙ ap (λ j. rounds_left v j ws'' m s'') (add_assoc t n k)

  pub next_turn : (t : ℕ) (ws ws' ws'' : List ℕ) (s s' s'' : Eight) → LeadsTo v 0 t ws s ws' s' → LeadsTo v t 16 ws' s' ws'' s'' → LeadsTo v 0 (t + 16) ws s ws'' s''
  next_turn t ws ws' ws'' s s' s'' one two = then_rounds 0 t 16 ws ws' ws'' s s' s'' one (subst (λ k. LeadsTo v k 16 ws' s' ws'' s'') (sym (zero-add t)) two)

  -- once all rounds are done
  pub rounds_done : (n : ℕ) (block ws : List ℕ) (s s' : Eight) → length block ≡ 16 → 16 ≤ v.rounds → n ≡ v.rounds → LeadsTo v 0 n block s ws s'
      → s' ≡ rounds_from v 0 (schedule v block) v.rounds s
  unfolding rounds_left rounds_from
  rounds_done n block ws s s' long enough count done =
      sym (done 0) ∙ ap (λ k. rounds_left v 0 block k s) (add-zero n ∙ count) ∙ all_rounds block s long enough
