use Rattle.std.proofs.Common.{◌≡◌, ◌≤◌, ◌<◌, ℕ, List, [], ◌∷◌, ◌++◌, Result, Ok, Err, refl, sym, ap, subst, inl, inr, arith}
use Rattle.std.specs.List.{AllByRecursion}
use Rattle.tree.specs.Shape.{levels, levels_from, levels_of, width, blocks_from}
use Rattle.tree.specs.Path.{held}
use Rattle.layers.specs.declared.fault.StorageFault.{StorageFault}
use Rattle.layers.specs.declared.fault.StorageFault.TheVariants.{Label}
use Rattle.layers.specs.Path.{given, IsCut}
use Rattle.calls.specs.Paths.{Path, IsWhole}
use Rattle.mount_cases.specs.Cards.{data_of, pair}
use Rattle.mount_cases.specs.Cuts.{last}
use Rattle.mount_cases.specs.Asks.{to_0, cut_0, to_1, cut_1, refusal_of}
use Rattle.mount_cases.proofs.Plain.{ok_is, heads, tails, more_than_none, one_is_not_0, two_is_not_one}
use Rattle.mount_cases.proofs.Down.{down_cut}
use Rattle.mount_cases.proofs.asks_stand.Goals as goal

err_number : ◌≡◌ {A = Result ℕ ℕ} (Err 0) (Err 1) → ◌≡◌ {A = ℕ} 0 1
err_number e = cc

other_fault_is : ◌≡◌ {A = Result (List ℕ) (StorageFault ℕ)} (Err Label) (Err (refusal_of 0)) → ⊥
other_fault_is e = cc

other_value_is : ◌≡◌ {A = Result (List ℕ) (StorageFault ℕ)} (Ok (7 ∷ 5 ∷ [])) (Ok (5 ∷ 7 ∷ [])) → ⊥
other_value_is e = cc

-- one path is all but the last, and the last
single : {p last : Path ℕ} (before : List (Path ℕ)) → p ∷ [] ≡ before ++ last ∷ [] → p ≡ last
single [] e = heads e
single (x ∷ []) e = absurd (more_than_none (sym (tails e)))
single (x ∷ y ∷ more) e = absurd (more_than_none (sym (tails e)))

none_before : (last : Path ℕ) (before : List (Path ℕ)) → [] ≡ before ++ last ∷ [] → ⊥
none_before last [] e = more_than_none (sym e)
none_before last (x ∷ more) e = more_than_none (sym e)

-- the first of two paths is before the last
first_of_two : {p q : Path ℕ} (last : Path ℕ) (before : List (Path ℕ)) → p ∷ q ∷ [] ≡ before ++ last ∷ [] → before ≡ p ∷ []
first_of_two last [] e = absurd (more_than_none (tails e))
first_of_two last (x ∷ []) e = ap (λ x. x ∷ []) (sym (heads e))
first_of_two last (x ∷ y ∷ []) e = absurd (more_than_none (sym (tails (tails e))))
first_of_two last (x ∷ y ∷ z ∷ more) e = absurd (more_than_none (sym (tails (tails e))))

-- cut while data block 1 is asked for
cut_of : Path ℕ → Type 0
cut_of p = IsCut pair p.block (levels pair.shape) pair.root (refusal_of 1) p.exchanges

pub returns : goal.returns
unfolding levels_from levels_of width blocks_from cut_of
returns c = record {
  falling = λ r. let below : 1 < 0 = r.0.0 in absurd (omega arith);
  falling_later = λ r. let below : 2 < 1 = r.1.0.0 in absurd (omega arith);
  twice = λ r. let below : 1 < 1 = r.0.0 in absurd (omega arith);
  before_the_first = λ t. let e : 4 < 4 = t.behind in absurd (omega arith);
  behind_the_last = λ t. let e : 4 < 4 = t.before in absurd (omega arith);
  of_no_bytes = λ t. let e : 0 < 0 = t.some in absurd (omega arith);
  no_path_cut = λ e. none_before e.last e.before e.all;
  whole_path_cut = λ e. let cut : cut_of to_1 = subst cut_of (sym (single e.before e.all)) e.cut in elim cut.1 [ inl h ↦ more_than_none h.0 | inr d ↦ d.3.2.0 (ap (λ b. held pair.shape 1 b 1) (ok_is d.1)) ];
  cut_twice = λ e. let whole : AllByRecursion (IsWhole pair) (cut_0 ∷ []) = subst (λ before. AllByRecursion (IsWhole pair) before) (first_of_two e.last e.before e.all) e.whole in down_cut 0 whole.0.0 whole.0.1.0 whole.0.1.1;
  past_the_image = λ a. let e : 3 ≤ 2 = a.within in absurd (omega arith);
  not_touched = λ a. let e : 1 < 1 = a.touched.0.before in absurd (omega arith);
  in_falling_order = λ a. let e : 1 < 0 = a.rising.0.0 in absurd (omega arith);
  refused_and_whole = λ a. let cut : cut_of to_1 = subst cut_of (sym (single a.ends.before a.ends.all)) a.ends.cut in elim cut.1 [ inl h ↦ more_than_none h.0 | inr d ↦ d.3.2.0 (ap (λ b. held pair.shape 1 b 1) (ok_is d.1)) ];
  accepted_and_cut = λ a. down_cut 1 a.ends.0.0 a.ends.0.1.0 a.ends.0.1.1;
  on_behind_refused = λ m. more_than_none m.2.0;
  other_offset = λ m. one_is_not_0 m.0;
  other_size = λ m. two_is_not_one m.1;
  other_fault = λ m. other_fault_is m.2.1;
  other_value = λ m. other_value_is m.2.2;
  one_fetch_less = λ m. m.2;
  one_fetch_more = λ m. m.2.2;
  refuses_otherwise = λ e. one_is_not_0 (sym (err_number e));
  refuses_and_fetches = λ m. m;
  rising = ((omega arith, (omega arith, tt)), ((omega arith, tt), (tt, tt)));
  touches_first = record { some = omega arith; before = omega arith; behind = omega arith };
  touches_second = record { some = omega arith; before = omega arith; behind = omega arith };
  ends_cut = record { before = to_0 ∷ []; last = cut_1; all = refl; whole = ((5 ∷ [], ((5 ∷ 7 ∷ []) ∷ [], (given (data_of 1 0) (5 ∷ []) ∷ [], refl, refl), (refl, refl))), tt); cut = (refl, inr (5 ∷ 7 ∷ [], refl, refl, (refl, refl, refl))) };
  makes_both = (refl, refl, (refl, refl, refl));
  makes_refused = (refl, refl, (refl, refl));
  refuses = refl;
}
