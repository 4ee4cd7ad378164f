use Rattle.std.proofs.Common.{◌≡◌, ℕ, List, [], ◌∷◌, take, refl, sym, ap, ◌∙◌, inl, inr}
use Rattle.tree.specs.Shape.{levels_from, levels_of, width, blocks_from}
use Rattle.tree.specs.Path.{held, Leads}
use Rattle.layers.specs.declared.fault.StorageFault.{StorageFault}
use Rattle.layers.specs.declared.fault.StorageFault.TheVariants.{Refused, Mismatch}
use Rattle.layers.specs.Fault.{data_place}
use Rattle.layers.specs.Path.{GivenDown}
use Rattle.mount_cases.specs.Cards.{pair}
use Rattle.mount_cases.specs.Cuts.{top, last, wrong_last, top_place}
use Rattle.mount_cases.proofs.Plain.{ok_is, err_is, heads, tails, more_than_none, six_is_not_five, eight_is_not_seven, one_is_not_0}
use Rattle.mount_cases.proofs.Down.{down_cut}
use Rattle.mount_cases.proofs.cuts_stand.Goals as goal

-- no exchanges on the way down are these
down_without_data : (blocks : List (List ℕ)) → GivenDown pair.shape 1 1 blocks (7 ∷ []) (top ∷ []) → ⊥
unfolding levels_from levels_of width blocks_from
down_without_data [] g = g
down_without_data (b ∷ []) g = more_than_none (sym (tails g.1 ∙ g.2))
down_without_data (b ∷ c ∷ more) g = g.2

down_on : (blocks : List (List ℕ)) → GivenDown pair.shape 1 1 blocks (7 ∷ []) (top ∷ last ∷ last ∷ []) → ⊥
unfolding levels_from levels_of width blocks_from
down_on [] g = g
down_on (b ∷ []) g = more_than_none (tails (tails g.1 ∙ g.2))
down_on (b ∷ c ∷ more) g = g.2

down_other : (blocks : List (List ℕ)) → GivenDown pair.shape 1 1 blocks (8 ∷ []) (top ∷ last ∷ []) → ⊥
unfolding levels_from levels_of width blocks_from
down_other [] g = g
down_other (b ∷ []) g = eight_is_not_seven (sym (ok_is (ap (λ x. x.answer) (heads (tails g.1 ∙ g.2)))))
down_other (b ∷ c ∷ more) g = g.2

-- the digest of wrong data is not held above it
down_wrong : (blocks : List (List ℕ)) → GivenDown pair.shape 1 1 blocks (8 ∷ []) (top ∷ wrong_last ∷ []) → Leads pair.salted pair.shape 1 1 1 pair.root blocks (8 ∷ []) → ⊥
unfolding levels_from levels_of width blocks_from
down_wrong [] g l = g
down_wrong (b ∷ []) g l = eight_is_not_seven (l.1 ∙ sym (ap (λ b. held pair.shape 1 b 1) (ok_is (ap (λ x. x.answer) (heads g.1)))))
down_wrong (b ∷ c ∷ more) g l = l.1

other_reason_is : ◌≡◌ {A = StorageFault ℕ} (Refused top_place 8) (Refused top_place 7) → ⊥
other_reason_is e = cc

other_place_is : ◌≡◌ {A = StorageFault ℕ} (Mismatch (data_place 1)) (Mismatch top_place) → ⊥
other_place_is e = let places : data_place 1 ≡ top_place = cc in one_is_not_0 (ap (λ place. place.block) places)

pub returns : goal.returns
unfolding levels_from levels_of width blocks_from
returns c = record {
  without_data = λ p. down_without_data p.0 p.1;
  goes_on = λ p. down_on p.0 p.1;
  wrong_data = λ p. down_wrong p.0 p.1 p.2;
  refused_data = λ p. down_cut 1 (7 ∷ []) p.0 p.1;
  nothing = λ c. c;
  first_alone = λ c. elim c.1 [ inl h ↦ h.1.0 refl | inr d ↦ d.3 ];
  whole_path = λ c. elim c.1 [ inl h ↦ more_than_none h.0 | inr d ↦ d.3.2.0 (ap (λ b. held pair.shape 1 b 1) (ok_is d.1)) ];
  on_behind_refused = λ c. elim c.1 [ inl h ↦ more_than_none h.0 | inr d ↦ err_is d.1 ];
  on_behind_wrong = λ c. elim c.1 [ inl h ↦ more_than_none h.0 | inr d ↦ six_is_not_five (ap (take 1) (ok_is d.1) ∙ d.2) ];
  on_behind_data = λ c. elim c.1 [ inl h ↦ more_than_none h.0 | inr d ↦ more_than_none d.3.1 ];
  past_a_wrong_one = λ c. elim c.1 [ inl h ↦ more_than_none h.0 | inr d ↦ six_is_not_five (ap (take 1) (ok_is d.1) ∙ d.2) ];
  past_a_refused_one = λ c. elim c.1 [ inl h ↦ more_than_none h.0 | inr d ↦ err_is d.1 ];
  other_data = λ c. elim c.1 [ inl h ↦ more_than_none h.0 | inr d ↦ one_is_not_0 (sym (ap (λ q. q.block) d.3.0)) ];
  other_tree = λ c. one_is_not_0 (ap (λ q. q.block) c.0);
  other_reason = λ c. elim c.1 [ inl h ↦ other_reason_is h.1 | inr d ↦ err_is d.1 ];
  other_place = λ c. elim c.1 [ inl h ↦ other_place_is h.1.1 | inr d ↦ d.3 ];
  other_bytes = λ s. let p = (s.accepted (8 ∷ [])).0 refl in down_other p.0 p.1;
  other_fault = λ s. let cut = (s.refused (Refused top_place 8)).0 refl in elim cut.1 [ inl h ↦ other_reason_is h.1 | inr d ↦ err_is d.1 ];
  path = ((5 ∷ 7 ∷ []) ∷ [], (last ∷ [], refl, refl), (refl, refl));
  cut_at_data = (refl, inr (5 ∷ 7 ∷ [], refl, refl, (refl, refl, (eight_is_not_seven, refl))));
  cut_at_refused = (refl, inr (5 ∷ 7 ∷ [], refl, refl, (refl, refl, refl)));
  cut_at_top = (refl, inl (refl, (six_is_not_five, refl)));
  cut_at_refused_top = (refl, inl (refl, refl));
}
