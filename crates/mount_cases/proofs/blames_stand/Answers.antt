use Rattle.std.proofs.Common.{◌≡◌, ◌⊎◌, ℕ, ◌<◌, [], ◌∷◌, length, take, slice_index, Ok, Result, IsSome, refl, sym, ap, ◌∙◌, inl, inr, arith}
use Rattle.device.specs.declared.question.Area.{Area}
use Rattle.device.specs.declared.question.Area.TheVariants as area
use Rattle.tree.specs.Shape.{levels_from, levels_of, width, blocks_from}
use Rattle.tree.specs.Tree.{node, level, lowest, tree, root}
use Rattle.layers.specs.Publisher.{right_block}
use Rattle.layers.specs.declared.fault.StorageFault.{StorageFault}
use Rattle.volume.specs.Words.{sums_to_zero}
use Rattle.volume.specs.Start.{start_of, start}
use Rattle.volume.specs.Header.{header_of, header}
use Rattle.volume.specs.Walk.{seek}
use Rattle.volume.specs.Use.{enter, follow}
use Rattle.volume.specs.Paths.{enter_all, file_at, open_path, list_path}
use Rattle.calls.specs.declared.refusal.Refusal.{Refusal}
use Rattle.calls.specs.Calls.{Given, started, Reply, begin_rules, open_rules}
use Rattle.calls.specs.Image.{named}
use Rattle.mount_cases.specs.Blames.{right_low, twin_of_low, wrong_low, begin_with}
use Rattle.mount_cases.proofs.Plain.{some_is, none_is, ok_is, err_is, not_err, five_is_not_seven, two_is_not_one, not_96, false_is_not_true}
use Rattle.mount_cases.proofs.blames_stand.Goals as goal

-- the second byte of the twin is another, and the first of the wrong block
twin_unlike : twin_of_low ≡ right_low → ⊥
twin_unlike e = let second : ◌≡◌ {A = ℕ} 1 0 = ap (λ bytes. slice_index bytes 1) e in cc

wrong_unlike : wrong_low ≡ right_low → ⊥
wrong_unlike e = let first : ◌≡◌ {A = ℕ} 8 7 = ap (λ bytes. slice_index bytes 0) e in cc

data_is_not_tree : ◌≡◌ {A = Area} area.Data area.Tree → ⊥
data_is_not_tree e = cc

-- the size that an answer to begin tells
size_of : Result Given (Refusal (StorageFault ℕ)) → ℕ
size_of (Ok (started s)) = s.size
size_of r = 0

-- with another size it is not the image's
other_size : {reply : Reply (StorageFault ℕ)} → reply ≡ (begin_with 80).reply → IsSome (named (begin_with 96).reply.answer) ⊎ ((begin_with 96).reply ≡ reply) → ⊥
unfolding size_of
other_size is agreed = elim agreed [ inl faulty ↦ false_is_not_true faulty | inr same ↦ not_96 (ap (λ reply. size_of reply.answer) (same ∙ is)) ]

pub returns : goal.returns
unfolding levels_from levels_of width blocks_from node level lowest tree root right_block sums_to_zero start_of start header_of header seek enter follow enter_all file_at open_path list_path begin_rules open_rules
returns c = record {
  right_top = refl;
  right_of_tree = refl;
  past_the_tree = refl;
  part_of_tree = refl;
  right_data = refl;
  past_the_data = refl;
  longer_data = refl;
  honest = (λ right e. ap Ok (some_is e), (λ right e. absurd (none_is e), (λ right e. absurd (none_is e), tt)));
  refused_not_honest = λ h. err_is (h.0 right_low refl);
  wrong_not_honest = λ h. five_is_not_seven (ok_is (h.0 (7 ∷ []) refl));
  right_no_twin = λ t. t.unlike (sym (ok_is t.answered) ∙ some_is t.published);
  longer_no_twin = λ t. two_is_not_one (ap length (ok_is t.answered) ∙ t.long ∙ sym (ap length (some_is t.published)));
  wrong_no_twin = λ t. five_is_not_seven (ap (take 1) (ok_is t.answered) ∙ t.same ∙ sym (ap (take 1) (some_is t.published)));
  twin = record { given = twin_of_low; right = right_low; answered = refl; published = refl; unlike = twin_unlike; long = refl; same = refl };
  right_not_to_blame = λ b. elim b [ inl h ↦ elim h.1 [ inl r ↦ not_err r.1.1 | inr d ↦ d.unlike (sym (ok_is d.answered) ∙ some_is d.published) ] | inr none ↦ none ];
  another_not_to_blame = λ b. elim b [ inl h ↦ two_is_not_one (sym h.0.1) | inr none ↦ none ];
  other_level_not_to_blame = λ b. elim b [ inl h ↦ let last : 2 < 1 = h.0.2.2 in absurd (omega arith) | inr none ↦ none ];
  other_area_not_to_blame = λ b. elim b [ inl h ↦ data_is_not_tree h.0.0 | inr none ↦ none ];
  tree_to_blame = inl ((refl, refl, (omega arith, omega arith, omega arith)), inr (record { given = wrong_low; right = right_low; answered = refl; published = refl; unlike = wrong_unlike }));
  data_to_blame = inr (inl ((refl, refl, omega arith), inr (record { given = 5 ∷ []; right = 7 ∷ []; answered = refl; published = refl; unlike = five_is_not_seven })));
  refused_to_blame = inl ((refl, refl, (omega arith, omega arith, omega arith)), inl (7, (refl, refl)));
  for_none_behind = λ f. let below : 129 < 129 = f.2 in absurd (omega arith);
  for_the_last = (refl, refl, omega arith);
  none_to_blame = λ none. none;
  names_wrong = refl;
  names_refused = refl;
  names_no_label = refl;
  names_no_12 = refl;
  names_no_rule = refl;
  names_no_mount = refl;
  names_no_answer = refl;
  image_opens = refl;
  image_goes_on = refl;
  image_stays = refl;
  agrees = (inr refl, tt);
  disagrees = λ a. other_size refl a.0;
  disagrees_later = λ a. other_size refl a.1.0;
  faulty_agrees = (inl refl, tt);
}
