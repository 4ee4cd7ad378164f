use Rattle.std.proofs.Common.{◌≡◌, ◌≤◌, ◌<◌, ℕ, length, replicate, refl, sym, ap, arith}
use Rattle.std.proofs.lemmas.List.{length-replicate}
use Rattle.mount_cases.proofs.Plain.{none_is_some, some_is_none, one_is_not_0, two_is_not_one}
use Rattle.mount_cases.proofs.rows_stand.Goals as goal

-- 4,097 bytes are more than 4,096
longer : 4096 < length (replicate {A = ℕ} 4097 0)
longer = let e = length-replicate {A = ℕ} 4097 0 in omega (arith, e)

longest : length (replicate {A = ℕ} 4096 0) ≤ 4096
longest = let e = length-replicate {A = ℕ} 4096 0 in omega (arith, e)

four_is_not_0 : ◌≡◌ {A = ℕ} 4 0 → ⊥
four_is_not_0 e = cc

pub returns : goal.returns
returns c = record {
  elsewhere = λ w. none_is_some w.written;
  unwritten = λ w. none_is_some w.written;
  written_twice = λ w. some_is_none (w.others 1 one_is_not_0);
  turn_stays = λ w. one_is_not_0 (sym (w.next (omega arith)));
  turn_skips = λ w. two_is_not_one (w.next (omega arith));
  turn_past_the_fourth = λ w. four_is_not_0 (w.first refl);
  kept_not = λ k. none_is_some (k.0 (omega arith)).written;
  longest_kept_not = λ k. none_is_some (k.0 longest).written;
  longer_kept = λ k. one_is_not_0 (ap (λ t. t.turn) (k.1 longer));
  refusal_kept = λ k. one_is_not_0 (ap (λ t. t.turn) k);
}
