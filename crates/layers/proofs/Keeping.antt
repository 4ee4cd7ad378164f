-- What an answer from below changes in the table.
use Rattle.std.proofs.Common.{◌≡◌, ◌+◌, ◌%◌, ◌<◌, cond, leb, length, set, Some, Ok, Err, refl, ap, arith}
use Rattle.std.proofs.lemmas.Bool.{leb-true, leb-false}
use Rattle.std.proofs.lemmas.List.{get_or-set_same, get_or-set_other}
use Rattle.device.specs.declared.question.Question.{Question}
use Rattle.device.specs.Answer.{Answer}
use Rattle.layers.specs.Cache.{Row, Table, keep}
use Rattle.layers.specs.CacheLaws.{Wrote, Keeps}
use Rattle.layers.proofs.Tests.{tested}
use native.Mathlib.Nat.{mod-eq_of_lt}

module _ (table : Table) (four : length table.rows ≡ 4) (low : table.turn < 4) where
  wrote : (row : Row) → Wrote table row (record { rows = set table.rows table.turn (Some row); turn = (table.turn + 1) % 4 })
  wrote row = record {
    written = get_or-set_same table.rows table.turn (Some row) _ (omega arith);
    others = λ i other. get_or-set_other table.rows table.turn i (Some row) _ other;
    next = λ more. mod-eq_of_lt (omega arith);
    first = λ last. ap (λ n. (n + 1) % 4) last;
  }

  pub keep-keeps : {R : Type 0} (q : Question) (answer : Answer R) → Keeps table q answer (keep table q answer)
  keep-keeps {R = R} q (Err refusal) = refl
  keep-keeps {R = R} q (Ok bytes) =
      let row : Row = record { question = q; bytes = bytes } in
      let new : Table = record { rows = set table.rows table.turn (Some row); turn = (table.turn + 1) % 4 } in
      tested (leb (length bytes) 4096) (λ b. Keeps {R = R} table q (Ok bytes) (cond b new table))
      (λ is. (λ short. wrote row, λ long. absurd (omega (arith, leb-true (length bytes) 4096 is))))
      (λ is. (λ short. absurd (omega (arith, leb-false (length bytes) 4096 is)), λ long. refl))
