use Rattle.std.proofs.Common.{◌≡◌, ℕ, ◌+◌, ◌-◌, refl, ap, ◌∙◌, subst, sym, arith}
use Rattle.sha2_block.specs.Block.{block_step, added}
use Rattle.sha2_block.specs.declared.block.Work.{Work}
use Rattle.sha2_block.specs.Window.{LeadsTo, eight, sixteen}
use Rattle.sha2_block.proofs.Rounds.{next_turn, rounds_done}
use Rattle.sha2_block.proofs.block.compress.Goals as goal
use Rattle.sha2_block.proofs.block.compress.Goals.{else-loop-t-test, then-loop-t-test+else-last-t-gt16}

pub loop-t-preserved : goal.loop-t-preserved
loop-t-preserved g c =
    let law = g.met.W.Word.turns in
    record {
      whole = omega arith;
      low = omega (arith, law.0, law.2, c.rounds-last.ensures, c.loop-t.invariant.whole);
      led = next_turn g.W.Word.variant c.loop-t.t _ _ _ _ _ _ c.loop-t.invariant.led c.turn-work.ensures;
    }

pub returns : goal.returns
unfolding block_step
returns g c =
    let v = g.W.Word.variant in
    let value = g.W.Word.value in
    let law = g.met.W.Word.turns in
    let last = c.rounds-last.result - 16 in
    let block = sixteen value c.args.block in
    let state = eight value c.args.state in
    let Led = λ (n : ℕ) (w : Work _). LeadsTo v 0 n block state (sixteen value w.window) (eight value w.state) in
    let before = c.loop-t.invariant.led in
    let led : Led last c.loop-t-test.work =
    elim c.loop-t-test.branch [
      | else-loop-t-test w ↦ let at : c.loop-t.t ≡ last = omega arith in
          subst (Led last) (sym w.work-is) (subst (λ n. Led n c.loop-t.work) at before)
      | then-loop-t-test+else-last-t-gt16 w ↦ let at : c.loop-t.t + 16 ≡ last = omega (arith, law.0, law.2, c.rounds-last.ensures) in
          subst (Led last) (sym w.work-is) (subst (λ n. Led n w.turn-work.result) at (next_turn v c.loop-t.t block _ _ state _ _ before w.turn-work.ensures))
    ] in
    let all = next_turn v last block _ _ state _ _ led c.turn-done.ensures in
    c.sum.ensures ∙ ap (added v state) (rounds_done v (last + 16) block _ state _ refl law.0 (omega (arith, law.0, c.rounds-last.ensures)) all)
