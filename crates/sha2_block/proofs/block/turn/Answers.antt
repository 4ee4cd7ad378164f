use Rattle.sha2_block.specs.Window.{eight, sixteen}
use Rattle.sha2_block.proofs.Rounds.{no_rounds, then_rounds}
use Rattle.sha2_block.proofs.block.turn.Goals as goal

pub returns : goal.returns
returns g c =
    let v = g.W.Word.variant in
    let value = g.W.Word.value in
    let r0 = no_rounds v c.args.t (sixteen value c.args.work.window) (eight value c.args.work.state) in
    let r1 = then_rounds v c.args.t 0 1 _ _ _ _ _ _ r0 c.step-work.ensures in
    let r2 = then_rounds v c.args.t 1 1 _ _ _ _ _ _ r1 c.step-work-2.ensures in
    let r3 = then_rounds v c.args.t 2 1 _ _ _ _ _ _ r2 c.step-work-3.ensures in
    let r4 = then_rounds v c.args.t 3 1 _ _ _ _ _ _ r3 c.step-work-4.ensures in
    let r5 = then_rounds v c.args.t 4 1 _ _ _ _ _ _ r4 c.step-work-5.ensures in
    let r6 = then_rounds v c.args.t 5 1 _ _ _ _ _ _ r5 c.step-work-6.ensures in
    let r7 = then_rounds v c.args.t 6 1 _ _ _ _ _ _ r6 c.step-work-7.ensures in
    let r8 = then_rounds v c.args.t 7 1 _ _ _ _ _ _ r7 c.step-work-8.ensures in
    let r9 = then_rounds v c.args.t 8 1 _ _ _ _ _ _ r8 c.step-work-9.ensures in
    let r10 = then_rounds v c.args.t 9 1 _ _ _ _ _ _ r9 c.step-work-10.ensures in
    let r11 = then_rounds v c.args.t 10 1 _ _ _ _ _ _ r10 c.step-work-11.ensures in
    let r12 = then_rounds v c.args.t 11 1 _ _ _ _ _ _ r11 c.step-work-12.ensures in
    let r13 = then_rounds v c.args.t 12 1 _ _ _ _ _ _ r12 c.step-work-13.ensures in
    let r14 = then_rounds v c.args.t 13 1 _ _ _ _ _ _ r13 c.step-work-14.ensures in
    let r15 = then_rounds v c.args.t 14 1 _ _ _ _ _ _ r14 c.step-work-15.ensures in
    let r16 = then_rounds v c.args.t 15 1 _ _ _ _ _ _ r15 c.step-work-16.ensures in
    r16
