use Rattle.std.proofs.Common.{◌≡◌, suc, ◌-◌, refl, ◌∙◌, subst, arith}
use Rattle.std.proofs.lemmas.List.{length-set}
use Rattle.geometry.proofs.Starts.{Counted, none_counted, next_counted, all_counted}
use Rattle.geometry.proofs.spread.Spread.starts.Goals as goal

pub loop-i-init : goal.loop-i-init
loop-i-init c = (refl, omega arith, λ s fan count height. none_counted s c.args.levels height)

pub loop-i-preserved : goal.loop-i-preserved
loop-i-preserved c =
    let i = c.loop-i.i in
    let inv = c.loop-i.invariant in
    let next : i ≡ suc (i - 1) = omega arith in (
      length-set c.loop-i.starts (i - 1) c.loop-i.total ∙ inv.0,
      omega (arith, c.width-total.ensures.bound),
      λ s fan count height.
          next_counted s c.args.levels height i (i - 1) c.loop-i.total c.width-total.result c.loop-i.starts next c.loop-i.auto.i inv.0 c.requires
          (c.width-total.ensures.value s fan count) (inv.2 s fan count height),
    )

pub returns : goal.returns
returns c s fan count height =
    let inv = c.loop-i.invariant in
    let done : c.loop-i.i ≡ 0 = omega arith in
    all_counted s c.args.levels height c.loop-i.total c.loop-i.starts inv.0
    (subst (λ i. Counted s c.args.levels height i c.loop-i.total c.loop-i.starts) done (inv.2 s fan count height))
