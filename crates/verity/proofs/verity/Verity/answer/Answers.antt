use Rattle.std.proofs.Common.{◌≡◌, None, ap, sym, ◌∙◌}
use Rattle.device.specs.Answer.{answered, question}
use Rattle.layers.proofs.Walking.{verity-label, verity-no-block, verity-walks}
use Rattle.verity.specs.Anchored.{anchor_of, kept}
use Rattle.verity.specs.Layer.{label_of}
use Rattle.verity.proofs.verity.Verity.answer.Goals as goal

pub returns-in_default-clause-run : goal.returns-in_default-clause-run
returns-in_default-clause-run g c =
    let v = c.args.self.now in
    verity-label g.D.Device.meaning g.D.Device.moves (label_of v) (question c.args.area c.args.block c.args.buf.now) v.below (ap kept (let e : v.anchor ≡ None = cc in e))

pub returns-then-not-holds-clause-run : goal.returns-then-not-holds-clause-run
returns-then-not-holds-clause-run g c =
    let v = c.args.self.now in
    verity-no-block g.D.Device.meaning g.D.Device.moves (label_of v) (question c.args.area c.args.block c.args.buf.now) v.below (anchor_of c.in-Some.anchor) (ap kept c.in-Some.is) (sym c.holds.ensures ∙ c.if-not-holds.true)

pub returns-clause-run : goal.returns-clause-run
returns-clause-run g c =
    let v = c.args.self.now in
    verity-walks g.D.Device.meaning g.D.Device.moves (label_of v) (question c.args.area c.args.block c.args.buf.now) v.below (anchor_of c.in-Some.anchor) (ap kept c.in-Some.is) (sym c.holds.ensures ∙ c.if-not-holds.false)
    (answered c.walk.result c.walk.new.buf) c.walk.new.below c.walk.ensures.run
