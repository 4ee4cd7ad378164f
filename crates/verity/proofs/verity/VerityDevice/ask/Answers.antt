use Rattle.std.proofs.Common.{◌≡◌, length, Option, Some, sym, subst, ap, ◌∙◌}
use Rattle.device.specs.declared.question.Question.{Question}
use Rattle.device.specs.Answer.{Answer, answered, question}
use Rattle.device.specs.Program.{Meaning, result, exchanges}
use Rattle.device.proofs.Layers.{layer-answer}
use Rattle.device.proofs.Runs.{ran-end, returned-is, filled-is}
use Rattle.layers.specs.declared.fault.StorageFault.{StorageFault}
use Rattle.layers.specs.Anchor.{Anchor}
use Rattle.layers.specs.Publisher.{anchor_of}
use Rattle.layers.specs.Judged.{Judged}
use Rattle.layers.specs.Verity.{verity, verity_layer}
use Rattle.layers.specs.Laws.{Stops, NamesLast}
use Rattle.layers.proofs.Stopping.{paths_stop_lem}
use Rattle.layers.proofs.Judging.{answers_judged_lem}
use Rattle.layers.proofs.Walking.{verity-ran}
use Rattle.verity.specs.Anchored.{kept}
use Rattle.verity.specs.Layer.{label_of}
use Rattle.verity.proofs.Labels.{kept-wide}
use Rattle.verity.proofs.verity.VerityDevice.ask.Goals as goal

-- the answer of the check, by what the label tells
of_label : {R : Type 0} (m : Meaning R) (label : Option Anchor) (anchor : Anchor) → label ≡ Some anchor → (q : Question) (x : Answer (StorageFault R)) → x ≡ result m (verity label q) → x ≡ result m (verity (Some anchor) q)
of_label m label anchor told q x is = is ∙ ap (λ l. result m (verity l q)) told

pub returns-clause-answer : goal.returns-clause-answer
returns-clause-answer g c =
    let v = c.args.self.now in
    let q = question c.args.area c.args.block c.args.buf.now in
    let answer = answered c.answer.result c.answer.new.buf in
    let end = c.answer.new.self.below in
    let ran = verity-ran g.D.Device.meaning g.D.Device.moves (label_of v) q v.below answer end c.answer.ensures.run in
    returned-is _ c.answer.result c.answer.new.buf (layer-answer g.D.Device.meaning g.D.Device.moves g.met.D.Device.onward verity_layer (label_of v) v.below q answer (label_of v) end ran)

pub returns-clause-bytes : goal.returns-clause-bytes
returns-clause-bytes g c =
    let v = c.args.self.now in
    let q = question c.args.area c.args.block c.args.buf.now in
    let answer = answered c.answer.result c.answer.new.buf in
    let end = c.answer.new.self.below in
    let ran = verity-ran g.D.Device.meaning g.D.Device.moves (label_of v) q v.below answer end c.answer.ensures.run in
    filled-is (length c.args.buf.now) _ c.answer.result c.answer.new.buf
    (layer-answer g.D.Device.meaning g.D.Device.moves g.met.D.Device.onward verity_layer (label_of v) v.below q answer (label_of v) end ran) c.answer.ensures.zeros

pub returns-clause-moves : goal.returns-clause-moves
returns-clause-moves g c =
    let v = c.args.self.now in
    let q = question c.args.area c.args.block c.args.buf.now in
    let answer = answered c.answer.result c.answer.new.buf in
    let same : label_of c.answer.new.self ≡ label_of v = ap kept c.answer.ensures.label in
    (answer, rw same (verity-ran g.D.Device.meaning g.D.Device.moves (label_of v) q v.below answer c.answer.new.self.below c.answer.ensures.run))

pub returns-clause-path : goal.returns-clause-path
returns-clause-path g c anchor told block =
    let v = c.args.self.now in
    let q = question c.args.area c.args.block c.args.buf.now in
    let m = g.D.Device.meaning v.below in
    let is = of_label m (label_of v) anchor told q _ (ran-end g.D.Device.meaning g.D.Device.moves g.met.D.Device.onward (verity (label_of v) q) v.below _ c.answer.new.self.below c.answer.ensures.run).0 in
    subst (λ x. Stops anchor q.block x (exchanges m (verity (Some anchor) q))) (sym is) (paths_stop_lem anchor m q block).0

pub returns-clause-last : goal.returns-clause-last
returns-clause-last g c anchor told block =
    let v = c.args.self.now in
    let q = question c.args.area c.args.block c.args.buf.now in
    let m = g.D.Device.meaning v.below in
    let is = of_label m (label_of v) anchor told q _ (ran-end g.D.Device.meaning g.D.Device.moves g.met.D.Device.onward (verity (label_of v) q) v.below _ c.answer.new.self.below c.answer.ensures.run).0 in
    subst (λ x. NamesLast anchor.shape x (exchanges m (verity (Some anchor) q))) (sym is) ((paths_stop_lem anchor m q block).1 (kept-wide v.anchor anchor told))

pub returns-clause-judged : goal.returns-clause-judged
returns-clause-judged g c p whole told block =
    let v = c.args.self.now in
    let q = question c.args.area c.args.block c.args.buf.now in
    let m = g.D.Device.meaning v.below in
    let a = anchor_of p in
    let is = of_label m (label_of v) a told q _ (ran-end g.D.Device.meaning g.D.Device.moves g.met.D.Device.onward (verity (label_of v) q) v.below _ c.answer.new.self.below c.answer.ensures.run).0 in
    subst (λ x. Judged p q x (exchanges m (verity (Some a) q))) (sym is) (answers_judged_lem p whole m (g.met.D.Device.sized v.below) q block)
