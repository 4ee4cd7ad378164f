use Rattle.std.proofs.Common.{[], option_map, refl, sym, ap, ◌∙◌, subst}
use Rattle.device.specs.Run.{Ran}
use Rattle.geometry.specs.Of.{shape_of}
use Rattle.volume.specs.Fetches.{by_blocks}
use Rattle.calls.specs.Mount.{image_length}
use Rattle.reader.specs.Calls.{closes, gave_closed, outcome, refused}
use Rattle.reader.proofs.Running.{ran-settled}
use Rattle.mount.proofs.Stepping.{always, called, label_refused, without}
use Rattle.mount.proofs.mount.MountOver.close.Goals as goal

pub returns-clause-step : goal.returns-clause-step
returns-clause-step g c =
    let m = c.args.self.now in
    let shape = shape_of c.in-Some._geometry in
    let out = outcome gave_closed [] c.close.new.self (refused c.close.result) in
    called g.S.Store g.S.Device g.S.Bottom.Device g.met.S.Store.steps m.store m.state (closes c.args.handle) c.in-Some._geometry gave_closed [] (refused c.close.result) m.store c.close.new.self
    (record {
      told = sym (ap (option_map shape_of) c.in-Some.is) ∙ c.geometry.ensures;
      zeros = without c.close.result _ (always c.close.result _ refl);
      kept = without c.close.result _ c.close.ensures.kept;
      ran = subst (λ p. Ran g.S.Device.meaning g.S.Device.moves m.store (by_blocks shape.data_block p) out m.store) (c.close.ensures.rule (image_length shape)) (ran-settled g.S.Device.meaning g.S.Device.moves shape.data_block out m.store);
    })

pub returns-in_default-clause-step : goal.returns-in_default-clause-step
returns-in_default-clause-step g c =
    label_refused g.S.Store g.S.Device g.S.Bottom.Device g.met.S.Store.steps c.args.self.now.store c.args.self.now.state (closes c.args.handle) [] (sym (ap (option_map shape_of) c.in_default.is) ∙ c.geometry.ensures) refl
