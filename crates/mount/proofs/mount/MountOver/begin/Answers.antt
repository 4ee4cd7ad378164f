use Rattle.std.proofs.Common.{[], option_map, sym, ap, ◌∙◌, refl}
use Rattle.geometry.specs.Of.{shape_of}
use Rattle.calls.specs.Calls.{begin, started}
use Rattle.mount.proofs.Stepping.{always, called, label_refused, told_still}
use Rattle.mount.proofs.mount.MountOver.begin.Goals as goal

pub returns-clause-step : goal.returns-clause-step
returns-clause-step g c =
    called g.S.Store g.S.Device g.S.Bottom.Device g.met.S.Store.steps c.args.self.now.store c.args.self.now.state begin c.in-Some.geometry started [] c.begin.result c.begin.new.store c.begin.new.self
    (record { told = sym (ap (option_map shape_of) c.in-Some.is) ∙ c.geometry.ensures; zeros = always c.begin.result _ refl; kept = c.begin.ensures.kept; ran = c.begin.ensures.run })

pub returns-in_default-clause-step : goal.returns-in_default-clause-step
returns-in_default-clause-step g c =
    label_refused g.S.Store g.S.Device g.S.Bottom.Device g.met.S.Store.steps c.args.self.now.store c.args.self.now.state begin [] (sym (ap (option_map shape_of) c.in_default.is) ∙ c.geometry.ensures) refl

pub invariant_of-self : goal.invariant_of-self
invariant_of-self g c = record {
  none = told_still g.S.Store g.S.Device g.S.Bottom.Device g.met.S.Store.steps c.args.self.now.store c.args.self.now.state begin c.in-Some.geometry started [] c.begin.result c.begin.new.store c.begin.new.self
      (record { told = sym (ap (option_map shape_of) c.in-Some.is) ∙ c.geometry.ensures; zeros = always c.begin.result _ refl; kept = c.begin.ensures.kept; ran = c.begin.ensures.run }) _;
}
