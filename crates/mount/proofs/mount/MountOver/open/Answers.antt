use Rattle.std.proofs.Common.{[], option_map, sym, ap, ◌∙◌, refl}
use Rattle.geometry.specs.Of.{shape_of}
use Rattle.reader.specs.Calls.{opened_file, opens}
use Rattle.mount.proofs.Stepping.{always, called, label_refused, told_still}
use Rattle.mount.proofs.mount.MountOver.open.Goals as goal

pub returns-clause-step : goal.returns-clause-step
returns-clause-step g c =
    called g.S.Store g.S.Device g.S.Bottom.Device g.met.S.Store.steps c.args.self.now.store c.args.self.now.state (opens c.args.path.now) c.in-Some.geometry opened_file [] c.open.result c.open.new.store c.open.new.self
    (record { told = sym (ap (option_map shape_of) c.in-Some.is) ∙ c.geometry.ensures; zeros = always c.open.result _ refl; kept = c.open.ensures.kept; ran = c.open.ensures.run })

pub returns-in_default-clause-step : goal.returns-in_default-clause-step
returns-in_default-clause-step g c =
    label_refused g.S.Store g.S.Device g.S.Bottom.Device g.met.S.Store.steps c.args.self.now.store c.args.self.now.state (opens c.args.path.now) [] (sym (ap (option_map shape_of) c.in_default.is) ∙ c.geometry.ensures) refl

pub invariant_of-self : goal.invariant_of-self
invariant_of-self g c = record {
  none = told_still g.S.Store g.S.Device g.S.Bottom.Device g.met.S.Store.steps c.args.self.now.store c.args.self.now.state (opens c.args.path.now) c.in-Some.geometry opened_file [] c.open.result c.open.new.store c.open.new.self
      (record { told = sym (ap (option_map shape_of) c.in-Some.is) ∙ c.geometry.ensures; zeros = always c.open.result _ refl; kept = c.open.ensures.kept; ran = c.open.ensures.run }) _;
}
