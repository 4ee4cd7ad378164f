use Rattle.std.proofs.Common.{option_map, sym, ap, ◌∙◌}
use Rattle.geometry.specs.Of.{shape_of}
use Rattle.reader.specs.Calls.{gave_all, reads_whole, refused}
use Rattle.mount.proofs.Stepping.{called, label_refused, told_still, without}
use Rattle.mount.proofs.mount.MountOver.whole.Goals as goal

pub returns-clause-step : goal.returns-clause-step
returns-clause-step g c =
    called g.S.Store g.S.Device g.S.Bottom.Device g.met.S.Store.steps c.args.self.now.store c.args.self.now.state (reads_whole c.args.handle c.args.buf.now) c.in-Some.geometry gave_all c.whole.new.buf (refused c.whole.result) c.whole.new.store c.whole.new.self
    (record { told = sym (ap (option_map shape_of) c.in-Some.is) ∙ c.geometry.ensures; zeros = without c.whole.result _ c.whole.ensures.zeros; kept = without c.whole.result _ c.whole.ensures.kept; ran = c.whole.ensures.run })

pub returns-in_default-clause-step : goal.returns-in_default-clause-step
returns-in_default-clause-step g c =
    label_refused g.S.Store g.S.Device g.S.Bottom.Device g.met.S.Store.steps c.args.self.now.store c.args.self.now.state (reads_whole c.args.handle c.args.buf.now) c.wipe.new.buf (sym (ap (option_map shape_of) c.in_default.is) ∙ c.geometry.ensures) c.wipe.ensures

pub invariant_of-self : goal.invariant_of-self
invariant_of-self g c = record {
  none = told_still g.S.Store g.S.Device g.S.Bottom.Device g.met.S.Store.steps c.args.self.now.store c.args.self.now.state (reads_whole c.args.handle c.args.buf.now) c.in-Some.geometry gave_all c.whole.new.buf (refused c.whole.result) c.whole.new.store c.whole.new.self
      (record { told = sym (ap (option_map shape_of) c.in-Some.is) ∙ c.geometry.ensures; zeros = without c.whole.result _ c.whole.ensures.zeros; kept = without c.whole.result _ c.whole.ensures.kept; ran = c.whole.ensures.run }) _;
}
