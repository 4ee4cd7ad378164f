use Rattle.std.proofs.Common.{length, option_map, sym, ap, ◌∙◌, refl}
use Rattle.geometry.specs.Of.{shape_of}
use Rattle.calls.specs.Calls.{read, count}
use Rattle.reader.specs.Calls.{extent_of}
use Rattle.mount.proofs.Stepping.{always, called, label_refused, told_still}
use Rattle.mount.proofs.mount.MountOver.read.Goals as goal

pub returns-clause-step : goal.returns-clause-step
returns-clause-step g c =
    called g.S.Store g.S.Device g.S.Bottom.Device g.met.S.Store.steps c.args.self.now.store c.args.self.now.state (read (extent_of c.args.handle.now) c.args.offset (length c.args.buf.now)) c.in-Some.geometry count c.read.new.buf c.read.result c.read.new.store c.args.self.now.state
    (record { told = sym (ap (option_map shape_of) c.in-Some.is) ∙ c.geometry.ensures; zeros = c.read.ensures.zeros; kept = always c.read.result _ refl; ran = c.read.ensures.run })

pub returns-in_default-clause-step : goal.returns-in_default-clause-step
returns-in_default-clause-step g c =
    label_refused g.S.Store g.S.Device g.S.Bottom.Device g.met.S.Store.steps c.args.self.now.store c.args.self.now.state (read (extent_of c.args.handle.now) c.args.offset (length c.args.buf.now)) c.wipe.new.buf (sym (ap (option_map shape_of) c.in_default.is) ∙ c.geometry.ensures) c.wipe.ensures

pub invariant_of-self : goal.invariant_of-self
invariant_of-self g c = record {
  none = told_still g.S.Store g.S.Device g.S.Bottom.Device g.met.S.Store.steps c.args.self.now.store c.args.self.now.state (read (extent_of c.args.handle.now) c.args.offset (length c.args.buf.now)) c.in-Some.geometry count c.read.new.buf c.read.result c.read.new.store c.args.self.now.state
      (record { told = sym (ap (option_map shape_of) c.in-Some.is) ∙ c.geometry.ensures; zeros = c.read.ensures.zeros; kept = always c.read.result _ refl; ran = c.read.ensures.run }) _;
}
