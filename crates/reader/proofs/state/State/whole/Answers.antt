use Rattle.std.proofs.Common.{Ok, Err, length, sym, ◌∙◌}
use Rattle.geometry.specs.Of.{shape_of}
use Rattle.calls.specs.Mount.{image_length}
use Rattle.reader.specs.Calls.{extent_of, state_of}
use Rattle.reader.proofs.CallRuns.{whole-ran}
use Rattle.reader.proofs.state.State.whole.Goals as goal

pub returns-in-Ok-clause-run : goal.returns-in-Ok-clause-run
returns-in-Ok-clause-run g c =
    let a = c.args in
    let shape = shape_of a.geometry.now in
    whole-ran g.D.Device.meaning g.D.Device.moves c.of.result.bytes shape.data_block (image_length shape) c.of.ensures (state_of a.self.now) a.store.now c.fetch.new.store c.in-Some.start c.in-Some.is (extent_of a.handle)
    (sym c.is_outside.ensures.value ∙ c.if-is_outside.false) (length a.buf.now) (length c.wipe.new.buf) c.wipe.auto.buf c.if-self-eq0.false c.if-buf-handle.false (Ok c.fetch.new.buf) c.in-Ok.ensures.run

pub returns-in-Err-clause-run : goal.returns-in-Err-clause-run
returns-in-Err-clause-run g c =
    let a = c.args in
    let shape = shape_of a.geometry.now in
    whole-ran g.D.Device.meaning g.D.Device.moves c.of.result.bytes shape.data_block (image_length shape) c.of.ensures (state_of a.self.now) a.store.now c.fetch.new.store c.in-Some.start c.in-Some.is (extent_of a.handle)
    (sym c.is_outside.ensures.value ∙ c.if-is_outside.false) (length a.buf.now) (length c.wipe.new.buf) c.wipe.auto.buf c.if-self-eq0.false c.if-buf-handle.false (Err c.in-Err.fault) c.in-Err.ensures.run
