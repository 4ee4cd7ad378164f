use Rattle.std.proofs.Common.{Ok, Err, length, min, take, ◌-◌, sym, ap, ◌∙◌}
use Rattle.geometry.specs.Of.{shape_of}
use Rattle.calls.specs.Mount.{image_length}
use Rattle.reader.specs.Calls.{extent_of, state_of}
use Rattle.reader.proofs.CallRuns.{read-ran}
use Rattle.reader.proofs.state.State.read.Goals as goal

pub returns-in-Ok-clause-run : goal.returns-in-Ok-clause-run
returns-in-Ok-clause-run g c =
    let a = c.args in
    let shape = shape_of a.geometry.now in
    let file = extent_of a.position.handle.now in
    let few = c.in-Some-count.ensures.value ∙ ap (λ k. min k (file.size - a.position.offset)) c.wipe.auto.buf in
    rw (c.in-Ok.ensures.filled, c.wipe.auto.buf)
    (read-ran g.D.Device.meaning g.D.Device.moves c.of.result.bytes shape.data_block (image_length shape) c.of.ensures (state_of a.self.now) a.store.now c.read_front.new.store c.in-Some.start c.in-Some.is file
    (sym c.is_outside.ensures.value ∙ c.if-is_outside.false) a.position.offset (length a.buf.now) c.in-Some-count.count c.in-Some-count.ensures.near few (Ok (take c.in-Some-count.count c.read_front.new.buf)) c.in-Ok.ensures.run)

pub returns-in-Err-clause-run : goal.returns-in-Err-clause-run
returns-in-Err-clause-run g c =
    let a = c.args in
    let shape = shape_of a.geometry.now in
    let file = extent_of a.position.handle.now in
    let few = c.in-Some-count.ensures.value ∙ ap (λ k. min k (file.size - a.position.offset)) c.wipe.auto.buf in
    read-ran g.D.Device.meaning g.D.Device.moves c.of.result.bytes shape.data_block (image_length shape) c.of.ensures (state_of a.self.now) a.store.now c.read_front.new.store c.in-Some.start c.in-Some.is file
    (sym c.is_outside.ensures.value ∙ c.if-is_outside.false) a.position.offset (length a.buf.now) c.in-Some-count.count c.in-Some-count.ensures.near few (Err c.in-Err.fault) c.in-Err.ensures.run
