use Rattle.std.proofs.Common.{Ok, Err}
use Rattle.geometry.specs.Of.{shape_of}
use Rattle.calls.specs.Mount.{image_length}
use Rattle.reader.specs.Calls.{extent_of, state_of}
use Rattle.reader.proofs.CallRuns.{open-ran}
use Rattle.reader.proofs.state.State.open.Goals as goal

pub returns-in-Ok-clause-run : goal.returns-in-Ok-clause-run
returns-in-Ok-clause-run g c =
    let a = c.args in
    let shape = shape_of a.geometry.now in
    open-ran g.D.Device.meaning g.D.Device.moves c.new.result.block.bytes shape.data_block (image_length shape) c.new.ensures.block (state_of a.self.now) a.store.now c.open_path.new.store c.in-Some.start c.in-Some.is a.path.now c.if-self.false (Ok (extent_of c.in-Ok.handle))
    (rw c.new.ensures.start at c.in-Ok.ensures)

pub returns-in-Err-clause-run : goal.returns-in-Err-clause-run
returns-in-Err-clause-run g c =
    let a = c.args in
    let shape = shape_of a.geometry.now in
    open-ran g.D.Device.meaning g.D.Device.moves c.new.result.block.bytes shape.data_block (image_length shape) c.new.ensures.block (state_of a.self.now) a.store.now c.open_path.new.store c.in-Some.start c.in-Some.is a.path.now c.if-self.false (Err c.in-Err.fault)
    (rw c.new.ensures.start at c.in-Err.ensures)
