use Rattle.std.proofs.Common.{Ok, Err}
use Rattle.geometry.specs.Of.{shape_of}
use Rattle.calls.specs.Mount.{image_length}
use Rattle.reader.specs.Calls.{state_of}
use Rattle.reader.proofs.CallRuns.{begin-ran}
use Rattle.reader.proofs.state.State.begin.Goals as goal

pub returns-in-Ok-clause-run : goal.returns-in-Ok-clause-run
returns-in-Ok-clause-run g c =
    let a = c.args in
    let shape = shape_of a.geometry.now in
    begin-ran g.D.Device.meaning g.D.Device.moves c.of.result.bytes shape.data_block (image_length shape) c.of.ensures (state_of a.self.now) a.store.now c.read_start.new.store c.in_default.is (Ok c.in-Ok.start)
    (rw c.image_size.ensures at c.in-Ok.ensures)

pub returns-in-Err-clause-run : goal.returns-in-Err-clause-run
returns-in-Err-clause-run g c =
    let a = c.args in
    let shape = shape_of a.geometry.now in
    begin-ran g.D.Device.meaning g.D.Device.moves c.of.result.bytes shape.data_block (image_length shape) c.of.ensures (state_of a.self.now) a.store.now c.read_start.new.store c.in_default.is (Err c.in-Err.fault)
    (rw c.image_size.ensures at c.in-Err.ensures)
