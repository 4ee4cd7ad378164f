use Rattle.std.proofs.Common.{Ok, Err, length, sym, ◌∙◌}
use Rattle.geometry.specs.Of.{shape_of}
use Rattle.calls.specs.Mount.{image_length}
use Rattle.reader.specs.Calls.{state_of}
use Rattle.reader.specs.Header.{header_value}
use Rattle.reader.proofs.CallRuns.{list-ran}
use Rattle.reader.proofs.state.State.list.Goals as goal

pub returns-in-Ok-clause-run : goal.returns-in-Ok-clause-run
returns-in-Ok-clause-run g c =
    let a = c.args in
    let shape = shape_of a.geometry.now in
    rw c.write_name.ensures
    (list-ran g.D.Device.meaning g.D.Device.moves c.new.result.block.bytes shape.data_block (image_length shape) c.new.ensures.block (state_of a.self.now) a.store.now c.list_path.new.store c.in-Some.start c.in-Some.is a.nth.path.now a.nth.index (length a.buf.now) (sym c.wipe.auto.buf ∙ c.if-buf-ne-NAME_SIZE.false) (Ok (header_value c.in-Ok.header))
    (rw c.new.ensures.start at c.in-Ok.ensures))

pub returns-in-Err-clause-run : goal.returns-in-Err-clause-run
returns-in-Err-clause-run g c =
    let a = c.args in
    let shape = shape_of a.geometry.now in
    list-ran g.D.Device.meaning g.D.Device.moves c.new.result.block.bytes shape.data_block (image_length shape) c.new.ensures.block (state_of a.self.now) a.store.now c.list_path.new.store c.in-Some.start c.in-Some.is a.nth.path.now a.nth.index (length a.buf.now) (sym c.wipe.auto.buf ∙ c.if-buf-ne-NAME_SIZE.false) (Err c.in-Err.fault)
    (rw c.new.ensures.start at c.in-Err.ensures)
