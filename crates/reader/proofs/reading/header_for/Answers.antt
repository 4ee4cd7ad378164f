use Rattle.std.proofs.Common.{Ok, Err}
use Rattle.volume.specs.declared.fault.PathFault.TheVariants.{Volume}
use Rattle.volume.specs.Header.{header}
use Rattle.reader.specs.Header.{header_value}
use Rattle.reader.proofs.Running.{ran-put-within}
use Rattle.reader.proofs.reading.header_for.Goals as goal

pub returns-in-Ok-clause-run : goal.returns-in-Ok-clause-run
returns-in-Ok-clause-run g c =
    let a = c.args in
    ran-put-within g.D.Device.meaning g.D.Device.moves a.romfs.block.bytes (λ f. Volume a.place f) (header a.romfs.start a.at) a.store.now c.read_header.new.store (Ok (header_value c.in-Ok.header)) c.in-Ok.ensures.run

pub returns-in-Err-clause-run : goal.returns-in-Err-clause-run
returns-in-Err-clause-run g c =
    let a = c.args in
    rw c.from.ensures (ran-put-within g.D.Device.meaning g.D.Device.moves a.romfs.block.bytes (λ f. Volume a.place f) (header a.romfs.start a.at) a.store.now c.read_header.new.store (Err c.in-Err.fault) c.in-Err.ensures.run)
