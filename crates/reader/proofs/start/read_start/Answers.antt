use Rattle.std.proofs.Common.{Ok, Err, refl}
use Rattle.volume.specs.Start.{start, start_of}
use Rattle.reader.proofs.Running.{err-is, ran-parsed}
use Rattle.reader.proofs.start.read_start.Goals as goal

pub returns-in_err-fetch : goal.returns-in_err-fetch
unfolding start
returns-in_err-fetch g c =
    let a = c.args in
    let fault = c.in_err-fetch.field-0.0 in
    rw (err-is c.from_residual.result fault c.from_residual.ensures)
    (ran-parsed g.D.Device.meaning g.D.Device.moves a.block.bytes 0 512 512 refl (start_of a.limit) a.store.now c.fetch.new.store (Err fault) c.in_err-fetch.ensures.run)

pub returns : goal.returns
unfolding start
returns g c =
    let a = c.args in
    rw c.start_of.ensures (ran-parsed g.D.Device.meaning g.D.Device.moves a.block.bytes 0 512 512 refl (start_of a.limit) a.store.now c.fetch.new.store (Ok c.fetch.new.buf) c.in_ok-fetch.ensures.run)
