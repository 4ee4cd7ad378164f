use Rattle.std.proofs.Common.{◌≡◌, ℕ, ◌+◌, ◌-◌, ◌≤◌, min, Ok, Err, take, replicate, length, sym, ◌∙◌, arith}
use Rattle.std.proofs.lemmas.List.{length-take, length-replicate}
use Rattle.volume.specs.Header.{header, header_of}
use Rattle.volume.specs.Sizes.{header_size}
use Rattle.reader.proofs.Running.{err-is, ran-parsed}
use Rattle.reader.proofs.reading.read_header.Goals as goal

-- as many bytes as are fetched
sliced : (n m : ℕ) → n ≤ header_size → n ≡ m → length {A = ℕ} (take n (replicate header_size 0)) ≡ m
sliced n m few is = omega (arith, length-take {A = ℕ} n (replicate header_size 0), length-replicate {A = ℕ} header_size 0)

pub returns-in_err-fetch-clause-run : goal.returns-in_err-fetch-clause-run
unfolding header
returns-in_err-fetch-clause-run g c =
    let a = c.args in
    let n = c.fetch_size.result in
    let m = min (a.at + header_size) a.romfs.start.size - a.at in
    let fault = c.in_err-fetch.field-0.0 in
    rw (err-is c.from_residual.result fault c.from_residual.ensures, sym c.is_outside.ensures.value ∙ c.if-is_outside.false)
    (ran-parsed g.D.Device.meaning g.D.Device.moves a.romfs.block.bytes a.at m (length {A = ℕ} (take n (replicate header_size 0))) (sliced n m c.fetch_size.ensures.few c.fetch_size.ensures.value) (header_of a.at) a.store.now c.fetch.new.store (Err fault)
    c.in_err-fetch.ensures.run)

pub returns-clause-run : goal.returns-clause-run
unfolding header
returns-clause-run g c =
    let a = c.args in
    let n = c.fetch_size.result in
    let m = min (a.at + header_size) a.romfs.start.size - a.at in
    rw (sym c.is_outside.ensures.value ∙ c.if-is_outside.false, c.from_bytes.ensures.value)
    (ran-parsed g.D.Device.meaning g.D.Device.moves a.romfs.block.bytes a.at m (length {A = ℕ} (take n (replicate header_size 0))) (sliced n m c.fetch_size.ensures.few c.fetch_size.ensures.value) (header_of a.at) a.store.now c.fetch.new.store (Ok c.fetch.new.buf)
    c.in_ok-fetch.ensures.run)
