use Rattle.std.proofs.Common.{◌≡◌, length, replicate, Err, Some, sym, subst}
use Rattle.std.specs.Result.{OnErr}
use Rattle.layers.specs.Publisher.{anchor_of}
use Rattle.calls.specs.Mount.{cached_check, made}
use Rattle.calls.specs.Law.{Used}
use Rattle.mount.specs.Mount.{device_of, mounted_of}
use Rattle.published.specs.Publisher.{publisher_of}
use Rattle.published.proofs.Worth.{worth}
use Rattle.published.proofs.published.Published.read.Goals as goal

pub returns-clause-read : goal.returns-clause-read
returns-clause-read g c =
    let meaning = g.D.Device.meaning in
    let moves = g.D.Device.moves in
    let store = cached_check g.row.D-Refusal.Denot in
    let a = c.args in
    let p = publisher_of a.self.now in
    let mount = c.mount-mount.ensures in
    let after = c.read_file-answer in
    let answer = after.result in
    let buffer = after.new.buf in
    let n = mounted_of after.new.mount in
    let e = device_of after.new.mount in
    let xs = after.ensures.reading.0 in
    let used = after.ensures.reading.1 in
    let kept = (mount.law xs n e used).0 in
    let from_made : Used store meaning moves (made store (Some (anchor_of p))) a.device xs n e = subst (λ m. Used store meaning moves m a.device xs n e) mount.made (subst (λ d. Used store meaning moves (mounted_of c.mount-mount.result) d xs n e) mount.device used) in
    let zeros : (refusal : _) → answer ≡ Err refusal → buffer ≡ replicate (length a.buf.now) 0 = λ refusal is. subst (λ r. OnErr r (buffer ≡ replicate (length a.buf.now) 0)) is after.ensures.zeros in (
      xs,
      n,
      subst (λ d. Used store meaning moves (made store (Some (anchor_of p))) a.device xs n d) (sym c.into_device.ensures) from_made,
      after.ensures.reading.2,
      worth _ p a.path.now a.offset (length a.buf.now) store meaning moves (device_of c.mount-mount.result) xs e kept answer buffer after.ensures.reading.2 zeros,
    )
