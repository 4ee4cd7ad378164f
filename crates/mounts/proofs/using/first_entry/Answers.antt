use Rattle.std.proofs.Common.{[], ◌∷◌, Err, inl, length, refl}
use Rattle.calls.specs.Calls.{begin, list, listed}
use Rattle.mount.specs.Mount.{device_of, event_of, mounted_of, replied}
use Rattle.mounts.specs.Using.{begun}
use Rattle.mounts.proofs.Listing.{listing}
use Rattle.mounts.proofs.using.first_entry.Goals as goal

pub returns-in-Ok-clause-calls : goal.returns-in-Ok-clause-calls
returns-in-Ok-clause-calls g c =
    let k = c.begin.new.self in
    let n = c.list.new.self in
    let x = event_of c.args.mount.now begin (begun c.in-Ok._start).1 in
    let y = event_of k (list [] 0 (length c.args.buf.now)) (replied listed c.list.new.buf c.list.result) in (
      x ∷ y ∷ [],
      (mounted_of k, device_of k, c.in-Ok.ensures.step, (mounted_of n, device_of n, c.list.ensures.step, (refl, refl))),
      listing x y c.in-Ok._start (length c.args.buf.now) c.list.result c.list.new.buf refl refl,
    )

pub returns-in-Err-clause-calls : goal.returns-in-Err-clause-calls
returns-in-Err-clause-calls g c =
    let n = c.begin.new.self in
    (event_of c.args.mount.now begin (record { answer = Err c.in-Err.refusal; buffer = [] }) ∷ [], (mounted_of n, device_of n, c.in-Err.ensures.step, (refl, refl)), inl refl)
