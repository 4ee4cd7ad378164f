use Rattle.std.proofs.Common.{subst, sym}
use Rattle.calls.specs.Law.{Kept, Used}
use Rattle.calls.specs.Mount.{cached_check}
use Rattle.mount.specs.Mount.{device_of, mounted_of}
use Rattle.mounts.proofs.using.list_first.Goals as goal

pub returns-clause-calls : goal.returns-clause-calls
returns-clause-calls g c =
    let store = cached_check g.row.D-Refusal.Denot in
    let meaning = g.D.Device.meaning in
    let moves = g.D.Device.moves in
    let m = mounted_of c.new-mount.result in
    let d = device_of c.new-mount.result in
    let n = mounted_of c.first_entry-answer.new.mount in
    let e = device_of c.first_entry-answer.new.mount in
    let xs = c.first_entry-answer.ensures.calls.0 in
    let used : Used store meaning moves m d xs n e = c.first_entry-answer.ensures.calls.1 in
    let given : Used store meaning moves m d xs n c.into_device.result = subst (λ x. Used store meaning moves m d xs n x) (sym c.into_device.ensures) used in
    let on_device : Used store meaning moves m c.args.device xs n c.into_device.result = subst (λ x. Used store meaning moves m x xs n c.into_device.result) c.new-mount.ensures.device given in (
      xs,
      n,
      subst (λ v. Used store meaning moves v c.args.device xs n c.into_device.result) c.new-mount.ensures.made on_device,
      c.first_entry-answer.ensures.calls.2,
      λ p label. subst (λ x. Kept store meaning moves p x xs c.into_device.result) c.new-mount.ensures.device (c.new-mount.ensures.law p label xs n c.into_device.result given).0,
    )
