use Rattle.std.specs.Result.{IsOk}
use Rattle.std.proofs.Common.{rules as auto, ◌≡◌, [], ◌∷◌, length, replicate, Ok, refl, sym, ap, subst}
use Rattle.calls.specs.Calls as calls
use Rattle.reader.specs.Calls.{extent_of}
use Rattle.reader.proofs.Running.{err-is}
use Rattle.mount.specs.Mount.{answer_of, device_of, event_of, mounted_of, replied}
use Rattle.published.proofs.read.read_file.Goals as goal

pub returns-in_err-begin-clause-reading : goal.returns-in_err-begin-clause-reading
returns-in_err-begin-clause-reading g c =
    let zeros : c.wipe.new.buf ≡ replicate (length c.args.buf.now) 0 = search auto in
    let m = c.begin.new.self in
    let refusal = c.in_err-begin.field-0.0 in (
      event_of c.args.mount.now calls.begin (replied calls.started [] c.begin.result) ∷ [],
      (mounted_of m, device_of m, c.begin.ensures.step, (refl, refl)),
      (refl, (refusal, ap (answer_of calls.started) c.in_err-begin.was, err-is c.from_residual.result refusal c.from_residual.ensures, zeros)),
    )

pub returns-in_err-file-clause-reading : goal.returns-in_err-file-clause-reading
returns-in_err-file-clause-reading g c =
    let zeros : c.wipe.new.buf ≡ replicate (length c.args.buf.now) 0 = search auto in
    let began : IsOk (answer_of calls.started c.begin.result) = subst (λ r. IsOk (answer_of calls.started r)) (sym c.in_ok-begin.was) refl in
    let k = c.begin.new.self in
    let l = c.«open».new.self in
    let given : _ → calls.Given = λ handle. calls.opened (extent_of handle) in
    let refusal = c.in_err-file.field-0.0 in (
      event_of c.args.mount.now calls.begin (replied calls.started [] c.begin.result) ∷ event_of k (calls.open_file c.args.path.now) (replied given [] c.«open».result) ∷ [],
      (mounted_of k, device_of k, c.begin.ensures.step, (mounted_of l, device_of l, c.«open».ensures.step, (refl, refl))),
      (refl, began, refl, (refusal, ap (answer_of given) c.in_err-file.was, err-is c.from_residual-in_err-file.result refusal c.from_residual-in_err-file.ensures, zeros)),
    )

pub returns-clause-reading : goal.returns-clause-reading
returns-clause-reading g c =
    let began : IsOk (answer_of calls.started c.begin.result) = subst (λ r. IsOk (answer_of calls.started r)) (sym c.in_ok-begin.was) refl in
    let k = c.begin.new.self in
    let l = c.«open».new.self in
    let n = c.read_open.new.mount in
    let given : _ → calls.Given = λ handle. calls.opened (extent_of handle) in
    let file = extent_of c.in_ok-file.file in
    let reading = calls.read file c.args.offset (length c.wipe.new.buf) in
    let r = c.read_open.ensures.steps in (
      event_of c.args.mount.now calls.begin (replied calls.started [] c.begin.result)
          ∷ event_of k (calls.open_file c.args.path.now) (replied given [] c.«open».result)
          ∷ event_of l reading (replied calls.count c.read_open.new.buf c.read_open.result)
          ∷ event_of r.0 (calls.close file) (record { answer = Ok calls.closed; buffer = [] })
          ∷ [],
      (mounted_of k, device_of k, c.begin.ensures.step, (mounted_of l, device_of l, c.«open».ensures.step, (mounted_of r.0, device_of r.0, r.1, (mounted_of n, device_of n, r.2, (refl, refl))))),
      (refl, began, (file, refl, ap (answer_of given) c.in_ok-file.was, ap (calls.read file c.args.offset) (search auto), refl, refl, refl)),
    )
