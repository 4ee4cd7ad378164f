use Rattle.std.proofs.Common.{◌≡◌, ℕ, ◌+◌, ◌-◌, ◌/◌, ◌%◌, ◌≤◌, length, take, drop, List, [], ◌++◌, Ok, Err, sym, ap, ◌∙◌, subst, arith}
use Rattle.std.proofs.lemmas.List.{length-take, length-drop, length-append, take_all, take-append-le, append_assoc, append-nil}
use borrow.Rule.Slice.PartMut.{put_mid}
use Rattle.device.specs.Run.{Ran}
use Rattle.reader.specs.Gather.{gather}
use Rattle.reader.proofs.Gathering.{fetched, going-ends, going-goes, gather-none}
use Rattle.reader.proofs.fetch.fetch.Goals as goal

-- the bytes of a part
part_size : (done size : ℕ) (buf : List ℕ) → done + size ≤ length buf → length (take (done + size - done) (drop done buf)) ≡ size
part_size done size buf room = omega (arith, length-take (done + size - done) (drop done buf), length-drop done buf)

-- a piece put behind a front
put_front : (done size : ℕ) (buf piece : List ℕ) → done + size ≤ length buf → length piece ≡ size → take (done + size) (put_mid done (done + size - done) buf piece) ≡ take done buf ++ piece
put_front done size buf piece room long =
    let front : length (take done buf ++ piece) ≡ done + size = omega (arith, length-append (take done buf) piece, length-take done buf) in
    let behind = drop (done + size - done) (drop done buf) in
    ap (take (done + size)) (sym (append_assoc (take done buf) piece behind)) ∙ take-append-le (done + size) (take done buf ++ piece) behind (omega arith) ∙ take_all (done + size) (take done buf ++ piece) (omega arith)

put_length : (done size : ℕ) (buf piece : List ℕ) → done + size ≤ length buf → length piece ≡ size → length (put_mid done (done + size - done) buf piece) ≡ length buf
put_length done size buf piece room long =
    let behind = drop (done + size - done) (drop done buf) in
    omega (arith, length-append (take done buf) (piece ++ behind), length-append piece behind, length-take done buf, length-drop (done + size - done) (drop done buf), length-drop done buf)

pub returns-in-Err-clause-run : goal.returns-in-Err-clause-run
returns-in-Err-clause-run g c =
    let a = c.args in
    let l = c.loop-done in
    let d = a.block.bytes in
    let m = c.min-size.result in
    let n = length a.buf.now in
    let part = part_size l.done m l.buf (omega (arith, c.min-size.ensures)) in
    rw c.from.ensures
    (fetched g.D.Device.meaning g.D.Device.moves g.met.D.Device.sized d a.block.some a.from n n (omega arith) a.store.now (Err c.in-Err.fault) c.read_part.new.store
    (going-ends g.D.Device.meaning g.D.Device.moves g.met.D.Device.sized d a.block.some a.store.now l.store c.read_part.new.store a.from n (a.from + l.done) (length l.buf - l.done) (length (take (l.done + m - l.done) (drop l.done l.buf))) (take l.done l.buf) l.invariant.going (omega arith)
    (omega (arith, part, c.min-size.ensures)) c.in-Err.fault c.in-Err.ensures.run))

pub loop-done-preserved : goal.loop-done-preserved
loop-done-preserved g c =
    let a = c.args in
    let l = c.loop-done in
    let d = a.block.bytes in
    let m = c.min-size.result in
    let piece = c.read_part.new.part in
    let room : l.done + m ≤ length l.buf = omega (arith, c.min-size.ensures) in
    let part = part_size l.done m l.buf room in
    let long : length piece ≡ m = c.read_part.auto.part ∙ part in
    let buf = put_mid l.done (l.done + m - l.done) l.buf piece in
    let same = put_length l.done m l.buf piece room long in
    record {
      inside = omega arith;
      going = going-goes g.D.Device.meaning g.D.Device.moves g.met.D.Device.sized d a.block.some a.store.now l.store c.read_part.new.store a.from (length a.buf.now) (a.from + l.done) (length l.buf - l.done) (length (take (l.done + m - l.done) (drop l.done l.buf))) (take l.done l.buf) l.invariant.going
          (omega arith) (omega (arith, part, c.min-size.ensures)) piece c.in_default.ensures.run (a.from + (l.done + m)) (length buf - (l.done + m)) (omega arith) (omega (arith, same)) (take (l.done + m) buf) (put_front l.done m l.buf piece room long);
    }

pub returns-clause-run : goal.returns-clause-run
returns-clause-run g c =
    let a = c.args in
    let l = c.loop-done in
    let d = a.block.bytes in
    let n = length a.buf.now in
    let none : length l.buf - l.done ≡ 0 = omega arith in
    let end = l.invariant.going.2 (Ok []) l.store (gather-none g.D.Device.meaning g.D.Device.moves g.met.D.Device.sized d a.block.some l.invariant.going.0 ((a.from + l.done) / d) ((a.from + l.done) % d) (length l.buf - l.done) none l.store) in
    let all : take l.done l.buf ++ [] ≡ l.buf = append-nil (take l.done l.buf) ∙ take_all l.done l.buf (omega arith) in
    fetched g.D.Device.meaning g.D.Device.moves g.met.D.Device.sized d a.block.some a.from n n (omega arith) a.store.now (Ok l.buf) l.store
    (subst (λ xs. Ran g.D.Device.meaning g.D.Device.moves a.store.now (gather d n (a.from / d) (a.from % d) n) (Ok xs) l.store) all end)
