use Rattle.std.proofs.Common.{Some, sym, ap, ◌∙◌, subst}
use Rattle.volume.specs.Paths.{file_at}
use Rattle.reader.specs.Calls.{file_of}
use Rattle.reader.specs.Fetched.{Fetched}
use Rattle.reader.specs.Header.{header_value}
use Rattle.reader.specs.Parts.{part_value, parts_behind, parts_of}
use Rattle.reader.proofs.Running.{err-is}
use Rattle.reader.proofs.Entering.{file_is, left-found, left-goes, left-lost, left-stops, on_reached}
use Rattle.reader.proofs.paths.file_at.Goals as goal

pub returns-in_err-header : goal.returns-in_err-header
returns-in_err-header g c =
    let a = c.args in
    let l = c.loop-header in
    let v = a.romfs.start in
    let here = part_value l.component in
    let rest = parts_behind l.component in
    let fault = c.in_err-header.field-0.0 in
    rw (err-is c.from_residual.result fault c.from_residual.ensures)
    (left-lost g.D.Device.meaning g.D.Device.moves a.romfs.block.bytes v file_at a.store.now (parts_of (Some a.first)) l.store c.find.new.store here rest l.list (on_reached v here rest) (file_is v here rest l.list) l.invariant fault (rw c.name.ensures at c.in_err-header.ensures))

pub returns-in-None : goal.returns-in-None
returns-in-None g c =
    let a = c.args in
    let l = c.loop-header in
    let v = a.romfs.start in
    let here = part_value l.component in
    let rest = parts_behind l.component in
    left-found g.D.Device.meaning g.D.Device.moves a.romfs.block.bytes v file_at a.store.now (parts_of (Some a.first)) l.store c.find.new.store here rest l.list (on_reached v here rest) (file_is v here rest l.list) l.invariant
    (header_value c.in_ok-header.header) (rw c.name.ensures at c.in_ok-header.ensures) (file_of c.follow.result) c.follow.new.store
    (subst (λ ps. Fetched g.D.Device.meaning g.D.Device.moves a.romfs.block.bytes c.find.new.store (on_reached v here ps (header_value c.in_ok-header.header)) (file_of c.follow.result) c.follow.new.store) (sym (ap parts_of c.in-None.is) ∙ c.next.ensures.parts) c.follow.ensures)

pub returns-in_err-list-in-Some : goal.returns-in_err-list-in-Some
returns-in_err-list-in-Some g c =
    let a = c.args in
    let l = c.loop-header in
    let v = a.romfs.start in
    let here = part_value l.component in
    let rest = parts_behind l.component in
    let fault = c.in_err-list-in-Some.field-0.0 in
    rw (err-is c.from_residual-in_err-list-in-Some.result fault c.from_residual-in_err-list-in-Some.ensures)
    (left-stops g.D.Device.meaning g.D.Device.moves a.romfs.block.bytes v file_at a.store.now (parts_of (Some a.first)) l.store c.find.new.store here rest l.list (on_reached v here rest) (file_is v here rest l.list) l.invariant
    (header_value c.in_ok-header.header) (rw c.name.ensures at c.in_ok-header.ensures) (parts_of (Some c.in-Some.next)) (ap (λ ps. on_reached v here ps (header_value c.in_ok-header.header)) (sym c.next.ensures.parts ∙ ap parts_of c.in-Some.is)) fault c.in_err-list-in-Some.ensures)

pub loop-header-preserved : goal.loop-header-preserved
loop-header-preserved g c =
    let a = c.args in
    let l = c.loop-header in
    let v = a.romfs.start in
    let here = part_value l.component in
    let rest = parts_behind l.component in
    left-goes g.D.Device.meaning g.D.Device.moves a.romfs.block.bytes v file_at a.store.now (parts_of (Some a.first)) l.store c.find.new.store here rest l.list (on_reached v here rest) (file_is v here rest l.list) l.invariant
    (header_value c.in_ok-header.header) (rw c.name.ensures at c.in_ok-header.ensures) (parts_of (Some c.in-Some.next)) (ap (λ ps. on_reached v here ps (header_value c.in_ok-header.header)) (sym c.next.ensures.parts ∙ ap parts_of c.in-Some.is)) c.in_ok-list-in-Some.list c.in_ok-list-in-Some.ensures
