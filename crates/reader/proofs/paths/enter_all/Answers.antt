use Rattle.std.proofs.Common.{Ok, refl}
use Rattle.volume.specs.Paths.{enter_all, parts}
use Rattle.reader.specs.Header.{header_value}
use Rattle.reader.specs.Parts.{part_value, parts_behind}
use Rattle.reader.proofs.Running.{err-is}
use Rattle.reader.proofs.Entering.{enter_is, left-goes, left-lost, left-stops, on_entered}
use Rattle.reader.proofs.paths.enter_all.Goals as goal

pub returns-in_err-header : goal.returns-in_err-header
returns-in_err-header g c =
    let a = c.args in
    let l = c.loop-part in
    let v = a.romfs.start in
    let here = c.in-Some.component in
    let fault = c.in_err-header.field-0.0 in
    rw (err-is c.from_residual.result fault c.from_residual.ensures)
    (left-lost g.D.Device.meaning g.D.Device.moves a.romfs.block.bytes v enter_all a.store.now (parts a.path.now) l.store c.find.new.store (part_value here) (parts_behind here) l.list (on_entered v (part_value here) (parts_behind here)) (enter_is v (part_value here) (parts_behind here) l.list) (rw c.in-Some.is at l.invariant) fault (rw c.name.ensures at c.in_err-header.ensures))

pub returns-in_err-list : goal.returns-in_err-list
returns-in_err-list g c =
    let a = c.args in
    let l = c.loop-part in
    let v = a.romfs.start in
    let here = c.in-Some.component in
    let fault = c.in_err-list.field-0.0 in
    rw (err-is c.from_residual-in_err-list.result fault c.from_residual-in_err-list.ensures)
    (left-stops g.D.Device.meaning g.D.Device.moves a.romfs.block.bytes v enter_all a.store.now (parts a.path.now) l.store c.find.new.store (part_value here) (parts_behind here) l.list (on_entered v (part_value here) (parts_behind here)) (enter_is v (part_value here) (parts_behind here) l.list) (rw c.in-Some.is at l.invariant)
    (header_value c.in_ok-header.header) (rw c.name.ensures at c.in_ok-header.ensures) (parts_behind here) refl fault c.in_err-list.ensures)

pub loop-part-preserved : goal.loop-part-preserved
loop-part-preserved g c =
    let a = c.args in
    let l = c.loop-part in
    let v = a.romfs.start in
    let here = c.in-Some.component in
    rw c.next-part.ensures.parts
    (left-goes g.D.Device.meaning g.D.Device.moves a.romfs.block.bytes v enter_all a.store.now (parts a.path.now) l.store c.find.new.store (part_value here) (parts_behind here) l.list (on_entered v (part_value here) (parts_behind here)) (enter_is v (part_value here) (parts_behind here) l.list) (rw c.in-Some.is at l.invariant)
    (header_value c.in_ok-header.header) (rw c.name.ensures at c.in_ok-header.ensures) (parts_behind here) refl c.in_ok-list.list c.in_ok-list.ensures)

pub returns : goal.returns
unfolding enter_all
returns g c = let l = c.loop-part in (rw c.in_default.is at l.invariant) (Ok l.list) l.store (refl, refl)
