use Rattle.std.proofs.Common.{length, sym, ◌∙◌}
use Rattle.volume.specs.Paths.{enter_all, list_path, parts}
use Rattle.volume.specs.Walk.{by_index, find}
use Rattle.reader.specs.Header.{read_of}
use Rattle.reader.proofs.Running.{err-is, ran-off, ran-on}
use Rattle.reader.proofs.paths.list_path.Goals as goal

pub returns-in_err-list : goal.returns-in_err-list
unfolding list_path
returns-in_err-list g c =
    let a = c.args in
    let fault = c.in_err-list.field-0.0 in
    let v = a.romfs.start in
    rw (err-is c.from_residual.result fault c.from_residual.ensures, sym c.first_bad.ensures ∙ c.in_default.is)
    (ran-off g.D.Device.meaning g.D.Device.moves a.romfs.block.bytes (find v (length a.path.now) (by_index a.index)) (enter_all v (parts a.path.now) v.root) a.store.now c.enter_all.new.store fault c.in_err-list.ensures)

pub returns : goal.returns
unfolding list_path
returns g c =
    let a = c.args in
    let v = a.romfs.start in
    rw (sym c.first_bad.ensures ∙ c.in_default.is)
    (ran-on g.D.Device.meaning g.D.Device.moves a.romfs.block.bytes (find v (length a.path.now) (by_index a.index)) (enter_all v (parts a.path.now) v.root) a.store.now c.enter_all.new.store c.find.new.store c.in_ok-list.list (read_of c.find.result)
    c.in_ok-list.ensures c.find.ensures)
