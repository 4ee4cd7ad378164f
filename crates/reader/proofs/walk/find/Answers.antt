use Rattle.std.proofs.Common.{◌≡◌, true, false, ap, sym, ◌∙◌, arith}
use Rattle.volume.specs.Walk.{is_dots, is_it}
use Rattle.reader.specs.Header.{header_value}
use Rattle.reader.specs.Sought.{sought_value}
use Rattle.reader.proofs.Running.{err-is}
use Rattle.reader.proofs.Seeking.{seeking-ends, seeking-fault, seeking-found, seeking-dots, seeking-next}
use Rattle.reader.proofs.walk.find.Goals as goal

pub returns-in_err-header : goal.returns-in_err-header
returns-in_err-header g c =
    let a = c.args in
    let l = c.loop-at in
    let fault = c.in_err-header.field-0.0 in
    rw (err-is c.from_residual.result fault c.from_residual.ensures)
    (seeking-fault g.D.Device.meaning g.D.Device.moves a.romfs.block.bytes a.romfs.start a.place a.store.now l.store (sought_value a.sought) (sought_value l.sought) a.first l.at l.invariant (omega arith) c.header_for.new.store fault c.in_err-header.ensures.run)

pub returns-then-is_it : goal.returns-then-is_it
returns-then-is_it g c =
    let a = c.args in
    let l = c.loop-at in
    let h = header_value c.in_ok-header.header in
    let plain : is_dots h.name ≡ false = sym (c.is_dots.ensures ∙ ap is_dots c.name.ensures) ∙ c.if-not-is_dots.true in
    let it : is_it (sought_value l.sought) h.name ≡ true = sym (c.is_it.ensures ∙ ap (is_it (sought_value l.sought)) c.name-then-not-is_dots.ensures) ∙ c.if-is_it.true in
    seeking-found g.D.Device.meaning g.D.Device.moves a.romfs.block.bytes a.romfs.start a.place a.store.now l.store (sought_value a.sought) (sought_value l.sought) a.first l.at l.invariant (omega arith) c.header_for.new.store h c.in_ok-header.ensures.run plain it

pub loop-at-preserved-else-is_it : goal.loop-at-preserved-else-is_it
loop-at-preserved-else-is_it g c =
    let a = c.args in
    let l = c.loop-at in
    let h = header_value c.in_ok-header.header in
    let plain : is_dots h.name ≡ false = sym (c.is_dots.ensures ∙ ap is_dots c.name.ensures) ∙ c.if-not-is_dots.true in
    let not_it : is_it (sought_value l.sought) h.name ≡ false = sym (c.is_it.ensures ∙ ap (is_it (sought_value l.sought)) c.name-then-not-is_dots.ensures) ∙ c.if-is_it.false in
    seeking-next g.D.Device.meaning g.D.Device.moves a.romfs.block.bytes a.romfs.start a.place a.store.now l.store (sought_value a.sought) (sought_value l.sought) a.first l.at l.invariant (omega arith) c.header_for.new.store h c.in_ok-header.ensures.run
    plain not_it (sought_value c.behind.new.self) c.behind.ensures

pub loop-at-preserved : goal.loop-at-preserved
loop-at-preserved g c =
    let a = c.args in
    let l = c.loop-at in
    let h = header_value c.in_ok-header.header in
    let dots : is_dots h.name ≡ true = sym (c.is_dots.ensures ∙ ap is_dots c.name.ensures) ∙ c.if-not-is_dots.false in
    seeking-dots g.D.Device.meaning g.D.Device.moves a.romfs.block.bytes a.romfs.start a.place a.store.now l.store (sought_value a.sought) (sought_value l.sought) a.first l.at l.invariant (omega arith) c.header_for.new.store h c.in_ok-header.ensures.run dots

pub returns : goal.returns
returns g c =
    let a = c.args in
    let l = c.loop-at in
    seeking-ends g.D.Device.meaning g.D.Device.moves a.romfs.block.bytes a.romfs.start a.place a.store.now l.store (sought_value a.sought) (sought_value l.sought) a.first l.at l.invariant (omega arith)
