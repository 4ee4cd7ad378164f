use Rattle.std.proofs.Common.{sym, ◌∙◌}
use Rattle.reader.specs.Calls.{file_of}
use Rattle.reader.specs.Header.{header_value}
use Rattle.reader.proofs.Following.{follow-ends, follow-on}
use Rattle.reader.proofs.Running.{err-is}
use Rattle.reader.proofs.using.«+follow».Goals as goal

pub returns-in_err-next-in-HardLink : goal.returns-in_err-next-in-HardLink
returns-in_err-next-in-HardLink g t c =
    let a = c.args in
    let fault = c.in_err-next-in-HardLink.field-0.0 in
    rw (err-is c.from_residual.result fault c.from_residual.ensures)
    (follow-ends g.D.Device.meaning g.D.Device.moves a.romfs.block.bytes a.romfs.start a.place a.links (header_value a.header.now) c.in-HardLink.is (sym c.is_16.ensures ∙ c.if-not-is_16.false) c.if-links-ge-LINKS.false a.store.now c.header_for.new.store fault
    c.in_err-next-in-HardLink.ensures.run)

pub returns-in_ok-next-in-HardLink : goal.returns-in_ok-next-in-HardLink
returns-in_ok-next-in-HardLink g t c =
    let a = c.args in
    follow-on g.D.Device.meaning g.D.Device.moves a.romfs.block.bytes a.romfs.start a.place a.links (header_value a.header.now) c.in-HardLink.is (sym c.is_16.ensures ∙ c.if-not-is_16.false) c.if-links-ge-LINKS.false a.store.now c.header_for.new.store
    (header_value c.in_ok-next-in-HardLink.next) (file_of c.follow.result) c.follow.new.store c.in_ok-next-in-HardLink.ensures.run c.follow.ensures
