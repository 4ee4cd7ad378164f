-- A header that was read, as the rules take it.
use Rattle.std.specs.Prelude.{ℕ, ◌-◌, nat_lt, take, Result, Ok, Err}
use Rattle.volume.specs.declared.fault.PathFault.{PathFault}
use Rattle.volume.specs.declared.types.Start.{Start}
use Rattle.volume.specs.Fetches.{Fetches}
use Rattle.volume.specs.Header as rule
use Rattle.volume.specs.Use.{Extent, follow}
use Rattle.reader.specs.declared.header.Header.{Header}

abbrev pub header_value : Header → rule.Header
header_value h = record { at = h.at; next = h.next; info = h.info; entry = h.entry; name = take h.name_len h.name; length = h.length }

abbrev pub read_of : {E : Type 0} → Result Header E → Result rule.Header E
read_of (Ok h) = Ok (header_value h)
read_of (Err e) = Err e

-- the file that a header leads to, once so many links were followed; eight are followed at most
abbrev pub leads_to : {F : Type 0} → Start → ℕ → ℕ → rule.Header → Fetches F (PathFault F) Extent
leads_to start place links h = follow start place (8 - links) (nat_lt 0 links) h
