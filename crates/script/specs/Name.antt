-- The names of the calls, as ASCII codes.
use Rattle.std.specs.Prelude.{ℕ, List, Option, Some, None, if◌then◌else◌, codes}
use Rattle.std.specs.Str.{bytes_eq}
use Rattle.script.specs.declared.name.Name.{Name}
use Rattle.script.specs.declared.name.Name.TheVariants.{Begin, Open, Read, Whole, List as lists, Close}

abbrev pub name_text : Name → List ℕ
name_text Begin = codes "begin"
name_text Open = codes "open"
name_text Read = codes "read"
name_text Whole = codes "whole"
name_text lists = codes "list"
name_text Close = codes "close"

-- the call that has this very text for its name
abbrev pub named : List ℕ → Option Name
named text =
    if bytes_eq text (name_text Begin) then Some Begin
    else if bytes_eq text (name_text Open) then Some Open
    else if bytes_eq text (name_text Read) then Some Read
    else if bytes_eq text (name_text Whole) then Some Whole
    else if bytes_eq text (name_text lists) then Some lists
    else if bytes_eq text (name_text Close) then Some Close
    else None
