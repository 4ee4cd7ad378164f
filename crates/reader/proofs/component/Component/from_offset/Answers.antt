use Rattle.std.proofs.Common.{◌-◌, length, drop, ap, ◌∙◌, arith}
use Rattle.std.specs.List.{position_or_len}
use Rattle.std.proofs.lemmas.List.{take_all, length-drop}
use Rattle.reader.proofs.Parting.{is_slash, parts_from_at}
use Rattle.reader.proofs.component.Component.from_offset.Goals as goal

pub returns-clause-parts : goal.returns-clause-parts
returns-clause-parts c =
    let path = c.args.path.now in
    let at = c.args.at in
    let all = take_all (length path - at) (drop at path) (omega (arith, length-drop at path)) in
    parts_from_at path at c.before_slash.result c.requires (c.before_slash.ensures.value ∙ ap (position_or_len is_slash) all)
