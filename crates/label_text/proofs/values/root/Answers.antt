use Rattle.std.proofs.Common.{◌∙◌, ap, ◌*◌}
use Rattle.label_text.proofs.Roots.{root_whole}
use Rattle.label_text.proofs.values.root.Goals as goal

pub returns-clause-whole : goal.returns-clause-whole
returns-clause-whole c = root_whole _ c.args.value.now c.from_hex.result c.from_hex.ensures (c.if-value-size.false ∙ ap (λ n. 2 * n) c.size.ensures)
