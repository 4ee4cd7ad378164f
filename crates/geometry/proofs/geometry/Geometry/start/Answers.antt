use Rattle.std.proofs.Common.{ap, ◌∙◌, unwrap_or}
use Rattle.geometry.proofs.Bounds.{start_kept}
use Rattle.geometry.proofs.geometry.Geometry.start.Goals as goal

pub returns : goal.returns
returns c = c.unwrap_or.ensures ∙ ap (λ o. unwrap_or o 0) c.copied.ensures ∙ start_kept c.args.self.now c.args.level c.get.result c.get.ensures.lookup
