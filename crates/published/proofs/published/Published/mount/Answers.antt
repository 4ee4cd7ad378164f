use Rattle.std.proofs.Common.{ap, ◌∙◌}
use Rattle.calls.specs.Mount.{cached_check, made}
use Rattle.published.specs.Publisher.{publisher_of}
use Rattle.published.proofs.published.Published.mount.Goals as goal

pub returns-clause-made : goal.returns-clause-made
returns-clause-made g c = c.new.ensures.made ∙ ap (made (cached_check g.row.D-Refusal.Denot)) c.label.ensures.publishers.told

pub returns-clause-law : goal.returns-clause-law
returns-clause-law g c = c.new.ensures.law (publisher_of c.args.self.now) c.label.ensures.publishers
