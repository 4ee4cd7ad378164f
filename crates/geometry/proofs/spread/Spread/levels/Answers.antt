use Rattle.std.proofs.Common.{◌^◌, ◌<◌, ◌≤◌, ◌∙◌, rules}
use Rattle.std.proofs.lemmas.Iterator.{first_from_Range}
use Rattle.geometry.proofs.Counting.{least_found}
use Rattle.geometry.proofs.spread.Spread.levels.Goals as goal

pub returns-clause-value : goal.returns-clause-value
returns-clause-value c =
    let f = c.args.self.fanout in
    let n = c.args.self.blocks in
    let found = first_from_Range _ _ _ c.find-least.result (λ m. n ≤ f ^ m) (λ m. f ^ m < n) c.find-least.ensures.ran (λ x q h. search rules) (λ x q h. search rules) in
    c.unwrap_or.ensures ∙ least_found f n c.find-least.result c.args.self.wide c.args.self.few found
