use Rattle.std.proofs.Common.{◌≡◌, ◌+◌, sym, ◌∙◌, ap₂, arith}
use Rattle.tree.specs.Shape.{tree_blocks}
use Rattle.geometry.specs.Of.{shape_of}
use Rattle.geometry.proofs.Bounds.{bounds_of, tree_bound, blocks_none, blocks_some}
use Rattle.geometry.proofs.geometry.Geometry.tree_blocks.Goals as goal

-- both parts together
sum : (c : goal.After-start) → c.width.result + c.start.result ≡ tree_blocks (shape_of c.args.self.now)
sum c =
    let g = c.args.self.now in
    ap₂ (λ x y. x + y) c.width.ensures c.start.ensures
    ∙ blocks_some (shape_of g) (λ none. c.if-self-eq0.false (g.height ∙ none))

pub overflow_add-result : goal.overflow_add-result
overflow_add-result c =
    let g = c.args.self.now in
    record { fits = omega (arith, sum c, tree_bound (shape_of g) (bounds_of g)) }

pub returns-then-self-eq0 : goal.returns-then-self-eq0
returns-then-self-eq0 c =
    let g = c.args.self.now in
    blocks_none (shape_of g) (sym g.height ∙ c.if-self-eq0.true)

pub returns-else-self-eq0 : goal.returns-else-self-eq0
returns-else-self-eq0 c = sum c
