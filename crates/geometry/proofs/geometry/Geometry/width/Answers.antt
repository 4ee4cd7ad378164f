use Rattle.std.proofs.Common.{arith}
use Rattle.geometry.specs.Of.{shape_of}
use Rattle.geometry.proofs.Bounds.{bounds_of, width_one}
use Rattle.geometry.proofs.geometry.Geometry.width.Goals as goal

pub returns-then-steps-self : goal.returns-then-steps-self
returns-then-steps-self c =
    let g = c.args.self.now in
    width_one (shape_of g) c.args.steps g.spread.some (omega (arith, bounds_of g)) (omega (arith, g.height))

pub overflow_cast-steps : goal.overflow_cast-steps
overflow_cast-steps c = let g = c.args.self.now in record { fits = omega (arith, g.height, bounds_of g) }

pub width-requires : goal.width-requires
width-requires c = let g = c.args.self.now in omega (arith, g.height, bounds_of g)
