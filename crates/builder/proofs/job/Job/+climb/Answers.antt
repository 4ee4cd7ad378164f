use Rattle.std.proofs.Common.{rules, ◌≡◌, ◌≤◌, ◌<◌, ◌*◌, ◌+◌, ap, ap₂, ◌∙◌, arith}
use Rattle.geometry.specs.Of.{shape_of}
use Rattle.geometry.proofs.Bounds.{bounds_of}
use Rattle.tree.specs.Shape.{fanout, levels, width}
use Rattle.tree.specs.Laws.{Sound}
use Rattle.builder.specs.Parts.{hash_by, over}
use Rattle.builder.proofs.Over.{Cut, cut, block_len_within, level_len, level_row, level_zeros, levels_over, sound_over, width_over}
use Rattle.builder.proofs.Rows.{slots_room}
use Rattle.builder.proofs.Steps.{no_tree, length-one, one_root, is_level, tree_next, root_next}
use Rattle.builder.proofs.job.Job.+climb.Goals as goal
use Rattle.builder.proofs.job.Job.+climb.Goals.{After-hash_block, After-levels}

sound : (g : _) (t : _) (c : After-levels g t) → Sound (hash_by c.args.self.now) (over (shape_of c.args.self.now.geometry) c.args.i) g.D.Digest.LEN
sound g t c = sound_over c.args.self.now c.args.i g.met.D.Digest.lengths

height : (g : _) (t : _) (c : After-levels g t) → levels (over (shape_of c.args.self.now.geometry) c.args.i) + c.args.i ≡ c.levels.result
height g t c = omega (arith, levels_over (shape_of c.args.self.now.geometry) (sound g t c).wide c.args.i c.requires.low, c.levels.ensures, c.requires.low)

here : (g : _) (t : _) (c : After-hash_block g t) → Cut (shape_of c.args.self.now.geometry) c.args.i (c.start.result * c.hash_block.result) c.args.tree.now
here g t c =
    let s = shape_of c.args.self.now.geometry in
    let wide : 2 ≤ fanout s = omega (arith, bounds_of c.args.self.now.geometry) in
    let low : c.args.i < levels s = omega (arith, c.requires.low, c.levels.ensures, c.if-i-levels.false) in
    cut s wide low (ap₂ (λ x y. x * y) c.start.ensures c.hash_block.ensures) c.requires.zeros

pub salted-requires-clause-short : goal.salted-requires-clause-short
salted-requires-clause-short g t c =
    let job = c.args.self.now in
    let d = (goal.at.salted-requires-clause-short g t c).After-levels in
    omega (arith, length-one (sound g t d) c.args.below.now (omega (arith, height g t d, c.if-i-levels.true)) c.requires.below, (block_len_within (shape_of job.geometry) job.geometry.limits c.args.i).1)

pub overflow_mul-start : goal.overflow_mul-start
overflow_mul-start g t c = record { fits = omega (arith, (here g t c).inside) }

pub split_at_mut-above-requires : goal.split_at_mut-above-requires
split_at_mut-above-requires g t c = (here g t (goal.at.split_at_mut-above-requires g t c).After-hash_block).inside

pub fill_slots-requires-clause-room : goal.fill_slots-requires-clause-room
fill_slots-requires-clause-room g t c =
    let d = goal.at.fill_slots-requires-clause-room g t c in
    let s = shape_of c.args.self.now.geometry in
    let full = sound g t d.After-levels in
    let long = level_len (here g t d.After-hash_block) c.split_at_mut-above.ensures.back in
    omega (arith, slots_room full, ap (λ w. w * s.hash_block) (width_over s full.wide c.args.i 1), long, ap (λ k. width s c.args.i * k) c.slot.ensures)

pub fill_slots-requires-clause-zeros : goal.fill_slots-requires-clause-zeros
fill_slots-requires-clause-zeros g t c =
    level_zeros (here g t (goal.at.fill_slots-requires-clause-zeros g t c).After-hash_block) c.split_at_mut-above.ensures.back

pub climb-requires : goal.climb-requires
climb-requires g t c =
    let cut = here g t (goal.at.climb-requires g t c).After-hash_block in
    let low : c.args.i + 1 ≤ levels (shape_of c.args.self.now.geometry) = omega (arith, c.requires.low, c.levels.ensures, c.if-i-levels.false) in
    let row = level_row cut c.split_at_mut-above.ensures.back c.fill_slots.new.slots c.fill_slots.auto.slots in
    let zeros = c.split_at_mut-above.ensures.front ∙ cut.front in
    search rules

pub returns-then-i-levels-clause-tree : goal.returns-then-i-levels-clause-tree
returns-then-i-levels-clause-tree g t c =
    let d = (goal.at.returns-then-i-levels-clause-tree g t c).After-levels in
    no_tree (sound g t d) c.args.below.now (omega (arith, height g t d, c.if-i-levels.true)) c.requires.zeros

pub returns-then-i-levels-clause-root : goal.returns-then-i-levels-clause-root
returns-then-i-levels-clause-root g t c =
    let d = (goal.at.returns-then-i-levels-clause-root g t c).After-levels in
    c.salted.ensures ∙ one_root (sound g t d) c.args.below.now (omega (arith, height g t d, c.if-i-levels.true)) c.requires.below

pub returns-else-i-levels-clause-tree : goal.returns-else-i-levels-clause-tree
returns-else-i-levels-clause-tree g t c =
    let d = goal.at.returns-else-i-levels-clause-tree g t c in
    let s = shape_of c.args.self.now.geometry in
    let full = sound g t d.After-levels in
    let more : 0 < levels (over s c.args.i) = omega (arith, height g t d.After-levels, c.requires.low, c.if-i-levels.false, c.levels.ensures) in
    let long = level_len (here g t d.After-hash_block) c.split_at_mut-above.ensures.back in
    tree_next s c.args.i full more c.args.below.now (is_level s c.args.i full more c.args.below.now long c.slot.ensures c.fill_slots.ensures) c.climb.ensures.tree

pub returns-else-i-levels-clause-root : goal.returns-else-i-levels-clause-root
returns-else-i-levels-clause-root g t c =
    let d = goal.at.returns-else-i-levels-clause-root g t c in
    let s = shape_of c.args.self.now.geometry in
    let full = sound g t d.After-levels in
    let more : 0 < levels (over s c.args.i) = omega (arith, height g t d.After-levels, c.requires.low, c.if-i-levels.false, c.levels.ensures) in
    let long = level_len (here g t d.After-hash_block) c.split_at_mut-above.ensures.back in
    root_next s c.args.i full more c.args.below.now (is_level s c.args.i full more c.args.below.now long c.slot.ensures c.fill_slots.ensures) c.climb.ensures.root
