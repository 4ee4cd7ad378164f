use Rattle.std.proofs.Common.{◌≤◌, ◌<◌, ◌*◌, [], sym, ap, ap₂, ◌∙◌, arith}
use Rattle.geometry.specs.Of.{shape_of}
use Rattle.geometry.proofs.Bounds.{bounds_of}
use Rattle.tree.specs.Shape.{fanout, levels}
use Rattle.tree.specs.Laws.{Sound}
use Rattle.builder.specs.Parts.{hash_by}
use Rattle.builder.proofs.Digests.{above_none, copied_tree, copied_root}
use Rattle.builder.proofs.Over.{Cut, cut, level_len, level_row, level_zeros, no_level, sound_of, zeros_over}
use Rattle.builder.proofs.Rows.{slots_room}
use Rattle.builder.proofs.Steps.{one_block}
use Rattle.builder.proofs.job.Job.climb_above.Goals as goal
use Rattle.builder.proofs.job.Job.climb_above.Goals.{After-hash_block, After-levels}

sound : (g : _) (c : After-levels g) → Sound (hash_by c.args.self.now) (shape_of c.args.self.now.geometry) g.D.Digest.LEN
sound g c = sound_of c.args.self.now g.met.D.Digest.lengths

-- the tree's buffer, cut where level 0 starts
here : (g : _) (c : After-hash_block g) → Cut (shape_of c.args.self.now.geometry) 0 (c.start.result * c.hash_block.result) c.args.tree.now
here g c =
    let s = shape_of c.args.self.now.geometry in
    let wide : 2 ≤ fanout s = omega (arith, bounds_of c.args.self.now.geometry) in
    let more : 0 < levels s = omega (arith, c.levels.ensures, c.if-levels-eq0.false) in
    cut s wide more (ap₂ (λ x y. x * y) c.start.ensures c.hash_block.ensures) (zeros_over c.args.self.now.geometry c.requires.zeros)

pub copy_from_slice-requires : goal.copy_from_slice-requires
copy_from_slice-requires g c =
    let one = one_block (sound g (goal.at.copy_from_slice-requires g c).After-levels) [] (sym c.levels.ensures ∙ c.if-levels-eq0.true) in
    omega (arith, c.requires.room, c.requires.whole, ap (λ n. n * g.D.Digest.LEN) one)

pub overflow_mul-start : goal.overflow_mul-start
overflow_mul-start g c = record { fits = omega (arith, (here g c).inside) }

pub split_at_mut-above-requires : goal.split_at_mut-above-requires
split_at_mut-above-requires g c = (here g (goal.at.split_at_mut-above-requires g c).After-hash_block).inside

pub put_front-requires-clause-zeros : goal.put_front-requires-clause-zeros
put_front-requires-clause-zeros g c = level_zeros (here g (goal.at.put_front-requires-clause-zeros g c).After-hash_block) c.split_at_mut-above.ensures.back

pub put_front-requires-clause-room : goal.put_front-requires-clause-room
put_front-requires-clause-room g c =
    let d = goal.at.put_front-requires-clause-room g c in
    let job = c.args.self.now in
    let long = level_len (here g d.After-hash_block) c.split_at_mut-above.ensures.back in
    omega (arith, slots_room (sound g d.After-levels), long, c.requires.whole, ap (λ k. (shape_of job.geometry).blocks * k) job.bare)

pub climb-requires-clause-below : goal.climb-requires-clause-below
climb-requires-clause-below g c =
    level_row (here g (goal.at.climb-requires-clause-below g c).After-hash_block) c.split_at_mut-above.ensures.back c.put_front.new.level c.put_front.auto.level

pub climb-requires-clause-zeros : goal.climb-requires-clause-zeros
climb-requires-clause-zeros g c = c.split_at_mut-above.ensures.front ∙ (here g (goal.at.climb-requires-clause-zeros g c).After-hash_block).front

pub returns-then-levels-eq0-clause-tree : goal.returns-then-levels-eq0-clause-tree
returns-then-levels-eq0-clause-tree g c =
    let none = sym c.levels.ensures ∙ c.if-levels-eq0.true in
    c.requires.zeros ∙ no_level _ none ∙ sym (above_none _ _ _ _ none).0

pub returns-then-levels-eq0-clause-root : goal.returns-then-levels-eq0-clause-root
returns-then-levels-eq0-clause-root g c = c.copy_from_slice.ensures.after ∙ sym (above_none _ _ _ _ (sym c.levels.ensures ∙ c.if-levels-eq0.true)).1

pub returns-else-levels-eq0-clause-tree : goal.returns-else-levels-eq0-clause-tree
returns-else-levels-eq0-clause-tree g c =
    let long = level_len (here g (goal.at.returns-else-levels-eq0-clause-tree g c).After-hash_block) c.split_at_mut-above.ensures.back in
    copied_tree _ _ _ _ (λ none. c.if-levels-eq0.false (c.levels.ensures ∙ none)) c.args.self.now.bare c.requires.whole long c.put_front.ensures c.climb.ensures.tree

pub returns-else-levels-eq0-clause-root : goal.returns-else-levels-eq0-clause-root
returns-else-levels-eq0-clause-root g c =
    let long = level_len (here g (goal.at.returns-else-levels-eq0-clause-root g c).After-hash_block) c.split_at_mut-above.ensures.back in
    copied_root _ _ _ _ (λ none. c.if-levels-eq0.false (c.levels.ensures ∙ none)) c.args.self.now.bare c.requires.whole long c.put_front.ensures c.climb.ensures.root
