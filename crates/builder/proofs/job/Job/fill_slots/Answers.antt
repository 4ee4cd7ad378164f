use Rattle.std.proofs.Common.{rules, ◌≡◌, ◌<◌, ◌+◌, ◌*◌, ◌-◌, ◌++◌, ap, ◌∙◌, arith}
use Rattle.geometry.specs.Of.{shape_of}
use Rattle.builder.specs.Parts.{hash_by, over}
use Rattle.builder.proofs.Over.{block_len_within}
use Rattle.builder.proofs.Rows.{filling_starts, filling_room, filling_goes, filling_ends}
use Rattle.builder.proofs.job.Job.fill_slots.Goals as goal

pub loop-j-init : goal.loop-j-init
loop-j-init g c =
    let job = c.args.self.now in
    let iter = ap (λ x. x.iter) c.into_iter-j-iterator.ensures.into_iter_gives ∙ c.enumerate-j-items.ensures.source in
    let size = ap (λ x. x.size) iter ∙ c.chunks_exact.ensures.size ∙ c.block_len.ensures in
    let rest = ap (λ x. x.rest.now) iter ∙ c.chunks_exact.ensures.rest in
    let some : 0 < c.into_iter-j-iterator.result.iter.size = omega (arith, (block_len_within (shape_of job.geometry) job.geometry.limits c.args.i).0, size) in
    let count = ap (λ x. x.count) c.into_iter-j-iterator.ensures.into_iter_gives ∙ c.enumerate-j-items.ensures.count in
    let starts = filling_starts {h = hash_by job} {s = over (shape_of job.geometry) c.args.i} {slot = c.args.slot} size rest c.requires.zeros in
    search rules

pub overflow_mul-at : goal.overflow_mul-at
overflow_mul-at g c =
    let room = filling_room c.loop-j.invariant.2 c.requires.row (λ m. g.met.D.Digest.lengths (c.args.self.now.salt.now ++ m)) c.requires.fits c.requires.room _ _ c.in-Some.ensures.steps c.loop-j.invariant.0.0 in
    search rules

pub overflow_add-at : goal.overflow_add-at
overflow_add-at g c =
    let room = filling_room c.loop-j.invariant.2 c.requires.row (λ m. g.met.D.Digest.lengths (c.args.self.now.salt.now ++ m)) c.requires.fits c.requires.room _ _ c.in-Some.ensures.steps c.loop-j.invariant.0.0 in
    search rules

pub slice_bounds-salted-end : goal.slice_bounds-salted-end
slice_bounds-salted-end g c =
    let room = filling_room c.loop-j.invariant.2 c.requires.row (λ m. g.met.D.Digest.lengths (c.args.self.now.salt.now ++ m)) c.requires.fits c.requires.room _ _ c.in-Some.ensures.steps c.loop-j.invariant.0.0 in
    search rules

pub loop-j-preserved : goal.loop-j-preserved
loop-j-preserved g c =
    let at = c.in-Some.j * c.args.slot in
    let len : at + c.output_len-size.result - at ≡ g.D.Digest.LEN = omega (arith, c.output_len-size.ensures) in
    let goes =
    filling_goes c.loop-j.invariant.2 c.requires.row (λ m. g.met.D.Digest.lengths (c.args.self.now.salt.now ++ m)) c.requires.fits c.requires.room _ _ c.in-Some.ensures.steps c.loop-j.invariant.0.0 len
    c.salted.ensures in
    search rules

pub returns : goal.returns
returns g c = filling_ends c.loop-j.invariant.2 c.requires.row (λ m. g.met.D.Digest.lengths (c.args.self.now.salt.now ++ m)) c.requires.fits c.in-None.ensures.steps.0.1.0
