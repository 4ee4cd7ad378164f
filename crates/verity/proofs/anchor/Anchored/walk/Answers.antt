use Rattle.std.proofs.Common.{◌≡◌, ℕ, ◌-◌, suc, length, ◌∙◌, arith}
use Rattle.std.proofs.lemmas.List.{length-take, length-replicate}
use Rattle.device.specs.Answer.{answered}
use Rattle.device.proofs.Runs.{answered-err}
use Rattle.geometry.proofs.Bounds.{bounds_of}
use Rattle.layers.proofs.Walking.{walk-data, walk-ends, walk-goes}
use Rattle.verity.specs.Anchored.{anchor_of}
use Rattle.verity.proofs.anchor.Anchored.walk.Goals as goal

pub overflow_step-level : goal.overflow_step-level
overflow_step-level g c = record { fits = omega (arith, c.levels-level.ensures, bounds_of c.args.self.now.geometry) }

pub loop-level-init : goal.loop-level-init
loop-level-init g c answer end ran = rw (c.levels-level.ensures, c.output_len.ensures) at ran

pub returns-in_err-check_block-clause-run : goal.returns-in_err-check_block-clause-run
returns-in_err-check_block-clause-run g c =
    let a = anchor_of c.args.self.now in
    let level = c.loop-level.level in
    let next : level ≡ suc (level - 1) = omega arith in
    let long : length c.loop-level.block ≡ a.shape.hash_block = omega (arith, c.loop-level.auto.block, c.hash_block.ensures, bounds_of c.args.self.now.geometry, length-take {A = ℕ}, length-replicate {A = ℕ}) in
    let fault = c.in_err-check_block.field-0.0 in
    let checked = rw c.tree_place.ensures at c.in_err-check_block.ensures.run in
    c.loop-level.invariant (answered c.from_residual.result c.fill.new.self) c.check_block.new.below
    (rw (answered-err c.from_residual.result fault c.fill.new.self c.from_residual.ensures)
    (walk-ends g.D.Device.meaning g.D.Device.moves a c.args.k level (level - 1) next (length c.loop-level.block) long c.loop-level.want c.loop-level.below c.check_block.new.below fault checked))

pub loop-level-preserved : goal.loop-level-preserved
loop-level-preserved g c answer end rest =
    let a = anchor_of c.args.self.now in
    let level = c.loop-level.level in
    let next : level ≡ suc (level - 1) = omega arith in
    let long : length c.loop-level.block ≡ a.shape.hash_block = omega (arith, c.loop-level.auto.block, c.hash_block.ensures, bounds_of c.args.self.now.geometry, length-take {A = ℕ}, length-replicate {A = ℕ}) in
    let checked = rw c.tree_place.ensures at c.in_ok-check_block.ensures.run in
    c.loop-level.invariant answer end
    (walk-goes g.D.Device.meaning g.D.Device.moves a c.args.k level (level - 1) next (length c.loop-level.block) long c.loop-level.want c.loop-level.below c.check_block.new.below c.check_block.new.buf c.copy_from_slice.new.self answer end checked (c.copy_from_slice.ensures.after ∙ c.next_digest.ensures) rest)

pub returns-clause-run : goal.returns-clause-run
returns-clause-run g c =
    let a = anchor_of c.args.self.now in
    let none : c.loop-level.level ≡ 0 = omega arith in
    let long : length c.fill.new.self ≡ a.shape.data_block = omega (arith, c.requires.room, c.fill.ensures.len) in
    let checked = rw c.data.ensures at c.check_block-2.ensures.run in
    c.loop-level.invariant (answered c.check_block-2.result c.check_block-2.new.buf) c.check_block-2.new.below
    (walk-data g.D.Device.meaning g.D.Device.moves a c.args.k c.loop-level.level none (length c.fill.new.self) long c.loop-level.want c.loop-level.below (answered c.check_block-2.result c.check_block-2.new.buf) c.check_block-2.new.below checked)
