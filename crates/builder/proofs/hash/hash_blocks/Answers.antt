use Rattle.std.proofs.Common.{rules, ◌≡◌, ◌*◌, length, ap₂, ◌∙◌, arith}
use Rattle.geometry.specs.Of.{shape_of}
use Rattle.tree.specs.Tree.{in_slot}
use Rattle.builder.specs.InParts.{digests_of}
use Rattle.builder.specs.Parts.{IsRow, hash_by, row_slots}
use Rattle.builder.proofs.Digests.{digests_are}
use Rattle.builder.proofs.Over.{count_data, over_data, row_over, sound_of}
use Rattle.builder.proofs.hash.hash_blocks.Goals as goal

pub fill_slots-requires-clause-row : goal.fill_slots-requires-clause-row
fill_slots-requires-clause-row g c = row_over c.in_ok-job.job.geometry _ (search rules)

pub fill_slots-requires-clause-room : goal.fill_slots-requires-clause-room
fill_slots-requires-clause-room g c =
    omega (arith, ap₂ (λ n k. n * k) (count_data c.in_ok-job.job.geometry) c.output_len.ensures, c.if-digests-digests_len.false, c.digests_len.ensures)

pub returns-clause-digests : goal.returns-clause-digests
returns-clause-digests g c =
    let job = c.in_ok-job.job in
    let s = shape_of job.geometry in
    let image = c.args.source.now.image.now in
    let total = length c.fill.new.self in
    let whole : IsRow s image = search rules in
    let room : total ≡ s.blocks * g.D.Digest.LEN = search rules in
    let made : c.fill_slots.new.slots ≡ digests_of (hash_by job) s.data_block image =
    c.fill_slots.ensures ∙ ap₂ (λ t n. in_slot total (row_slots (hash_by job) t n image)) (over_data job.geometry) c.output_len.ensures
    ∙ digests_are (sound_of job g.met.D.Digest.lengths) image whole total room in
    search rules
