use Rattle.std.proofs.Common.{length}
use Rattle.geometry.specs.Of.{shape_of}
use Rattle.builder.specs.Parts.{hash_by, over}
use Rattle.builder.proofs.Rows.{Filling}
use Rattle.builder.proofs.job.Job.fill_slots.Given as goal

abbrev pub invariant-loop-j : goal.invariant-loop-j
invariant-loop-j g l =
    (goal.iterator-loop-j g).can_next l.j-iterator × (goal.iterator-loop-j g).is_finite l.j-iterator
    × Filling (hash_by l.self) (over (shape_of l.self.geometry) l.i) l.slot (length l.initial.slots) l.row l.j-iterator.count l.j-iterator.iter.size l.j-iterator.iter.rest.now l.slots
