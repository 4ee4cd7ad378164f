use Rattle.device.specs.Answer.{Answer}
use Rattle.device.specs.Run.{Ran}
use Rattle.layers.specs.declared.fault.StorageFault.{StorageFault}
use Rattle.tree.specs.Shape.{levels as levels_of}
use Rattle.layers.specs.Verity.{walk}
use Rattle.verity.specs.Anchored.{anchor_of}
use Rattle.verity.proofs.anchor.Anchored.walk.Given as goal

-- whatever run the rest of the way has from here, the whole way has from the start
abbrev pub invariant-loop-level : goal.invariant-loop-level
invariant-loop-level g l =
    let a = anchor_of l.self in
    (answer : Answer (StorageFault _)) (end : _) → Ran g.D.Device.meaning g.D.Device.moves l.below (walk a l.k l.level l.want) answer end
    → Ran g.D.Device.meaning g.D.Device.moves l.fn.below (walk a l.k (levels_of a.shape) a.root) answer end
