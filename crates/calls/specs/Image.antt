-- The publisher's image: a plain model that answers the calls by the same rules, from its bytes.
use Rattle.std.specs.Prelude.{Result, Ok, Err, Option, Some, None}
use Rattle.layers.specs.declared.fault.Place.{Place}
use Rattle.layers.specs.declared.fault.StorageFault.{StorageFault}
use Rattle.layers.specs.declared.fault.StorageFault.TheVariants.{Label, NoBlock, Refused, Mismatch}
use Rattle.layers.specs.Publisher.{Publisher}
use Rattle.volume.specs.Fetches.{by_image}
use Rattle.calls.specs.Calls.{Call, State, Given, Reply, call_rules, reply_of, state_of}
use Rattle.calls.specs.Refusal.{holds}
use Rattle.calls.specs.declared.refusal.Refusal.{Refusal}
use Rattle.calls.specs.Mount.{image_length}

-- what the image answers in a state, and the state after it
abbrev pub image_reply : {F : Type 0} → Publisher → State → Call → Reply F
image_reply p s call = reply_of call (by_image p.image (call_rules (image_length p.shape) s call))

-- the block that a storage fault names: that of a refusal from below, or of a wrong digest
abbrev pub blamed : {R : Type 0} → StorageFault R → Option Place
blamed Label = None
blamed (NoBlock block) = None
blamed (Refused place refusal) = Some place
blamed (Mismatch place) = Some place

abbrev pub blamed_if : {R : Type 0} → Option (StorageFault R) → Option Place
blamed_if None = None
blamed_if (Some fault) = blamed fault

-- the block that a reply names, if it is a storage fault or holds one
abbrev pub named : {R : Type 0} → Result Given (Refusal (StorageFault R)) → Option Place
named (Ok given) = None
named (Err refusal) = blamed_if (holds refusal)

-- the image goes on as its own answer says, unless the mount's was a storage fault
abbrev pub image_state : {R : Type 0} → Publisher → State → Call → Reply (StorageFault R) → State
image_state {R = R} p s call reply =
    elim (named reply.answer) [ Some place ↦ s | None ↦ state_of {F = StorageFault R} s (by_image p.image (call_rules (image_length p.shape) s call)) ]
