-- A mount: the volume's rules over a store, over any device. Each call is one program of questions to that device.
use Rattle.std.specs.Prelude.{ℕ, ◌*◌, Result, Err, Option, Some, None}
use Rattle.device.specs.Program.{Program, done, bind}
use Rattle.device.specs.Layer.{through}
use Rattle.tree.specs.Shape.{Shape}
use Rattle.layers.specs.declared.fault.StorageFault.{StorageFault}
use Rattle.layers.specs.Anchor.{Anchor}
use Rattle.layers.specs.Cache.{Table}
use Rattle.layers.specs.Store.{StoreRule, path_check, cache_over}
use Rattle.volume.specs.Fetches.{by_blocks}
use Rattle.calls.specs.declared.refusal.MountRule.TheVariants.{Label}
use Rattle.calls.specs.declared.refusal.Refusal.{Refusal}
use Rattle.calls.specs.declared.refusal.Refusal.TheVariants.{Mount}
use Rattle.calls.specs.Calls.{Call, State, Accepted, Reply, fresh, call_rules, reply_of, state_of}

-- what a mount holds beside the device: what its label tells, what its store remembers, and the state of the calls
pub record Mounted (M : Type 0) : Type 0 where
  pub label : Option Anchor
  pub memory : M
  pub state : State

-- a mount that was just made
abbrev pub made : {R M : Type 0} → StoreRule R M → Option Anchor → Mounted M
made store label = record { label = label; memory = store.fresh; state = fresh }

-- bytes of an image of this shape
abbrev pub image_length : Shape → ℕ
image_length s = s.blocks * s.data_block

-- a call, by questions to the store: with a label that was refused each call is refused
abbrev pub by_label : {F : Type 0} → Option Anchor → State → Call → Program F (Result Accepted (Refusal F))
by_label None s call = done (Err (Mount Label))
by_label (Some anchor) s call = by_blocks anchor.shape.data_block (call_rules (image_length anchor.shape) s call)

-- the cache over the path check is a store
abbrev pub cached_check : (R : Type 0) → StoreRule R (Table × Unit {0})
cached_check R = cache_over (path_check R)

-- a call of a mount over a store, by questions to the device: its reply, and the mount after it
unfoldable pub mount : {R M : Type 0} → StoreRule R M → Mounted M → Call → Program R (Reply (StorageFault R) × Mounted M)
mount store m call =
    bind (through (store.step m.label) (by_label m.label m.state call) m.memory)
    (λ end. done (reply_of call end.0, record { label = m.label; memory = end.1; state = state_of m.state end.0 }))
