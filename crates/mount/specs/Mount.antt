-- A mount's own values, as the rules take them, and its calls.
use Rattle.std.specs.Prelude.{ℕ, List, [], Result, Ok, Err}
use Rattle.device.specs.Program.{exchanges}
use Rattle.layers.specs.declared.fault.StorageFault.{StorageFault}
use Rattle.layers.specs.declared.store.Store as store
use Rattle.calls.specs.declared.refusal.Refusal.{Refusal}
use Rattle.volume.specs.Use.{Extent}
use Rattle.calls.specs.Calls.{Call, Given, Reply, close, closed}
use Rattle.calls.specs.Mount.{Mounted, mount}
use Rattle.calls.specs.Law.{Event, Step, Used}
use Rattle.reader.specs.Calls.{state_of}
use Rattle.mount.specs.declared.mount.MountOver.{MountOver}

-- what the label tells, what the store remembers, and the state of the calls
abbrev pub mounted_of : {S B R : Type 0} {s : store.Ghosts S B R} {d e : _} → MountOver S B R s d e → Mounted s.Memory
mounted_of {s = s} m = record { label = s.label m.store; memory = s.memory m.store; state = state_of m.state }

-- the device at the bottom
abbrev pub device_of : {S B R : Type 0} {s d e : _} → MountOver S B R s d e → B
device_of {s = s} m = s.bottom m.store

-- how many handles are held
abbrev pub held_of : {S B R : Type 0} {s d e : _} → MountOver S B R s d e → ℕ
held_of m = m.state.held

-- what a call returned, put into what it gives, with its buffer
abbrev pub answer_of : {F X : Type 0} → (X → Given) → Result X (Refusal F) → Result Given (Refusal F)
answer_of given (Ok x) = Ok (given x)
answer_of given (Err refusal) = Err refusal

abbrev pub replied : {F X : Type 0} → (X → Given) → List ℕ → Result X (Refusal F) → Reply F
replied given buffer result = record { answer = answer_of given result; buffer = buffer }

-- a call of a mount and its reply, with what its rules ask the device and what that answers: an event of the law of runs
abbrev pub event_of : {S B R : Type 0} {s : store.Ghosts S B R} {d e : _} → MountOver S B R s d e → Call → Reply (StorageFault R) → Event R
event_of {s = s} {e = e} m call reply = record { call = call; reply = reply; exchanges = exchanges (e.meaning (device_of m)) (mount s.rule (mounted_of m) call) }

-- a call takes a mount from one value to another, and replies: a step of the law of runs
abbrev pub Called : {S B R : Type 0} {s : store.Ghosts S B R} {d e : _} → MountOver S B R s d e → Call → Reply (StorageFault R) → MountOver S B R s d e → Type 0
Called {s = s} {e = e} m call reply n = Step s.rule e.meaning e.moves (mounted_of m) (device_of m) (event_of m call reply) (mounted_of n) (device_of n)

-- calls take a mount from one value to another: a use, of which the law of runs speaks
abbrev pub UsedTo : {S B R : Type 0} {s : store.Ghosts S B R} {d e : _} → MountOver S B R s d e → List (Event R) → MountOver S B R s d e → Type 0
UsedTo {s = s} {e = e} m xs n = Used s.rule e.meaning e.moves (mounted_of m) (device_of m) xs (mounted_of n) (device_of n)

-- a file is closed
abbrev pub Closes : {S B R : Type 0} {s : store.Ghosts S B R} {d e : _} → MountOver S B R s d e → Extent → MountOver S B R s d e → Type 0
Closes m file n = Called m (close file) (record { answer = Ok closed; buffer = [] }) n
