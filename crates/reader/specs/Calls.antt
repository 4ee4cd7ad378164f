-- The six calls over a store, as the rules take them.
use Rattle.std.specs.Prelude.{ℕ, List, length, Result, Ok, Err}
use Rattle.device.specs.declared.question.Question.{Question}
use Rattle.device.specs.Program.{Meaning}
use Rattle.geometry.specs.declared.geometry.Geometry.{Geometry}
use Rattle.geometry.specs.Of.{shape_of}
use Rattle.volume.specs.Use.{Extent}
use Rattle.calls.specs.declared.refusal.Refusal.{Refusal}
use Rattle.calls.specs.Calls as calls
use Rattle.calls.specs.Mount.{image_length}
use Rattle.reader.specs.declared.handle.Handle.{Handle}
use Rattle.reader.specs.declared.position.Position.{Position}
use Rattle.reader.specs.declared.nth.Nth.{Nth}
use Rattle.reader.specs.declared.state.State.{State}
use Rattle.reader.specs.Fetched.{Fetched}

-- the file of a handle
abbrev pub extent_of : Handle → Extent
extent_of handle = record { start = handle.start; size = handle.size }

abbrev pub file_of : {E : Type 0} → Result Handle E → Result Extent E
file_of (Ok handle) = Ok (extent_of handle)
file_of (Err e) = Err e

abbrev pub state_of : State → calls.State
state_of s = record { begun = s.begun; held = s.held }

-- the calls, by their arguments; of a buffer its length counts
abbrev pub begins : calls.Call
begins = calls.begin

abbrev pub opens : List ℕ → calls.Call
opens path = calls.open_file path

abbrev pub reads : Position → List ℕ → calls.Call
reads position buf = calls.read (extent_of position.handle.now) position.offset (length buf)

abbrev pub reads_whole : Handle → List ℕ → calls.Call
reads_whole handle buf = calls.whole (extent_of handle) (length buf)

abbrev pub lists : Nth → List ℕ → calls.Call
lists nth buf = calls.list nth.path.now nth.index (length buf)

abbrev pub closes : Handle → calls.Call
closes handle = calls.close (extent_of handle)

-- what an accepted call gives, by what it returned
abbrev pub opened_file : Handle → calls.Given
opened_file handle = calls.opened (extent_of handle)

abbrev pub gave_all : Unit {0} → calls.Given
gave_all none = calls.all

abbrev pub gave_closed : Unit {0} → calls.Given
gave_closed none = calls.closed

-- a call over a store, from one value of the store to another: what it comes to is what its rules come to by blocks
abbrev pub CallRan : {S F : Type 0} → (S → Meaning F) → (S → Question → S → Type 0) → Geometry → S → State → calls.Call → Result calls.Accepted (Refusal F) → S → Type 0
CallRan meaning moves geometry first state call end last =
    Fetched meaning moves (shape_of geometry).data_block first (calls.call_rules (image_length (shape_of geometry)) (state_of state) call) end last

-- what a call comes to: what it returned, put into what it gives, its buffer, and the state after it
abbrev pub outcome : {F X : Type 0} → (X → calls.Given) → List ℕ → State → Result X (Refusal F) → Result calls.Accepted (Refusal F)
outcome given buffer state (Ok x) = Ok (record { given = given x; buffer = buffer; state = state_of state })
outcome given buffer state (Err refusal) = Err refusal

-- a refusal, without the handle that comes back with it
abbrev pub refused : {F X : Type 0} → Result X (Handle × F) → Result X F
refused (Ok x) = Ok x
refused (Err both) = Err both.1

-- what `whole` comes to
abbrev pub came_whole : {F : Type 0} → List ℕ → State → Result (Unit {0}) (Handle × Refusal F) → Result calls.Accepted (Refusal F)
came_whole buffer state result = outcome gave_all buffer state (refused result)
