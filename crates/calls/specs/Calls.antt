-- The six calls, as programs of fetches.
use Rattle.std.specs.Prelude.{ℕ, ◌+◌, ◌-◌, min, cond, ◌||◌, not, List, [], ◌++◌, length, replicate, Result, Ok, Err, Option, Some, None, ◌==◌, nat_lt}
use Rattle.volume.specs.declared.types.Start.{Start}
use Rattle.volume.specs.declared.types.Entry.{Entry}
use Rattle.volume.specs.declared.fault.VolumeFault.TheVariants.{Storage}
use Rattle.volume.specs.Fetches.{Fetches, give, refuse, fetch, after, put}
use Rattle.volume.specs.Sizes.{name_size}
use Rattle.volume.specs.Start.{start}
use Rattle.volume.specs.Use.{Extent}
use Rattle.volume.specs.Paths.{open_path, list_path}
use Rattle.calls.specs.declared.refusal.MountRule.{MountRule}
use Rattle.calls.specs.declared.refusal.MountRule.TheVariants.{Handle, Offset, Length, Held, NotBegun}
use Rattle.calls.specs.declared.refusal.Refusal.{Refusal}
use Rattle.calls.specs.declared.refusal.Refusal.TheVariants.{Mount, Volume, Path}

-- a call with its arguments: of a buffer its length, of a handle the file's start and size, whoever opened it
pub data Call : Type 0 where
  begin : Call
  open_file : List ℕ → Call
  read : Extent → ℕ → ℕ → Call
  whole : Extent → ℕ → Call
  list : List ℕ → ℕ → ℕ → Call
  close : Extent → Call

-- what an accepted call gives beside its buffer
pub data Given : Type 0 where
  started : Start → Given
  opened : Extent → Given
  count : ℕ → Given
  all : Given
  listed : Entry → Given
  closed : Given

-- what the mount remembers: the start, once it has begun, and how many handles are held
pub record State : Type 0 where
  pub begun : Option Start
  pub held : ℕ

abbrev pub fresh : State
fresh = record { begun = None; held = 0 }

-- an accepted call: what it gives, every byte of its buffer, and the state after it
pub record Accepted : Type 0 where
  pub given : Given
  pub buffer : List ℕ
  pub state : State

abbrev pub Rules : Type 0 → Type 0
Rules F = Fetches F (Refusal F) Accepted

abbrev pub no : {F X : Type 0} → MountRule → Fetches F (Refusal F) X
no rule = refuse (Mount rule)

-- the bytes of a file, fetched
abbrev pub bytes_of : {F : Type 0} → ℕ → ℕ → Fetches F (Refusal F) (List ℕ)
bytes_of from n = fetch from n (λ fault. Volume (Storage from fault)) (λ bytes. give bytes)

-- bytes, and zeros behind them to a length of n
abbrev pub filled_to : ℕ → List ℕ → List ℕ
filled_to n bytes = bytes ++ replicate (n - length bytes) 0

-- once it has begun, a mount answers the start again and asks nothing; `limit` is the image's length
unfoldable pub begin_rules : {F : Type 0} → ℕ → State → Rules F
begin_rules limit s =
    elim s.begun [
      | Some at ↦ give (record { given = started at; buffer = []; state = s })
      | None ↦ after (put (λ fault. Volume fault) (start limit)) (λ at. give (record { given = started at; buffer = []; state = record { begun = Some at; held = s.held } }))
    ]

unfoldable pub open_rules : {F : Type 0} → Start → State → List ℕ → Rules F
open_rules at s path =
    cond (s.held == 65535) (no Held)
    (after (put (λ fault. Path fault) (open_path at path)) (λ file. give (record { given = opened file; buffer = []; state = record { begun = s.begun; held = s.held + 1 } })))

unfoldable pub read_rules : {F : Type 0} → Start → State → Extent → ℕ → ℕ → Rules F
read_rules at s file offset n =
    cond (nat_lt at.size (file.start + file.size)) (no Handle)
    (cond (nat_lt file.size offset) (no Offset)
    (let c = min n (file.size - offset) in after (bytes_of (file.start + offset) c) (λ bytes. give (record { given = count c; buffer = filled_to n bytes; state = s }))))

unfoldable pub whole_rules : {F : Type 0} → Start → State → Extent → ℕ → Rules F
whole_rules at s file n =
    cond (nat_lt at.size (file.start + file.size) || s.held == 0) (no Handle)
    (cond (not (n == file.size)) (no Length)
    (after (bytes_of file.start file.size) (λ bytes. give (record { given = all; buffer = bytes; state = record { begun = s.begun; held = s.held - 1 } }))))

-- an entry's name, with zeros behind it
unfoldable pub list_rules : {F : Type 0} → Start → State → List ℕ → ℕ → ℕ → Rules F
list_rules at s path index n =
    cond (not (n == name_size)) (no Length)
    (after (put (λ fault. Path fault) (list_path at path index)) (λ h. give (record { given = listed h.entry; buffer = filled_to n h.name; state = s })))

unfoldable pub close_rules : {F : Type 0} → State → Rules F
close_rules s = cond (s.held == 0) (no Handle) (give (record { given = closed; buffer = []; state = record { begun = s.begun; held = s.held - 1 } }))

-- the rules of a call in a state; all but begin are refused before the mount has begun
abbrev pub call_rules : {F : Type 0} → ℕ → State → Call → Rules F
call_rules limit s begin = begin_rules limit s
call_rules limit s (open_file path) = elim s.begun [ None ↦ no NotBegun | Some at ↦ open_rules at s path ]
call_rules limit s (read file offset n) = elim s.begun [ None ↦ no NotBegun | Some at ↦ read_rules at s file offset n ]
call_rules limit s (whole file n) = elim s.begun [ None ↦ no NotBegun | Some at ↦ whole_rules at s file n ]
call_rules limit s (list path index n) = elim s.begun [ None ↦ no NotBegun | Some at ↦ list_rules at s path index n ]
call_rules limit s (close file) = elim s.begun [ None ↦ no NotBegun | Some at ↦ close_rules s ]

-- how many bytes a call's buffer has
abbrev pub room : Call → ℕ
room begin = 0
room (open_file path) = 0
room (read file offset n) = n
room (whole file n) = n
room (list path index n) = n
room (close file) = 0

-- a call's answer, with every byte of its buffer: zeros where it is refused
pub record Reply (F : Type 0) : Type 0 where
  pub answer : Result Given (Refusal F)
  pub buffer : List ℕ

abbrev pub reply_of : {F : Type 0} → Call → Result Accepted (Refusal F) → Reply F
reply_of call (Ok accepted) = record { answer = Ok accepted.given; buffer = accepted.buffer }
reply_of call (Err refusal) = record { answer = Err refusal; buffer = replicate (room call) 0 }

-- a refused call leaves the state
abbrev pub state_of : {F : Type 0} → State → Result Accepted (Refusal F) → State
state_of s (Ok accepted) = accepted.state
state_of s (Err refusal) = s
