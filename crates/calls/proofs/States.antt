-- The state after a call has a start within the image, if the state before it has.
use Rattle.std.proofs.Common.{◌≡◌, ℕ, ◌+◌, ◌-◌, ◌≤◌, min, ◌||◌, not, ltb, ◌==◌, cond, List, [], Option, None, Some, IfSome, Result, Ok, Err}
use Rattle.volume.specs.declared.types.Start.{Start}
use Rattle.volume.specs.Fetches.{Fetches, give, after, put, by_image}
use Rattle.volume.specs.Start.{start_of, start}
use Rattle.volume.specs.Use.{Extent}
use Rattle.volume.specs.Paths.{open_path, list_path}
use Rattle.volume.proofs.Gives.{Gives, gives-after, gives-put, gives-cond, gives-settled, gives-image, gives-any}
use Rattle.volume.proofs.Rules.{start-within}
use Rattle.calls.specs.declared.refusal.MountRule.TheVariants.{Handle, Offset, Length, Held, NotBegun}
use Rattle.calls.specs.declared.refusal.Refusal.{Refusal}
use Rattle.calls.specs.declared.refusal.Refusal.TheVariants.{Volume, Path}
use Rattle.calls.specs.Calls.{Call, begin, open_file, read, whole, list, close, Given, started, opened, count, all, listed, closed, State, Accepted, Rules, no, bytes_of, filled_to, begin_rules, open_rules, read_rules, whole_rules, list_rules, close_rules, call_rules, state_of}
use Rattle.calls.proofs.Within.{Fits}

module _ (F : Type 0) (limit : ℕ) where
  abbrev pub Keeps : Rules F → Type 0
  Keeps program = Gives {F = F} (λ a. Fits limit a.state) program

  start_gives : Gives {F = F} (λ at. at.size ≤ limit) (start limit)
  unfolding start
  start_gives = λ bytes. gives-settled F (λ at. at.size ≤ limit) (start_of limit bytes) (start-within F limit bytes)

  begin_keeps : (held : ℕ) (o : Option Start) → IfSome o (λ at. at.size ≤ limit) → Keeps (begin_rules limit (record { begun = o; held = held }))
  unfolding begin_rules
  begin_keeps held (Some at) fits = fits
  begin_keeps held None fits =
      gives-after (λ at. at.size ≤ limit) (λ a. Fits limit a.state) (put (λ fault. Volume fault) (start limit)) (λ at. give (record { given = started at; buffer = []; state = record { begun = Some at; held = held } }))
      (gives-put (λ at. at.size ≤ limit) (λ fault. Volume fault) (start limit) start_gives) (λ at within. within)

  module _ (s : State) (fits : Fits limit s) (at : Start) where
    -- what is given behind any program keeps the start
    behind : {X : Type 0} (p : Fetches F (Refusal F) X) (given : X → Given) (buffer : X → List ℕ) (held : ℕ) → Keeps (after p (λ x. give (record { given = given x; buffer = buffer x; state = record { begun = s.begun; held = held } })))
    behind p given buffer held =
        gives-after (λ x. Unit {0}) (λ a. Fits limit a.state) p (λ x. give (record { given = given x; buffer = buffer x; state = record { begun = s.begun; held = held } })) (gives-any p) (λ x any. fits)

    keeps_cond : (b : _) (p q : Rules F) → Keeps p → Keeps q → Keeps (cond b p q)
    keeps_cond b p q one other = gives-cond (λ a. Fits limit a.state) b p q one other

    open_keeps : (path : List ℕ) → Keeps (open_rules at s path)
    unfolding open_rules
    open_keeps path = keeps_cond (s.held == 65535) (no Held) (after (put (λ fault. Path fault) (open_path at path)) (λ file. give (record { given = opened file; buffer = []; state = record { begun = s.begun; held = s.held + 1 } }))) tt
        (behind (put (λ fault. Path fault) (open_path at path)) (λ file. opened file) (λ file. []) (s.held + 1))

    list_keeps : (path : List ℕ) (index n : ℕ) → Keeps (list_rules at s path index n)
    unfolding list_rules
    list_keeps path index n = keeps_cond (not (n == 128)) (no Length) (after (put (λ fault. Path fault) (list_path at path index)) (λ h. give (record { given = listed h.entry; buffer = filled_to n h.name; state = s }))) tt
        (behind (put (λ fault. Path fault) (list_path at path index)) (λ h. listed h.entry) (λ h. filled_to n h.name) s.held)

    read_keeps : (file : Extent) (f n : ℕ) → Keeps (read_rules at s file f n)
    unfolding read_rules
    read_keeps file f n =
        let c = min n (file.size - f) in
        let go : Rules F = after (bytes_of (file.start + f) c) (λ bytes. give (record { given = count c; buffer = filled_to n bytes; state = s })) in
        keeps_cond (ltb at.size (file.start + file.size)) (no Handle) (cond (ltb file.size f) (no Offset) go) tt (keeps_cond (ltb file.size f) (no Offset) go tt (λ bytes. fits))

    whole_keeps : (file : Extent) (n : ℕ) → Keeps (whole_rules at s file n)
    unfolding whole_rules
    whole_keeps file n =
        let go : Rules F = after (bytes_of file.start file.size) (λ bytes. give (record { given = all; buffer = bytes; state = record { begun = s.begun; held = s.held - 1 } })) in
        keeps_cond (ltb at.size (file.start + file.size) || s.held == 0) (no Handle) (cond (not (n == file.size)) (no Length) go) tt (keeps_cond (not (n == file.size)) (no Length) go tt (λ bytes. fits))

    close_keeps : Keeps (close_rules s)
    unfolding close_rules
    close_keeps = keeps_cond (s.held == 0) (no Handle) (give (record { given = closed; buffer = []; state = record { begun = s.begun; held = s.held - 1 } })) tt fits

  by_begun : (o : Option Start) (on : Start → Rules F) → ((at : Start) → Keeps (on at)) → Keeps (elim o [ None ↦ no NotBegun | Some at ↦ on at ])
  by_begun None on then = tt
  by_begun (Some at) on then = then at

  pub call_keeps : (s : State) → Fits limit s → (call : Call) → Keeps (call_rules limit s call)
  call_keeps s fits begin = begin_keeps s.held s.begun fits
  call_keeps s fits (open_file path) = by_begun s.begun (λ at. open_rules at s path) (λ at. open_keeps s fits at path)
  call_keeps s fits (read file f n) = by_begun s.begun (λ at. read_rules at s file f n) (λ at. read_keeps s fits at file f n)
  call_keeps s fits (whole file n) = by_begun s.begun (λ at. whole_rules at s file n) (λ at. whole_keeps s fits at file n)
  call_keeps s fits (list path index n) = by_begun s.begun (λ at. list_rules at s path index n) (λ at. list_keeps s fits at path index n)
  call_keeps s fits (close file) = by_begun s.begun (λ at. close_rules s) (λ at. close_keeps s fits at)

  -- and so has the state after the image's answer
  pub fits-after : (image : List ℕ) (s : State) → Fits limit s → (call : Call) (r : Result Accepted (Refusal F)) → by_image image (call_rules limit s call) ≡ r → Fits limit (state_of s r)
  fits-after image s fits call (Ok a) is = gives-image (λ x. Fits limit x.state) image (call_rules limit s call) (call_keeps s fits call) a is
  fits-after image s fits call (Err refusal) is = fits
