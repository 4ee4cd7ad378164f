-- The six calls stay within the image, in any state whose start does.
use Rattle.std.proofs.Common.{ℕ, ◌+◌, ◌-◌, ◌≤◌, min, cond, ◌||◌, not, ltb, ◌==◌, List, [], Option, None, Some, IfSome, refl, arith}
use Rattle.std.proofs.lemmas.Bool.{or_parts, ltb-false}
use Rattle.volume.specs.declared.types.Start.{Start}
use Rattle.volume.specs.Fault.{volume_holds, path_holds}
use Rattle.volume.specs.Fetches.{give, after, put}
use Rattle.volume.specs.Start.{start}
use Rattle.volume.specs.Use.{Extent}
use Rattle.volume.specs.Paths.{open_path, list_path}
use Rattle.volume.proofs.Clean.{Clean, clean-after, clean-put, clean-cond}
use Rattle.volume.proofs.Rules.{start-clean, open_path-clean, list_path-clean}
use Rattle.calls.specs.declared.refusal.MountRule.TheVariants.{Handle, Offset, Length, Held, NotBegun}
use Rattle.calls.specs.declared.refusal.Refusal.TheVariants.{Volume, Path}
use Rattle.calls.specs.Refusal.{holds}
use Rattle.calls.specs.Calls.{Call, begin, open_file, read, whole, list, close, started, opened, count, all, listed, closed, State, Rules, no, bytes_of, filled_to, begin_rules, open_rules, read_rules, whole_rules, list_rules, close_rules, call_rules}

-- the start that a state has lies within the image
abbrev pub Fits : ℕ → State → Type 0
Fits limit s = IfSome s.begun (λ at. at.size ≤ limit)

module _ (F : Type 0) (limit : ℕ) where
  abbrev IsClean : Rules F → Type 0
  IsClean program = Clean {F = F} holds limit program

  begin_clean : 512 ≤ limit → (held : ℕ) (o : Option Start) → IsClean (begin_rules limit (record { begun = o; held = held }))
  unfolding begin_rules
  begin_clean room held (Some at) = tt
  begin_clean room held None =
      clean-after holds limit (put (λ fault. Volume fault) (start limit)) (λ at. give (record { given = started at; buffer = []; state = record { begun = Some at; held = held } }))
      (clean-put volume_holds limit (λ fault. Volume fault) holds (λ e. refl) (start limit) (start-clean F limit room)) (λ at. tt)

  module _ (at : Start) (fits : at.size ≤ limit) (s : State) where
    open_clean : (path : List ℕ) → IsClean (open_rules at s path)
    unfolding open_rules
    open_clean path =
        let go : Rules F = after (put (λ fault. Path fault) (open_path at path)) (λ file. give (record { given = opened file; buffer = []; state = record { begun = s.begun; held = s.held + 1 } })) in
        clean-cond holds limit (s.held == 65535) (no Held) go (λ is. refl)
        (λ is. clean-after holds limit (put (λ fault. Path fault) (open_path at path)) (λ file. give (record { given = opened file; buffer = []; state = record { begun = s.begun; held = s.held + 1 } }))
        (clean-put path_holds limit (λ fault. Path fault) holds (λ e. refl) (open_path at path) (open_path-clean F limit at fits path)) (λ file. tt))

    list_clean : (path : List ℕ) (index n : ℕ) → IsClean (list_rules at s path index n)
    unfolding list_rules
    list_clean path index n =
        let go : Rules F = after (put (λ fault. Path fault) (list_path at path index)) (λ h. give (record { given = listed h.entry; buffer = filled_to n h.name; state = s })) in
        clean-cond holds limit (not (n == 128)) (no Length) go (λ is. refl)
        (λ is. clean-after holds limit (put (λ fault. Path fault) (list_path at path index)) (λ h. give (record { given = listed h.entry; buffer = filled_to n h.name; state = s }))
        (clean-put path_holds limit (λ fault. Path fault) holds (λ e. refl) (list_path at path index) (list_path-clean F limit at fits path index)) (λ h. tt))

    read_clean : (file : Extent) (f n : ℕ) → IsClean (read_rules at s file f n)
    unfolding read_rules
    read_clean file f n =
        let c = min n (file.size - f) in
        let go : Rules F = after (bytes_of (file.start + f) c) (λ bytes. give (record { given = count c; buffer = filled_to n bytes; state = s })) in
        clean-cond holds limit (ltb at.size (file.start + file.size)) (no Handle) (cond (ltb file.size f) (no Offset) go) (λ is. refl)
        (λ inside. clean-cond holds limit (ltb file.size f) (no Offset) go (λ is. refl)
        (λ reach.
        let one = ltb-false at.size (file.start + file.size) inside in
        let two = ltb-false file.size f reach in
        (omega arith, (λ fault. refl), λ bytes. tt)))

    whole_clean : (file : Extent) (n : ℕ) → IsClean (whole_rules at s file n)
    unfolding whole_rules
    whole_clean file n =
        let go : Rules F = after (bytes_of file.start file.size) (λ bytes. give (record { given = all; buffer = bytes; state = record { begun = s.begun; held = s.held - 1 } })) in
        clean-cond holds limit (ltb at.size (file.start + file.size) || s.held == 0) (no Handle) (cond (not (n == file.size)) (no Length) go) (λ is. refl)
        (λ inside. clean-cond holds limit (not (n == file.size)) (no Length) go (λ is. refl)
        (λ same.
        let one = ltb-false at.size (file.start + file.size) (or_parts (ltb at.size (file.start + file.size)) (s.held == 0) inside).0 in
        (omega arith, (λ fault. refl), λ bytes. tt)))

    close_clean : IsClean (close_rules s)
    unfolding close_rules
    close_clean =
        clean-cond holds limit (s.held == 0) (no Handle) (give (record { given = closed; buffer = []; state = record { begun = s.begun; held = s.held - 1 } })) (λ is. refl) (λ is. tt)

  -- a call that is refused before the mount has begun
  by_begun : (o : Option Start) → IfSome o (λ at. at.size ≤ limit) → (on : Start → Rules F) → ((at : Start) → at.size ≤ limit → IsClean (on at)) → IsClean (elim o [ None ↦ no NotBegun | Some at ↦ on at ])
  by_begun None fits on then = refl
  by_begun (Some at) fits on then = then at fits

  pub call-clean : 512 ≤ limit → (s : State) → Fits limit s → (call : Call) → IsClean (call_rules limit s call)
  call-clean room s fits begin = begin_clean room s.held s.begun
  call-clean room s fits (open_file path) = by_begun s.begun fits (λ at. open_rules at s path) (λ at within. open_clean at within s path)
  call-clean room s fits (read file f n) = by_begun s.begun fits (λ at. read_rules at s file f n) (λ at within. read_clean at within s file f n)
  call-clean room s fits (whole file n) = by_begun s.begun fits (λ at. whole_rules at s file n) (λ at within. whole_clean at within s file n)
  call-clean room s fits (list path index n) = by_begun s.begun fits (λ at. list_rules at s path index n) (λ at within. list_clean at within s path index n)
  call-clean room s fits (close file) = by_begun s.begun fits (λ at. close_rules s) (λ at within. close_clean at within s)
