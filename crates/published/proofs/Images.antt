-- What the publisher's image answers to a reading's calls.
use Rattle.std.proofs.Common.{◌≡◌, ℕ, ◌+◌, ◌-◌, ◌≤◌, min, true, false, cond, ltb, List, [], take, drop, Some, Result, Ok, Err, refl, ap, ◌∙◌}
use Rattle.std.proofs.lemmas.Bool.{cond-true, cond-false, le-ltb}
use Rattle.layers.specs.Publisher.{Publisher}
use Rattle.volume.specs.declared.types.Start.{Start}
use Rattle.volume.specs.Fetches.{Fetches, give, refuse, fetch, after, put, by_image}
use Rattle.volume.specs.Start.{start}
use Rattle.volume.specs.Paths.{open_path}
use Rattle.volume.specs.Use.{Extent}
use Rattle.volume.proofs.Gives.{gives-put, gives-image}
use Rattle.calls.specs.declared.refusal.MountRule.TheVariants.{Handle, Offset}
use Rattle.calls.specs.declared.refusal.Refusal.{Refusal}
use Rattle.calls.specs.declared.refusal.Refusal.TheVariants.{Mount, Volume, Path}
use Rattle.calls.specs.Calls.{begin, open_file, read, started, opened, count, Accepted, Rules, State, fresh, begin_rules, open_rules, read_rules, call_rules, bytes_of, filled_to, no}
use Rattle.calls.specs.Mount.{image_length}
use Rattle.published.specs.Reading.{image_opens}
use Rattle.published.proofs.Within.{open_inside}

-- a program and what follows it, by an image
abbrev pub on_value : {E X Y : Type 0} → Result X E → (X → Result Y E) → Result Y E
on_value (Ok x) next = next x
on_value (Err e) next = Err e

pub image-after : {F E X Y : Type 0} (image : List ℕ) (p : Fetches F E X) (next : X → Fetches F E Y) → by_image image (after p next) ≡ on_value (by_image image p) (λ x. by_image image (next x))
image-after image (give x) next = refl
image-after image (refuse e) next = refl
image-after image (fetch from n fault rest) next = image-after image (rest _) next

module _ (F : Type 0) (p : Publisher) (path : List ℕ) where
  abbrev pub starts : Result Start (Refusal F)
  starts = by_image p.image (put (λ fault. Volume fault) (start (image_length p.shape)))

  abbrev pub opens_at : Start → Result Extent (Refusal F)
  opens_at at = by_image p.image (put (λ fault. Path fault) (open_path at path))

  -- a mount that has begun here, and holds so many handles
  abbrev pub begun_at : Start → ℕ → State
  begun_at at held = record { begun = Some at; held = held }

  opens_is : image_opens F p path ≡ on_value starts opens_at
  opens_is = image-after p.image (put (λ fault. Volume fault) (start (image_length p.shape))) (λ at. put (λ fault. Path fault) (open_path at path))

  abbrev begins : Start → Result Accepted (Refusal F)
  begins at = Ok (record { given = started at; buffer = []; state = begun_at at 0 })

  pub begin_is : by_image p.image (call_rules (image_length p.shape) fresh begin) ≡ on_value starts begins
  unfolding begin_rules
  begin_is = image-after p.image (put (λ fault. Volume fault) (start (image_length p.shape))) (λ at. give (record { given = started at; buffer = []; state = begun_at at 0 }))

  pub open_is : (at : Start) → by_image p.image (call_rules (image_length p.shape) (begun_at at 0) (open_file path)) ≡ on_value (opens_at at) (λ file. Ok (record { given = opened file; buffer = []; state = begun_at at 1 }))
  unfolding open_rules
  open_is at = image-after p.image (put (λ fault. Path fault) (open_path at path)) (λ file. give (record { given = opened file; buffer = []; state = begun_at at 1 }))

  pub opens_after : (at : Start) → starts ≡ Ok at → image_opens F p path ≡ opens_at at
  opens_after at is = opens_is ∙ ap (λ r. on_value r opens_at) is

  pub opens_not : (refusal : Refusal F) → starts ≡ Err refusal → image_opens F p path ≡ Err refusal
  opens_not refusal is = opens_is ∙ ap (λ r. on_value r opens_at) is

  -- what is read of a file that was opened
  module _ (at : Start) (file : Extent) (is : opens_at at ≡ Ok file) (from n : ℕ) where
    inside : file.start + file.size ≤ at.size
    inside = gives-image (λ x. x.start + x.size ≤ at.size) p.image (put (λ fault. Path fault) (open_path at path)) (gives-put (λ x. x.start + x.size ≤ at.size) (λ fault. Path fault) (open_path at path) (open_inside F at path)) file is

    abbrev s : State
    s = begun_at at 1

    abbrev c : ℕ
    c = min n (file.size - from)

    abbrev reads : Rules F
    reads = after (bytes_of (file.start + from) c) (λ bytes. give (record { given = count c; buffer = filled_to n bytes; state = s }))

    abbrev comes_to : Rules F → Result Accepted (Refusal F)
    comes_to program = by_image p.image program

    no_handle : comes_to (call_rules (image_length p.shape) s (read file from n)) ≡ comes_to (cond (ltb file.size from) (no Offset) reads)
    unfolding read_rules
    no_handle = ap comes_to (cond-false (ltb at.size (file.start + file.size)) (no Handle) (cond (ltb file.size from) (no Offset) reads) (le-ltb at.size (file.start + file.size) inside))

    pub reads_past : ltb file.size from ≡ true → by_image p.image (call_rules {F = F} (image_length p.shape) s (read file from n)) ≡ Err (Mount Offset)
    reads_past past = no_handle ∙ ap comes_to (cond-true (ltb file.size from) (no Offset) reads past)

    pub reads_bytes : ltb file.size from ≡ false
        → by_image p.image (call_rules {F = F} (image_length p.shape) s (read file from n)) ≡ Ok (record { given = count c; buffer = filled_to n (take c (drop (file.start + from) p.image)); state = s })
    reads_bytes here = no_handle ∙ ap comes_to (cond-false (ltb file.size from) (no Offset) reads here)
