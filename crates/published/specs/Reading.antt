-- What a file that is read from a card is worth: begin, open, read and close over any device, by the label that the builder's
-- root gives.
use Rattle.std.specs.Prelude.{◌≡◌, ℕ, ◌+◌, ◌-◌, min, List, [], ◌∷◌, take, drop, replicate, Result, Ok, Err, Some, IsOk, MatchResult, MatchBool, nat_lt}
use Rattle.device.specs.declared.question.Question.{Question}
use Rattle.device.specs.Program.{Meaning, Somewhere}
use Rattle.layers.specs.declared.fault.Place.{Place}
use Rattle.layers.specs.declared.fault.StorageFault.{StorageFault}
use Rattle.layers.specs.Publisher.{Publisher, Twin, anchor_of}
use Rattle.volume.specs.Fetches.{after, put, by_image}
use Rattle.volume.specs.Start.{start}
use Rattle.volume.specs.Paths.{open_path}
use Rattle.volume.specs.Use.{Extent}
use Rattle.calls.specs.declared.refusal.MountRule.TheVariants.{Offset}
use Rattle.calls.specs.declared.refusal.Refusal.{Refusal}
use Rattle.calls.specs.declared.refusal.Refusal.TheVariants.{Mount, Volume, Path}
use Rattle.calls.specs.Refusal.{holds}
use Rattle.calls.specs.Calls.{begin, open_file, read, close, opened, closed, count, filled_to}
use Rattle.calls.specs.Mount.{Mounted, cached_check, image_length, made}
use Rattle.calls.specs.Image.{blamed_if}
use Rattle.calls.specs.Law.{Event, Used, IsToBlame, all_exchanges}
use Rattle.mount.specs.Mount.{replied}

-- a reading's last call was refused, and so is the reading; its buffer of n bytes is all zeros
abbrev pub Ends : {R : Type 0} → ℕ → Event R → Result ℕ (Refusal (StorageFault R)) → List ℕ → Type 0
Ends n x answer buffer = (refusal : _) × (x.reply.answer ≡ Err refusal) × (answer ≡ Err refusal) × (buffer ≡ replicate n 0)

-- the calls of a reading: begin; where that is accepted open; and where that is too, read and close. It comes to what read does
abbrev pub IsReading : {R : Type 0} → List ℕ → ℕ → ℕ → Result ℕ (Refusal (StorageFault R)) → List ℕ → List (Event R) → Type 0
IsReading path from n answer buffer [] = ⊥
IsReading path from n answer buffer (x ∷ []) = (x.call ≡ begin) × Ends n x answer buffer
IsReading path from n answer buffer (x ∷ y ∷ []) = (x.call ≡ begin) × IsOk x.reply.answer × (y.call ≡ open_file path) × Ends n y answer buffer
IsReading path from n answer buffer (x ∷ y ∷ z ∷ []) = ⊥
IsReading path from n answer buffer (x ∷ y ∷ z ∷ w ∷ []) =
    (x.call ≡ begin) × IsOk x.reply.answer
    × ((file : Extent) × (y.call ≡ open_file path) × (y.reply.answer ≡ Ok (opened file)) × (z.call ≡ read file from n) × (z.reply ≡ replied count buffer answer) × (w.call ≡ close file) × (w.reply.answer ≡ Ok closed))
IsReading path from n answer buffer (x ∷ y ∷ z ∷ w ∷ v ∷ more) = ⊥

-- the file that the image has at a path, or why it has none
abbrev pub image_opens : (F : Type 0) → Publisher → List ℕ → Result Extent (Refusal F)
image_opens F p path = by_image {F = F} p.image (after (put (λ fault. Volume fault) (start (image_length p.shape))) (λ at. put (λ fault. Path fault) (open_path at path)))

-- the bytes of a file from an offset on, as many as there are and n at most, zeros behind them; or 51 where the offset is behind
-- the file's end
abbrev pub IsPartOf : {F : Type 0} → List ℕ → Extent → ℕ → ℕ → Result ℕ (Refusal F) → List ℕ → Type 0
IsPartOf image file from n answer buffer =
    MatchBool (nat_lt file.size from) ((answer ≡ Err (Mount Offset)) × (buffer ≡ replicate n 0))
    (let c = min n (file.size - from) in (answer ≡ Ok c) × (buffer ≡ filled_to n (take c (drop (file.start + from) image))))

-- exactly what the image gives
abbrev pub IsOfImage : {F : Type 0} → Publisher → List ℕ → ℕ → ℕ → Result ℕ (Refusal F) → List ℕ → Type 0
IsOfImage {F = F} p path from n answer buffer =
    MatchResult (image_opens F p path) (λ file. IsPartOf p.image file from n answer buffer) (λ refusal. (answer ≡ Err refusal) × (buffer ≡ replicate n 0))

-- a call was refused for this reason, and this block is to blame in its exchanges
abbrev pub IsRefusedFor : {R : Type 0} → Publisher → Refusal (StorageFault R) → Place → Event R → Type 0
IsRefusedFor p refusal place x = (x.reply.answer ≡ Err refusal) × IsToBlame p x.exchanges place

-- one of three: a twin was given; a storage fault that names a block, which was refused or is not the publisher's in the call that
-- was refused so; or exactly what the image gives
pub data IsWorth {R : Type 0} (p : Publisher) (path : List ℕ) (from n : ℕ) (answer : Result ℕ (Refusal (StorageFault R))) (buffer : List ℕ) (xs : List (Event R)) : Type 0 where
  twin : Somewhere (Twin p) (all_exchanges xs) → IsWorth p path from n answer buffer xs
  fault : (refusal : Refusal (StorageFault R)) (place : Place) → answer ≡ Err refusal → buffer ≡ replicate n 0 → blamed_if (holds refusal) ≡ Some place → Somewhere (IsRefusedFor p refusal place) xs → IsWorth p path from n answer buffer xs
  image : IsOfImage p path from n answer buffer → IsWorth p path from n answer buffer xs

-- a reading over a device, from one value of it to another
abbrev pub WasRead : {D R : Type 0} → (D → Meaning R) → (D → Question → D → Type 0) → Publisher → D → List ℕ → ℕ → ℕ → Result ℕ (Refusal (StorageFault R)) → List ℕ → D → Type 0
WasRead {R = R} meaning moves p d path from n answer buffer e =
    (xs : List (Event R)) × (m : Mounted _)
    × Used (cached_check R) meaning moves (made (cached_check R) (Some (anchor_of p))) d xs m e × IsReading path from n answer buffer xs × IsWorth p path from n answer buffer xs
