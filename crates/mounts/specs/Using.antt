-- A use of a mount of one or two calls: begin and, if that is accepted, list.
use Rattle.std.specs.Prelude.{◌≡◌, ◌⊎◌, ℕ, List, [], ◌∷◌, Result, Ok, Err, map}
use Rattle.device.specs.declared.question.Question.{Question}
use Rattle.device.specs.Program.{Meaning}
use Rattle.geometry.specs.declared.label.Label.{Label}
use Rattle.layers.specs.declared.fault.StorageFault.{StorageFault}
use Rattle.layers.specs.Publisher.{Publisher}
use Rattle.volume.specs.declared.types.Start.{Start}
use Rattle.volume.specs.declared.types.Entry.{Entry}
use Rattle.calls.specs.declared.refusal.Refusal.{Refusal}
use Rattle.calls.specs.Calls.{Call, Reply, begin, list, listed, started}
use Rattle.calls.specs.Law.{Event, Kept, Used}
use Rattle.calls.specs.Mount.{Mounted, cached_check, made}
use Rattle.verity.specs.Anchored.{told_by}
use Rattle.mount.specs.Law.{IsLabelOf}

-- a call and its reply
abbrev pub said : {R : Type 0} → Event R → Call × Reply (StorageFault R)
said x = (x.call, x.reply)

abbrev pub begun : {F : Type 0} → Start → Call × Reply F
begun at = (begin, record { answer = Ok (started at); buffer = [] })

-- the first entry of the root directory: begin was accepted and list too; or begin was refused, and nothing else was
-- called; or begin was accepted, and list refused. The buffer has n bytes.
abbrev pub IsListing : {R : Type 0} → List (Event R) → ℕ → Result Entry (Refusal (StorageFault R)) → List ℕ → Type 0
IsListing xs n (Ok entry) buffer = (at : Start) × (map said xs ≡ begun at ∷ (list [] 0 n, record { answer = Ok (listed entry); buffer = buffer }) ∷ [])
IsListing xs n (Err why) buffer =
    (map said xs ≡ (begin, record { answer = Err why; buffer = [] }) ∷ [])
    ⊎ ((at : Start) × (map said xs ≡ begun at ∷ (list [] 0 n, record { answer = Err why; buffer = buffer }) ∷ []))

-- over a device, from one value of it to another: these calls are a use of the mount that this label makes, and keep the law of
-- runs by each publisher whose label it is
abbrev pub ListedFirst : {D R : Type 0} → (D → Meaning R) → (D → Question → D → Type 0) → ℕ → ℕ → (List ℕ → List ℕ) → Label → D → ℕ → Result Entry (Refusal (StorageFault R)) → List ℕ → D → Type 0
ListedFirst {R = R} meaning moves number size digest label d n answer buffer e =
    (xs : List (Event R)) × (m : Mounted _) × Used (cached_check R) meaning moves (made (cached_check R) (told_by number size digest label)) d xs m e × IsListing xs n answer buffer
    × ((p : Publisher) → IsLabelOf number size digest p label → Kept (cached_check R) meaning moves p d xs e)
