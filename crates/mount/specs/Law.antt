-- The law of runs, from the making of a mount on.
use Rattle.std.specs.Prelude.{◌≡◌, ℕ, ◌*◌, List, length, Some}
use Rattle.device.specs.declared.question.Question.{Question}
use Rattle.device.specs.Program.{Meaning}
use Rattle.geometry.specs.declared.label.Label.{Label}
use Rattle.layers.specs.Publisher.{Publisher, Honest, anchor_of}
use Rattle.layers.specs.Store.{StoreRule}
use Rattle.verity.specs.Anchored.{told_by}
use Rattle.calls.specs.Mount.{Mounted}
use Rattle.calls.specs.Law.{Event, Used, Kept, IsImage, all_exchanges}
use Rattle.calls.specs.Calls.{fresh}

-- a label is this publisher's, for a digest of this number, size and meaning: it is good and tells what his does, and his image
-- is as many whole blocks as it says
pub record IsLabelOf (number size : ℕ) (meaning : List ℕ → List ℕ) (p : Publisher) (label : Label) : Type 0 where
  pub told : told_by number size meaning label ≡ Some (anchor_of p)
  pub filled : length p.image ≡ p.shape.blocks * p.shape.data_block

-- every use of a mount over this store, from this value over this device on, keeps the law; over an honest device each answer is
-- the image's
abbrev pub LawFrom : {D R M : Type 0} → StoreRule R M → (D → Meaning R) → (D → Question → D → Type 0) → Publisher → Mounted M → D → Type 0
LawFrom {D = D} {R = R} {M = M} store meaning moves p m d =
    (xs : List (Event R)) (n : Mounted M) (e : D) → Used store meaning moves m d xs n e
    → Kept store meaning moves p d xs e × (Honest p (all_exchanges xs) → IsImage p fresh xs)
