-- What holds of the path check over any device, in words of its own.
use Rattle.std.specs.Prelude.{◌≡◌, ◌↔◌, ℕ, suc, ◌<◌, true, List, length, map, take, Ok, Err, Option, Some, IfErr, IfSome}
use Rattle.device.specs.declared.question.Question.{Question}
use Rattle.device.specs.Answer.{Answer}
use Rattle.device.specs.Program.{Meaning, Exchange, Sized, result, exchanges}
use Rattle.tree.specs.Shape.{Shape, fanout, levels}
use Rattle.layers.specs.declared.fault.StorageFault.{StorageFault}
use Rattle.layers.specs.Anchor.{Anchor}
use Rattle.layers.specs.Fault.{place_of}
use Rattle.layers.specs.Verity.{is_block, verity}
use Rattle.layers.specs.Publisher.{Publisher, Whole, anchor_of, right_block, Honest}
use Rattle.layers.specs.Judged.{IsFor, Last, Judged}
use Rattle.layers.specs.Path.{path_questions, IsPath, IsCut}

-- where the answer to a question for data block k stops, by what the device was asked and gave for it
pub record Stops {R : Type 0} (anchor : Anchor) (k : ℕ) (answer : Answer (StorageFault R)) (xs : List (Exchange R)) : Type 0 where
  -- the questions are the first of its path, in order
  pub asked : map (λ x. x.question) xs ≡ take (length xs) (path_questions anchor.shape k (levels anchor.shape))
  -- a block is accepted if and only if what was given is the whole path from the root to it
  pub accepted : (bytes : List ℕ) → (answer ≡ Ok bytes) ↔ IsPath anchor k (levels anchor.shape) anchor.root bytes xs
  -- it is refused if and only if a block fails, with the fault of that one, and it is the last that is asked for
  pub refused : (fault : StorageFault R) → (answer ≡ Err fault) ↔ IsCut anchor k (levels anchor.shape) anchor.root fault xs
  -- only then are fewer asked for than the path has
  pub short : length xs < suc (levels anchor.shape) → (fault : StorageFault R) × IsCut anchor k (levels anchor.shape) anchor.root fault xs

-- a fault names the block of the last exchange, and the level on which that lies
abbrev pub NamesLast : {R : Type 0} → Shape → Answer (StorageFault R) → List (Exchange R) → Type 0
NamesLast s answer xs = IfErr answer (λ fault. IfSome (place_of fault) (λ place. Last (IsFor s place) xs))

-- whatever the device gives, each answer to a question for a data block stops there, and a fault names the block at which it did
abbrev pub PathsStop : Type 0 → Type 0
PathsStop R =
    (anchor : Anchor) (m : Meaning R) (q : Question) → is_block anchor.shape q ≡ true
    → Stops anchor q.block (result m (verity (Some anchor) q)) (exchanges m (verity (Some anchor) q))
    × (0 < fanout anchor.shape → NamesLast anchor.shape (result m (verity (Some anchor) q)) (exchanges m (verity (Some anchor) q)))

-- the same of one question, by what the label tells
abbrev pub PathStops : {R : Type 0} → Option Anchor → Meaning R → Question → Answer (StorageFault R) → Type 0
PathStops label m q answer =
    (anchor : Anchor) → label ≡ Some anchor → is_block anchor.shape q ≡ true → Stops anchor q.block answer (exchanges m (verity (Some anchor) q))

abbrev pub LastNamed : {R : Type 0} → Option Anchor → Meaning R → Question → Answer (StorageFault R) → Type 0
LastNamed label m q answer =
    (anchor : Anchor) → label ≡ Some anchor → is_block anchor.shape q ≡ true → NamesLast anchor.shape answer (exchanges m (verity (Some anchor) q))

-- whatever the device gives, the answer is worth what `Judged` says, by every publisher with this label
abbrev pub AnswersJudged : Type 0 → Type 0
AnswersJudged R =
    (p : Publisher) → Whole p → (m : Meaning R) → Sized m → (q : Question) → is_block p.shape q ≡ true
    → Judged p q (result m (verity (Some (anchor_of p)) q)) (exchanges m (verity (Some (anchor_of p)) q))

-- the same of one question, by what the label tells
abbrev pub AnswerJudged : {R : Type 0} → Option Anchor → Meaning R → Question → Answer (StorageFault R) → Type 0
AnswerJudged label m q answer =
    (p : Publisher) → Whole p → label ≡ Some (anchor_of p) → is_block p.shape q ≡ true → Judged p q answer (exchanges m (verity (Some (anchor_of p)) q))

-- over a device that gives the publisher's blocks each question for a data block gets the publisher's
abbrev pub HonestAccepted : Type 0 → Type 0
HonestAccepted R =
    (p : Publisher) → Whole p → (m : Meaning R) → Sized m → (q : Question) → is_block p.shape q ≡ true → Honest p (exchanges m (verity (Some (anchor_of p)) q))
    → (right : List ℕ) → right_block p q ≡ Some right → result m (verity (Some (anchor_of p)) q) ≡ Ok right
