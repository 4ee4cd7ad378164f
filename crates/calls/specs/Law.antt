-- The law of runs: what holds of any use of one mount, over any store and any device.
use Rattle.std.specs.Prelude.{◌≡◌, true, ◌⊎◌, List, [], ◌∷◌, ◌++◌, map, Some, None, IsSome, IfSome}
use Rattle.std.specs.List.{AllByRecursion}
use Rattle.device.specs.declared.question.Question.{Question}
use Rattle.device.specs.Program.{Meaning, Exchange, Somewhere, after, asked, exchanges, result}
use Rattle.device.specs.Run.{Ran, Along}
use Rattle.geometry.specs.Limits.{within}
use Rattle.layers.specs.declared.fault.Place.{Place}
use Rattle.layers.specs.declared.fault.StorageFault.{StorageFault}
use Rattle.layers.specs.Anchor.{Anchor}
use Rattle.layers.specs.Publisher.{Publisher, Whole, anchor_of, Differs, NoTwin, Honest}
use Rattle.layers.specs.Judged.{IsFor, WasRefused}
use Rattle.layers.specs.Store.{StoreRule}
use Rattle.calls.specs.Calls.{Call, State, Reply, fresh, state_of}
use Rattle.calls.specs.Mount.{Mounted, made, mount}
use Rattle.calls.specs.Image.{image_reply, image_state, named}
use Rattle.calls.specs.Paths.{AsksPaths}

-- a call of a mount, its reply, and what the device was asked and answered for it
pub record Event (R : Type 0) : Type 0 where
  pub call : Call
  pub reply : Reply (StorageFault R)
  pub exchanges : List (Exchange R)

-- a call takes a mount over a device to another value over another, as its rules ask
pub record Step {D R M : Type 0} (store : StoreRule R M) (meaning : D → Meaning R) (moves : D → Question → D → Type 0) (m : Mounted M) (d : D) (x : Event R) (n : Mounted M) (e : D) : Type 0 where
  pub ran : Ran meaning moves d (mount store m x.call) (x.reply, n) e
  pub exchanged : x.exchanges ≡ exchanges (meaning d) (mount store m x.call)

-- a use: one call after another, the first of them first
abbrev pub Used : {D R M : Type 0} → StoreRule R M → (D → Meaning R) → (D → Question → D → Type 0) → Mounted M → D → List (Event R) → Mounted M → D → Type 0
Used store meaning moves m d [] n e = (n ≡ m) × (e ≡ d)
Used {D = D} {M = M} store meaning moves m d (x ∷ xs) n e = (k : Mounted M) × (f : D) × Step store meaning moves m d x k f × Used store meaning moves k f xs n e

-- all that the device was asked and answered
abbrev pub all_exchanges : {R : Type 0} → List (Event R) → List (Exchange R)
all_exchanges [] = []
all_exchanges (x ∷ xs) = x.exchanges ++ all_exchanges xs

-- the questions that the rules ask of a device of this meaning for some calls
abbrev pub rules_ask : {R M : Type 0} → StoreRule R M → Meaning R → Mounted M → List (Event R) → List Question
rules_ask store meaning m [] = []
rules_ask store meaning m (x ∷ xs) =
    let call = mount store m x.call in
    asked meaning call ++ rules_ask store (after meaning (asked meaning call)) (result meaning call).1 xs

-- the exchanges of each call are paths of its fetches
abbrev pub PathsAsked : {R : Type 0} → Anchor → State → List (Event R) → Type 0
PathsAsked a s [] = Unit {0}
PathsAsked a s (x ∷ xs) = (asks : AsksPaths a s x.call x.reply x.exchanges) × PathsAsked a (state_of s asks.result) xs

-- each answer is a storage fault or the image's
abbrev pub Agrees : {R : Type 0} → Publisher → State → List (Event R) → Type 0
Agrees p s [] = Unit {0}
Agrees p s (x ∷ xs) = (IsSome (named x.reply.answer) ⊎ (x.reply ≡ image_reply p s x.call)) × Agrees p (image_state p s x.call x.reply) xs

-- a block that lies on the level of this place was refused in these exchanges, or came in them and is not the publisher's
abbrev pub IsToBlame : {R : Type 0} → Publisher → List (Exchange R) → Place → Type 0
IsToBlame {R = R} p xs place = Somewhere (λ x. IsFor p.shape place x × (((refusal : R) × WasRefused p refusal x) ⊎ Differs p x)) xs

pub record Kept {D R M : Type 0} (store : StoreRule R M) (meaning : D → Meaning R) (moves : D → Question → D → Type 0) (p : Publisher) (d : D) (xs : List (Event R)) (e : D) : Type 0 where
  -- unless a twin was given, each answer is a storage fault or equals the image's, with every byte of its buffer and the
  -- place of a refusal
  pub agrees : NoTwin p (all_exchanges xs) → Agrees p fresh xs
  -- the device was asked what the rules ask, in their order, and nothing else
  pub asked : map (λ x. x.question) (all_exchanges xs) ≡ rules_ask store (meaning d) (made store (Some (anchor_of p))) xs
  pub moved : Along moves d (map (λ x. x.question) (all_exchanges xs)) e
  -- for each fetch of a call that was one path after another, of data blocks in rising order, from the label's root down; only the
  -- last of a call may be cut, at the block that was refused or has another digest
  pub paths : PathsAsked (anchor_of p) fresh xs
  -- if each question got the publisher's block, there was no storage fault
  pub honest : Honest p (all_exchanges xs) → AllByRecursion (λ x. named x.reply.answer ≡ None) xs
  -- unless a twin was given, each block that a storage fault names was refused in that call, or came in it and is not the
  -- publisher's
  pub blamed : NoTwin p (all_exchanges xs) → AllByRecursion (λ x. IfSome (named x.reply.answer) (IsToBlame p x.exchanges)) xs

-- for every publisher whose label a mount was made with, every use of it keeps the law, whatever the device answers
abbrev pub LawOfRuns : {D R M : Type 0} → StoreRule R M → (D → Meaning R) → (D → Question → D → Type 0) → Type 0
LawOfRuns {D = D} {R = R} {M = M} store meaning moves =
    (p : Publisher) → Whole p → within p.shape ≡ true → (d e : D) (xs : List (Event R)) (n : Mounted M) → Used store meaning moves (made store (Some (anchor_of p))) d xs n e
    → Kept store meaning moves p d xs e

-- each answer is the image's
abbrev pub IsImage : {R : Type 0} → Publisher → State → List (Event R) → Type 0
IsImage p s [] = Unit {0}
IsImage p s (x ∷ xs) = (x.reply ≡ image_reply p s x.call) × IsImage p (image_state p s x.call x.reply) xs

-- over a device that gives the publisher's blocks, every answer of every use is exactly the image's: a mount that always
-- faults, or always says that nothing is there, is none
abbrev pub HonestIsImage : {D R M : Type 0} → StoreRule R M → (D → Meaning R) → (D → Question → D → Type 0) → Type 0
HonestIsImage {D = D} {R = R} {M = M} store meaning moves =
    (p : Publisher) → Whole p → within p.shape ≡ true → (d e : D) (xs : List (Event R)) (n : Mounted M) → Used store meaning moves (made store (Some (anchor_of p))) d xs n e
    → Honest p (all_exchanges xs) → IsImage p fresh xs
