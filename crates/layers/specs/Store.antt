-- Stores: what the fetches of a mount are put to. A store asks the device at the bottom, by what its label tells and by what it
-- remembers.
use Rattle.std.specs.Prelude.{◌≡◌, ◌⊎◌, ℕ, ◌<◌, true, List, [], Ok, Err, Option, Some, IfSome}
use Rattle.std.specs.List.{AllByRecursion}
use Rattle.device.specs.declared.question.Question.{Question}
use Rattle.device.specs.Answer.{Answer}
use Rattle.device.specs.Program.{Program, done, bind, Meaning, Exchange, Somewhere, Sized, result, exchanges}
use Rattle.device.specs.Layer.{stacked}
use Rattle.tree.specs.Shape.{fanout, levels}
use Rattle.layers.specs.declared.fault.StorageFault.{StorageFault}
use Rattle.layers.specs.declared.fault.StorageFault.TheVariants.{Label, NoBlock, Refused, Mismatch}
use Rattle.layers.specs.Anchor.{Anchor}
use Rattle.layers.specs.Verity.{is_block, verity}
use Rattle.layers.specs.Cache.{Table, empty, cache_layer}
use Rattle.layers.specs.Path.{IsPath, IsCut}
use Rattle.layers.specs.Publisher.{Publisher, Whole, anchor_of, right_block, Differs, NoTwin}
use Rattle.layers.specs.Judged.{IsFor, WasRefused}
use Rattle.layers.specs.Laws.{NamesLast}

-- M is what the store remembers, R why the device at the bottom refuses
pub record StoreRule (R M : Type 0) : Type 0 where
  -- what it remembers at first
  pub fresh : M
  -- what it asks for a question, by what the label tells and what it remembers; its answer, and what it remembers then
  pub step : Option Anchor → M → Question → Program R (Answer (StorageFault R) × M)

-- the path check alone remembers nothing
abbrev pub path_check : (R : Type 0) → StoreRule R (Unit {0})
path_check R = record { fresh = tt; step = λ label none q. bind (verity label q) (λ answer. done (answer, none)) }

-- a cache over a store remembers its rows, and what the store does
abbrev pub cache_over : {R M : Type 0} → StoreRule R M → StoreRule R (Table × M)
cache_over lower = record { fresh = (empty, lower.fresh); step = λ label. stacked cache_layer (lower.step label) }

-- a fault names a block that was refused in these exchanges, or came in them and is not the publisher's
abbrev pub Blames : {R : Type 0} → Publisher → StorageFault R → List (Exchange R) → Type 0
Blames p Label xs = ⊥
Blames p (NoBlock block) xs = ⊥
Blames p (Refused place refusal) xs = Somewhere (λ x. IsFor p.shape place x × WasRefused p refusal x) xs
Blames p (Mismatch place) xs = Somewhere (λ x. IsFor p.shape place x × Differs p x) xs

-- an answer is the publisher's block, or a fault that names one to blame
abbrev pub IsFair : {R : Type 0} → Publisher → Question → Answer (StorageFault R) → List (Exchange R) → Type 0
IsFair p q (Ok block) xs = right_block p q ≡ Some block
IsFair p q (Err fault) xs = Blames p fault xs

-- where no twin is given, a store that keeps this of what it remembers answers each question for a data block so, and keeps it
abbrev pub GivesPublished : {R M : Type 0} → StoreRule R M → (Publisher → M → Type 0) → Type 0
GivesPublished {R = R} {M = M} store Keeps =
    (p : Publisher) → Whole p → (m : Meaning R) → Sized m → (s : M) → Keeps p s → (q : Question) → is_block p.shape q ≡ true
    → let program = store.step (Some (anchor_of p)) s q in
    NoTwin p (exchanges m program) → IsFair p q (result m program).0 (exchanges m program) × Keeps p (result m program).1

-- bytes come without a question or along a whole path, and a fault by one that is cut at the block that it names
abbrev pub IsServed : {R : Type 0} → Anchor → ℕ → Answer (StorageFault R) → List (Exchange R) → Type 0
IsServed a k (Ok bytes) xs = (xs ≡ []) ⊎ IsPath a k (levels a.shape) a.root bytes xs
IsServed a k (Err fault) xs = IsCut a k (levels a.shape) a.root fault xs × NamesLast {R = _} a.shape (Err fault) xs

-- whatever it remembers, a store answers each question for a data block so
abbrev pub ServesByPaths : {R M : Type 0} → StoreRule R M → Type 0
ServesByPaths {R = R} {M = M} store =
    (a : Anchor) → 0 < fanout a.shape → (m : Meaning R) (s : M) (q : Question) → is_block a.shape q ≡ true
    → IsServed a q.block (result m (store.step (Some a) s q)).0 (exchanges m (store.step (Some a) s q))

-- the rows have the publisher's blocks
abbrev pub AllRight : Publisher → Table → Type 0
AllRight p table = AllByRecursion (λ row. IfSome row (λ r. right_block p r.question ≡ Some r.bytes)) table.rows

-- a store, by what is known of its memory where no twin was given
pub record IsStore {R M : Type 0} (store : StoreRule R M) (Keeps : Publisher → M → Type 0) : Type 0 where
  pub begins : (p : Publisher) → Keeps p store.fresh
  -- it gives only the publisher's blocks, and its faults name a block to blame
  pub published : GivesPublished store Keeps
  -- it asks for a block along one path, or not at all
  pub paths : ServesByPaths store
