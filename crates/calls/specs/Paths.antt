-- What a call asks a device: for each of its fetches one path after another, of data blocks in rising order.
use Rattle.std.specs.Prelude.{◌≡◌, ℕ, ◌+◌, ◌*◌, ◌<◌, ◌≤◌, List, [], ◌∷◌, ◌++◌, map, Result, Ok, Err, IfSome}
use Rattle.std.specs.List.{AllByRecursion}
use Rattle.device.specs.Answer.{Answer}
use Rattle.device.specs.Program.{Exchange}
use Rattle.tree.specs.Shape.{levels}
use Rattle.layers.specs.declared.fault.StorageFault.{StorageFault}
use Rattle.layers.specs.Anchor.{Anchor}
use Rattle.layers.specs.Path.{IsPath, IsCut}
use Rattle.layers.specs.Judged.{IsFor, Last}
use Rattle.volume.specs.Fetches.{Fetches, give, refuse, fetch}
use Rattle.calls.specs.declared.refusal.Refusal.{Refusal}
use Rattle.calls.specs.Calls.{Call, State, Accepted, Reply, call_rules, reply_of}
use Rattle.calls.specs.Mount.{image_length}
use Rattle.calls.specs.Image.{named}

-- a data block that the device was asked for, and what it was asked and answered on the way down to it
pub record Path (R : Type 0) : Type 0 where
  pub block : ℕ
  pub exchanges : List (Exchange R)

-- a fetch of these many bytes of the image from an offset, what it was answered, and the paths that were asked for
pub record Fetch (R : Type 0) : Type 0 where
  pub from : ℕ
  pub size : ℕ
  pub answer : Answer (StorageFault R)
  pub paths : List (Path R)

-- the exchanges of some paths, and of some fetches
abbrev pub of_paths : {R : Type 0} → List (Path R) → List (Exchange R)
of_paths [] = []
of_paths (path ∷ paths) = path.exchanges ++ of_paths paths

abbrev pub of_fetches : {R : Type 0} → List (Fetch R) → List (Exchange R)
of_fetches [] = []
of_fetches (f ∷ fetches) = of_paths f.paths ++ of_fetches fetches

-- each number is below all that follow it
abbrev pub Rising : List ℕ → Type 0
Rising [] = Unit {0}
Rising (k ∷ ks) = AllByRecursion (λ j. k < j) ks × Rising ks

-- some of n bytes from an offset lie in block k of d bytes
pub record Touches (d from n k : ℕ) : Type 0 where
  pub some : 0 < n
  pub before : k * d < from + n
  pub behind : from < (k + 1) * d

-- the path leads from the root to some bytes of its block
abbrev pub IsWhole : {R : Type 0} → Anchor → Path R → Type 0
IsWhole a path = (bytes : List ℕ) × IsPath a path.block (levels a.shape) a.root bytes path.exchanges

-- all are whole but the last, which is cut where a block fails with this fault
pub record EndsCut {R : Type 0} (a : Anchor) (fault : StorageFault R) (paths : List (Path R)) : Type 0 where
  pub before : List (Path R)
  pub last : Path R
  pub all : paths ≡ before ++ last ∷ []
  pub whole : AllByRecursion (IsWhole a) before
  pub cut : IsCut a last.block (levels a.shape) a.root fault last.exchanges

abbrev pub Ends : {R : Type 0} → Anchor → Answer (StorageFault R) → List (Path R) → Type 0
Ends a (Ok bytes) paths = AllByRecursion (IsWhole a) paths
Ends a (Err fault) paths = EndsCut a fault paths

-- what is asked for a fetch. A block that the cache has is not asked for
pub record IsAsked {R : Type 0} (a : Anchor) (f : Fetch R) : Type 0 where
  -- it lies within the image
  pub within : f.from + f.size ≤ image_length a.shape
  -- the paths are of blocks that its bytes touch, in rising order
  pub touched : AllByRecursion (λ path. Touches a.shape.data_block f.from f.size path.block) f.paths
  pub rising : Rising (map (λ path. path.block) f.paths)
  -- where it is accepted each is whole; where it is refused the last is cut, by the fault that is its answer
  pub ends : Ends a f.answer f.paths

-- a program of fetches makes these, in this order, and comes to this by their answers. After one that is refused it makes none
abbrev pub Makes : {R E X : Type 0} → Fetches (StorageFault R) E X → List (Fetch R) → Result X E → Type 0
Makes (give x) [] r = r ≡ Ok x
Makes (give x) (f ∷ fetches) r = ⊥
Makes (refuse e) [] r = r ≡ Err e
Makes (refuse e) (f ∷ fetches) r = ⊥
Makes (fetch from n fault rest) [] r = ⊥
Makes (fetch from n fault rest) (f ∷ fetches) r =
    (f.from ≡ from) × (f.size ≡ n) × elim f.answer [ Ok bytes ↦ Makes (rest bytes) fetches r | Err below ↦ (fetches ≡ []) × (r ≡ Err (fault below)) ]

-- a call in a state makes fetches by its rules, and its exchanges are theirs, one path after another
pub record AsksPaths {R : Type 0} (a : Anchor) (s : State) (call : Call) (reply : Reply (StorageFault R)) (xs : List (Exchange R)) : Type 0 where
  pub fetches : List (Fetch R)
  pub result : Result Accepted (Refusal (StorageFault R))
  pub makes : Makes (call_rules (image_length a.shape) s call) fetches result
  pub replied : reply ≡ reply_of call result
  pub each : AllByRecursion (IsAsked a) fetches
  pub exchanged : xs ≡ of_fetches fetches
  -- a storage fault names the block of the last one, and the level on which that lies
  pub ends : IfSome (named reply.answer) (λ place. Last (IsFor a.shape place) xs)
