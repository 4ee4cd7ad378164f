-- Where a store answers with the publisher's blocks, or names one to blame, so does any program through it.
use Rattle.std.proofs.Common.{◌≡◌, ℕ, List, [], ◌∷◌, ◌++◌, Option, None, Some, IfSome, Ok, Err}
use Rattle.device.specs.declared.question.Question.{Question}
use Rattle.device.specs.Answer.{Answer}
use Rattle.device.specs.Program.{Program, done, ask, Meaning, Exchange, Sized, after, result, asked, exchanges}
use Rattle.device.specs.Layer.{through}
use Rattle.device.proofs.Exchanges.{sized-after, of-bind}
use Rattle.layers.specs.declared.fault.StorageFault.{StorageFault}
use Rattle.layers.specs.declared.fault.StorageFault.TheVariants.{Label, NoBlock, Refused, Mismatch}
use Rattle.layers.specs.Store.{StoreRule, IsStore, Blames, IsFair}
use Rattle.layers.specs.Publisher.{Publisher, Whole, anchor_of, NoTwin, Differs, right_block}
use Rattle.layers.specs.Judged.{IsFor, WasRefused}
use Rattle.layers.proofs.Caching.{still, behind}
use Rattle.calls.proofs.Fair.{Post, Fair}

-- what a fault names in some exchanges it names in more
pub blames-still : {R : Type 0} (p : Publisher) (fault : StorageFault R) (xs ys : List (Exchange R)) → Blames p fault xs → Blames p fault (xs ++ ys)
blames-still p Label xs ys h = absurd h
blames-still p (NoBlock block) xs ys h = absurd h
blames-still p (Refused place refusal) xs ys h = still (λ x. IsFor p.shape place x × WasRefused p refusal x) xs ys h
blames-still p (Mismatch place) xs ys h = still (λ x. IsFor p.shape place x × Differs p x) xs ys h

pub blames-behind : {R : Type 0} (p : Publisher) (fault : StorageFault R) (xs ys : List (Exchange R)) → Blames p fault ys → Blames p fault (xs ++ ys)
blames-behind p Label xs ys h = absurd h
blames-behind p (NoBlock block) xs ys h = absurd h
blames-behind p (Refused place refusal) xs ys h = behind (λ x. IsFor p.shape place x × WasRefused p refusal x) xs ys h
blames-behind p (Mismatch place) xs ys h = behind (λ x. IsFor p.shape place x × Differs p x) xs ys h

-- no twin in two rows of exchanges
pub none-first : {R : Type 0} (p : Publisher) (xs ys : List (Exchange R)) → NoTwin p (xs ++ ys) → NoTwin p xs
none-first p [] ys none = tt
none-first p (x ∷ xs) ys none = (none.0, none-first p xs ys none.1)

pub none-second : {R : Type 0} (p : Publisher) (xs ys : List (Exchange R)) → NoTwin p (xs ++ ys) → NoTwin p ys
none-second p [] ys none = none
none-second p (x ∷ xs) ys none = none-second p xs ys none.1

module _ {R M A : Type 0} (p : Publisher) (whole : Whole p) (store : StoreRule R M) (Keeps : Publisher → M → Type 0) (laws : IsStore store Keeps) (post : Post R A) where
  abbrev step : M → Question → Program R (Answer (StorageFault R) × M)
  step = store.step (Some (anchor_of p))

  -- what holds at the end of a program through the store
  pub record Ends (end : A × M) (xs : List (Exchange R)) : Type 0 where
    pub keeps : Keeps p end.1
    pub seen : Option (StorageFault R)
    pub holds : post end.0 seen
    pub blames : IfSome seen (λ fault. Blames p fault xs)

  later : (xs ys : List (Exchange R)) (seen : Option (StorageFault R)) → IfSome seen (λ fault. Blames p fault ys) → IfSome seen (λ fault. Blames p fault (xs ++ ys))
  later xs ys None h = tt
  later xs ys (Some fault) h = blames-behind p fault xs ys h

  ends_with : (xs ys : List (Exchange R)) (end : A × M) → Ends end ys → Ends end (xs ++ ys)
  ends_with xs ys end ends = record {
    keeps = ends.keeps;
    seen = ends.seen;
    holds = ends.holds;
    blames = later xs ys ends.seen ends.blames;
  }

  -- after a fault nothing is asked
  stuck : (program : Program (StorageFault R) A) (fault : StorageFault R) → Fair p program (Some fault) post → (s : M) → Keeps p s → (m : Meaning R) (ys : List (Exchange R)) → Blames p fault ys
      → Ends (result m (through step program s)) (ys ++ exchanges m (through step program s))
  stuck (done a) fault fair s keeps m ys blames = record { keeps = keeps; seen = Some fault; holds = fair; blames = blames-still p fault ys [] blames }
  stuck (ask q next) fault fair s keeps m ys blames = absurd fair

  -- the rest of a program, by a fair answer to its first question
  rest : (q : Question) (next : Answer (StorageFault R) → Program (StorageFault R) A) → ((fault : StorageFault R) → Fair p (next (Err fault)) (Some fault) post) → (s : M) → Keeps p s → (m : Meaning R) (ys : List (Exchange R))
      → ((block : List ℕ) → right_block p q ≡ Some block → NoTwin p (exchanges m (through step (next (Ok block)) s)) → Ends (result m (through step (next (Ok block)) s)) (exchanges m (through step (next (Ok block)) s)))
      → (answer : Answer (StorageFault R)) → IsFair p q answer ys → NoTwin p (exchanges m (through step (next answer) s)) → Ends (result m (through step (next answer) s)) (ys ++ exchanges m (through step (next answer) s))
  rest q next faults s keeps m ys on (Ok block) right none =
      ends_with ys (exchanges m (through step (next (Ok block)) s)) (result m (through step (next (Ok block)) s)) (on block right none)
  rest q next faults s keeps m ys on (Err fault) blames none = stuck (next (Err fault)) fault (faults fault) s keeps m ys blames

  pub lift : (program : Program (StorageFault R) A) → Fair p program None post → (s : M) → Keeps p s → (m : Meaning R) → Sized m → NoTwin p (exchanges m (through step program s))
      → Ends (result m (through step program s)) (exchanges m (through step program s))
  lift (done a) fair s keeps m sized none = record { keeps = keeps; seen = None; holds = fair; blames = tt }
  lift (ask q next) fair s keeps m sized none =
      let first = step s q in
      let r = result m first in
      let ys = exchanges m first in
      let left = after m (asked m first) in
      let on : Answer (StorageFault R) × M → Program R (A × M) = λ r. through step (next r.0) r.1 in
      of-bind (λ end xs. NoTwin p xs → Ends end xs) first on m
      (λ quiet.
      let here = laws.published p whole m sized s keeps q fair.0 (none-first p ys (exchanges left (on r)) quiet) in
      rest q next fair.2 r.1 here.1 left ys
      (λ block right quiet'. lift (next (Ok block)) (fair.1 block right) r.1 here.1 left (sized-after m (asked m first) sized) quiet')
      r.0 here.0 (none-second p ys (exchanges left (on r)) quiet))
      none
