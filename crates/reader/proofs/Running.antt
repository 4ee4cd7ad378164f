-- Running programs of fetches by blocks, piece by piece.
use Rattle.std.proofs.Common.{◌≡◌, ℕ, List, Result, Ok, Err, refl, ap, subst}
use Rattle.std.specs.Result.{IsErr, IsErrAnd}
use Rattle.std.proofs.lemmas.Bool.{false≢true}
use Rattle.device.specs.declared.question.Question.{Question}
use Rattle.device.specs.Answer.{Answer}
use Rattle.device.specs.Program.{Program, done, Meaning}
use Rattle.device.specs.Run.{Ran}
use Rattle.device.proofs.Runs.{ran-bind, ran-split}
use Rattle.volume.specs.declared.fault.VolumeFault.{VolumeFault}
use Rattle.volume.specs.declared.fault.VolumeFault.TheVariants.{Storage}
use Rattle.volume.specs.Fetches.{Fetches, give, refuse, fetch, after, put, settled, fetch_blocks, by_blocks}
use Rattle.reader.specs.Fetched.{Fetched}
use Rattle.reader.specs.Gather.{bytes_at}

abbrev pub put_result : {E D X : Type 0} → (E → D) → Result X E → Result X D
put_result within (Ok x) = Ok x
put_result within (Err e) = Err (within e)

abbrev pub turned : {E D X Y : Type 0} → (E → D) → (X → Y) → Result X E → Result Y D
turned within to (Ok x) = Ok (to x)
turned within to (Err e) = Err (within e)

module _ {S F : Type 0} (meaning : S → Meaning F) (moves : S → Question → S → Type 0) (d : ℕ) where
  module _ {E X : Type 0} where
    -- what follows a fetch
    abbrev on : (F → E) → (List ℕ → Fetches F E X) → Answer F → Program F (Result X E)
    on fault rest answer = elim answer [ Ok bytes ↦ by_blocks d (rest bytes) | Err f ↦ done (Err (fault f)) ]

    pub ran-fetched : (from n : ℕ) (fault : F → E) (rest : List ℕ → Fetches F E X) (s u t : S) (answer : Answer F) (r : Result X E) → Ran meaning moves s (fetch_blocks d from n) answer u → Ran meaning moves u (on fault rest answer) r t
        → Fetched meaning moves d s (fetch from n fault rest) r t
    ran-fetched from n fault rest s u t answer r first second = ran-bind meaning moves (fetch_blocks d from n) (on fault rest) s answer u r t first second

    pub ran-settled : (r : Result X E) (s : S) → Fetched meaning moves d s (settled r) r s
    ran-settled (Ok x) s = (refl, refl)
    ran-settled (Err e) s = (refl, refl)

  module _ {E X Y : Type 0} (next : X → Fetches F E Y) where
    -- what follows a program: what its value leads to, or its refusal
    abbrev Follows : Result X E → S → Result Y E → S → Type 0
    Follows (Ok x) u r t = Fetched meaning moves d u (next x) r t
    Follows (Err e) u r t = (r ≡ Err e) × (t ≡ u)

    moved : (m n : Result X E) (u v : S) (r : Result Y E) (t : S) → (m ≡ n) × (u ≡ v) → Follows m u r t → Follows n v r t
    moved m n u v r t same follows = subst (λ w. Follows n w r t) same.1 (subst (λ x. Follows x u r t) same.0 follows)

    by_answer : (fault : F → E) (rest : List ℕ → Fetches F E X) (m : Result X E) (u : S) (r : Result Y E) (t : S) (answer : Answer F) (v : S) → Ran meaning moves v (on fault rest answer) m u → Follows m u r t
        → ((bytes : List ℕ) → Fetched meaning moves d v (rest bytes) m u → Fetched meaning moves d v (after (rest bytes) next) r t) → Ran meaning moves v (on fault (λ b. after (rest b) next) answer) r t
    by_answer fault rest m u r t (Ok bytes) v ran follows hyp = hyp bytes ran
    by_answer fault rest m u r t (Err f) v ran follows hyp = moved m (Err (fault f)) u v r t ran follows

    ran-after : (p : Fetches F E X) (s : S) (m : Result X E) (u : S) (r : Result Y E) (t : S) → Fetched meaning moves d s p m u → Follows m u r t → Fetched meaning moves d s (after p next) r t
    ran-after (give x) s m u r t ran follows = moved m (Ok x) u s r t ran follows
    ran-after (refuse e) s m u r t ran follows = moved m (Err e) u s r t ran follows
    ran-after (fetch from n fault rest) s m u r t ran follows =
        let parts = ran-split meaning moves (fetch_blocks d from n) (on fault rest) s m u ran in
        ran-fetched from n fault (λ b. after (rest b) next) s parts.1 t parts.0 r parts.2 (by_answer fault rest m u r t parts.0 parts.1 parts.3 follows (λ bytes inner. ran-after (rest bytes) parts.1 m u r t inner follows))

    -- a value leads on
    pub ran-on : (p : Fetches F E X) (s u t : S) (x : X) (r : Result Y E) → Fetched meaning moves d s p (Ok x) u → Fetched meaning moves d u (next x) r t → Fetched meaning moves d s (after p next) r t
    ran-on p s u t x r first second = ran-after p s (Ok x) u r t first second

    -- a refusal ends it
    pub ran-off : (p : Fetches F E X) (s t : S) (e : E) → Fetched meaning moves d s p (Err e) t → Fetched meaning moves d s (after p next) (Err e) t
    ran-off p s t e first = ran-after p s (Err e) t (Err e) t first (refl, refl)

  -- refusals put into others
  module _ {E D X : Type 0} (within : E → D) where
    put_by : (fault : F → E) (rest : List ℕ → Fetches F E X) (r : Result X E) (t : S) (answer : Answer F) (v : S) → Ran meaning moves v (on fault rest answer) r t
        → ((bytes : List ℕ) → Fetched meaning moves d v (rest bytes) r t → Fetched meaning moves d v (put within (rest bytes)) (put_result within r) t)
        → Ran meaning moves v (on (λ f. within (fault f)) (λ b. put within (rest b)) answer) (put_result within r) t
    put_by fault rest r t (Ok bytes) v ran hyp = hyp bytes ran
    put_by fault rest r t (Err f) v ran hyp = (ap (put_result within) ran.0, ran.1)

    pub ran-put-within : (p : Fetches F E X) (s t : S) (r : Result X E) → Fetched meaning moves d s p r t → Fetched meaning moves d s (put within p) (put_result within r) t
    ran-put-within (give x) s t r ran = (ap (put_result within) ran.0, ran.1)
    ran-put-within (refuse e) s t r ran = (ap (put_result within) ran.0, ran.1)
    ran-put-within (fetch from n fault rest) s t r ran =
        let parts = ran-split meaning moves (fetch_blocks d from n) (on fault rest) s r t ran in
        ran-fetched from n (λ f. within (fault f)) (λ b. put within (rest b)) s parts.1 t parts.0 (put_result within r) parts.2 (put_by fault rest r t parts.0 parts.1 parts.3 (λ bytes inner. ran-put-within (rest bytes) parts.1 t r inner))

  -- and what a program comes to put into something else
  pub ran-gives : {E D X Y : Type 0} (p : Fetches F E X) (within : E → D) (to : X → Y) (s t : S) (r : Result X E) → Fetched meaning moves d s p r t → Fetched meaning moves d s (after (put within p) (λ x. give (to x))) (turned within to r) t
  ran-gives p within to s t (Ok x) ran = ran-on (λ y. give (to y)) (put within p) s t t x (Ok (to x)) (ran-put-within within p s t (Ok x) ran) (refl, refl)
  ran-gives p within to s t (Err e) ran = ran-off (λ y. give (to y)) (put within p) s t (within e) (ran-put-within within p s t (Err e) ran)

-- what a `?` hands on
pub err-is : {T E : Type 0} (r : Result T E) (e : E) → IsErr r × IsErrAnd r (λ x. x ≡ e) → r ≡ Err e
err-is (Ok x) e both = absurd (false≢true both.0)
err-is (Err x) e both = ap (λ y. Err y) both.1

-- bytes that are fetched and then read
module _ {S F X : Type 0} (meaning : S → Meaning F) (moves : S → Question → S → Type 0) (d from n m : ℕ) (long : m ≡ n) (parse : List ℕ → Result X (VolumeFault F)) (s t : S) where
  abbrev reading : Fetches F (VolumeFault F) X
  reading = fetch from n (λ fault. Storage from fault) (λ b. settled (parse b))

  abbrev parsed : Result (List ℕ) (VolumeFault F) → Result X (VolumeFault F)
  parsed (Ok bytes) = parse bytes
  parsed (Err e) = Err e

  by_result : (r : Result (List ℕ) (VolumeFault F)) → Fetched meaning moves d s (bytes_at from n) r t → Fetched meaning moves d s reading (parsed r) t
  by_result (Ok bytes) ran = ran-on meaning moves d (λ b. settled (parse b)) (bytes_at from n) s t t bytes (parse bytes) ran (ran-settled meaning moves d (parse bytes) t)
  by_result (Err e) ran = ran-off meaning moves d (λ b. settled (parse b)) (bytes_at from n) s t e ran

  pub ran-parsed : (r : Result (List ℕ) (VolumeFault F)) → Fetched meaning moves d s (bytes_at from m) r t → Fetched meaning moves d s reading (parsed r) t
  ran-parsed r ran = by_result r (subst (λ k. Fetched meaning moves d s (bytes_at from k) r t) long ran)
