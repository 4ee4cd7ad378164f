-- The rules of the six calls, once their tests are passed.
use Rattle.std.proofs.Common.{◌≡◌, ℕ, ◌+◌, ◌-◌, min, false, ltb, List, [], Result, None, Some, sym, ◌∙◌, subst}
use Rattle.std.proofs.lemmas.Bool.{eq-eqb, ne_eqb}
use Rattle.device.specs.declared.question.Question.{Question}
use Rattle.device.specs.Program.{Meaning}
use Rattle.volume.specs.declared.types.Start.{Start}
use Rattle.volume.specs.Fetches.{Fetches, give, after, put}
use Rattle.volume.specs.Header.{Header}
use Rattle.volume.specs.Sizes.{name_size}
use Rattle.volume.specs.Start.{start}
use Rattle.volume.specs.Use.{Extent}
use Rattle.volume.specs.Paths.{open_path, list_path}
use Rattle.calls.specs.declared.refusal.MountRule.TheVariants.{NotBegun}
use Rattle.calls.specs.declared.refusal.Refusal.{Refusal}
use Rattle.calls.specs.declared.refusal.Refusal.TheVariants.{Volume, Path}
use Rattle.calls.specs.Calls.{Call, begin, open_file, read, whole, list, started, opened, count, all, listed, State, Accepted, Rules, no, filled_to, begin_rules, open_rules, read_rules, whole_rules, list_rules, call_rules}
use Rattle.reader.specs.Fetched.{Fetched}
use Rattle.reader.specs.Gather.{bytes_at}
use Rattle.reader.proofs.Running.{ran-gives, turned}

module _ {S F : Type 0} (meaning : S → Meaning F) (moves : S → Question → S → Type 0) (b d limit : ℕ) (block : b ≡ d) (s : State) (first last : S) where
  -- a call comes to what a program comes to, put into what the call gives; its refusals are put into the call's
  abbrev By : {E X : Type 0} → Call → Fetches F E X → (E → Refusal F) → (X → Accepted) → Type 0
  By {E = E} {X = X} call p within to =
      (r : Result X E) → Fetched meaning moves b first p r last → Fetched meaning moves d first (call_rules limit s call) (turned within to r) last

  gives : {E X : Type 0} (p : Fetches F E X) (within : E → Refusal F) (to : X → Accepted) (r : Result X E) → Fetched meaning moves b first p r last → Fetched meaning moves d first (after (put within p) (λ x. give (to x))) (turned within to r) last
  gives p within to r ran = ran-gives meaning moves d p within to first last r (subst (λ k. Fetched meaning moves k first p r last) block ran)

  abbrev started_as : Start → Accepted
  started_as at = record { given = started at; buffer = []; state = record { begun = Some at; held = s.held } }

  pub begin-ran : s.begun ≡ None → By begin (start limit) (λ e. Volume e) started_as
  unfolding begin_rules
  begin-ran none r ran = rw none (gives (start limit) (λ e. Volume e) started_as r ran)

  -- the others, once it has begun
  module _ (at : Start) (is : s.begun ≡ Some at) where
    begun : (on : Start → Rules F) (r : Result Accepted (Refusal F)) → Fetched meaning moves d first (on at) r last → Fetched meaning moves d first (elim s.begun [ None ↦ no NotBegun | Some at ↦ on at ]) r last
    begun on r ran = subst (λ o. Fetched meaning moves d first (elim o [ None ↦ no NotBegun | Some at ↦ on at ]) r last) (sym is) ran

    abbrev opened_as : Extent → Accepted
    opened_as file = record { given = opened file; buffer = []; state = record { begun = s.begun; held = s.held + 1 } }

    pub open-ran : (path : List ℕ) → (s.held ≡ 65535 → ⊥) → By (open_file path) (open_path at path) (λ e. Path e) opened_as
    unfolding open_rules
    open-ran path room r ran = begun (λ a. open_rules a s path) (turned (λ e. Path e) opened_as r) (rw (ne_eqb s.held 65535 room) (gives (open_path at path) (λ e. Path e) opened_as r ran))

    module _ (file : Extent) (inside : ltb at.size (file.start + file.size) ≡ false) where
      abbrev read_as : ℕ → ℕ → List ℕ → Accepted
      read_as n k bytes = record { given = count k; buffer = filled_to n bytes; state = s }

      pub read-ran : (f n k : ℕ) → ltb file.size f ≡ false → k ≡ min n (file.size - f) → By (read file f n) (bytes_at (file.start + f) k) (λ e. Volume e) (read_as n k)
      unfolding read_rules
      read-ran f n k near few =
          subst (λ k. By (read file f n) (bytes_at (file.start + f) k) (λ e. Volume e) (read_as n k)) (sym few)
          (λ r ran. let k = min n (file.size - f) in begun (λ a. read_rules a s file f n) (turned (λ e. Volume e) (read_as n k) r) (rw (inside, near) (gives (bytes_at (file.start + f) k) (λ e. Volume e) (read_as n k) r ran)))

      abbrev whole_as : List ℕ → Accepted
      whole_as bytes = record { given = all; buffer = bytes; state = record { begun = s.begun; held = s.held - 1 } }

      -- the buffer has m bytes, as it had before zeros were written
      pub whole-ran : (n m : ℕ) → m ≡ n → (s.held ≡ 0 → ⊥) → m ≡ file.size → By (whole file n) (bytes_at file.start m) (λ e. Volume e) whole_as
      unfolding whole_rules
      whole-ran n m same some size =
          subst (λ k. By (whole file n) (bytes_at file.start k) (λ e. Volume e) whole_as) (sym size)
          (λ r ran. begun (λ a. whole_rules a s file n) (turned (λ e. Volume e) whole_as r) (rw (inside, ne_eqb s.held 0 some, eq-eqb n file.size (sym same ∙ size)) (gives (bytes_at file.start file.size) (λ e. Volume e) whole_as r ran)))

    abbrev listed_as : Header → Accepted
    listed_as h = record { given = listed h.entry; buffer = filled_to name_size h.name; state = s }

    pub list-ran : (path : List ℕ) (index n : ℕ) → n ≡ name_size → By (list path index n) (list_path at path index) (λ e. Path e) listed_as
    unfolding list_rules
    list-ran path index n same r ran = begun (λ a. list_rules a s path index n) (turned (λ e. Path e) listed_as r) (rw same (gives (list_path at path index) (λ e. Path e) listed_as r ran))
