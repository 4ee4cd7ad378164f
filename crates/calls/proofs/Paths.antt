-- The paths that are asked for by a call of a mount, and by a use.
use Rattle.std.proofs.Common.{◌≡◌, ℕ, ◌<◌, ◌≤◌, List, [], ◌∷◌, Option, Some, Result, Ok, Err, refl, sym, ◌∙◌, subst}
use Rattle.device.specs.declared.question.Question.{Question}
use Rattle.device.specs.Answer.{Answer}
use Rattle.device.specs.Program.{Program, Meaning, Exchange, after, result, asked, exchanges}
use Rattle.device.specs.Layer.{through}
use Rattle.device.proofs.Runs.{Onward, ran-end}
use Rattle.device.proofs.Exchanges.{of-put}
use Rattle.tree.specs.Shape.{fanout}
use Rattle.layers.specs.declared.fault.StorageFault.{StorageFault}
use Rattle.layers.specs.Anchor.{Anchor}
use Rattle.layers.specs.Store.{StoreRule, ServesByPaths}
use Rattle.volume.specs.Fetches.{Fetches, give, refuse, fetch}
use Rattle.volume.proofs.Gives.{Gives}
use Rattle.calls.specs.declared.refusal.Refusal.{Refusal}
use Rattle.calls.specs.Refusal.{holds}
use Rattle.calls.specs.Calls.{Call, State, Accepted, Reply, call_rules, reply_of, state_of}
use Rattle.calls.specs.Mount.{Mounted, image_length, by_label, mount}
use Rattle.calls.specs.Paths.{Fetch, Makes, AsksPaths}
use Rattle.calls.specs.Law.{Event, Step, Used, PathsAsked}
use Rattle.calls.proofs.Within.{Fits, call-clean}
use Rattle.calls.proofs.States.{call_keeps}
use Rattle.calls.proofs.Replays.{Went, went}
use Rattle.calls.proofs.Lasts.{HoldsLast, named_last}
use Rattle.calls.proofs.Asking.{Serves, program-made}

-- what a fetch's answer leads to
abbrev Goes : {R E X : Type 0} → (StorageFault R → E) → (List ℕ → Fetches (StorageFault R) E X) → List (Fetch R) → Result X E → Answer (StorageFault R) → Type 0
Goes fault rest fetches r answer = elim answer [ Ok bytes ↦ Makes (rest bytes) fetches r | Err below ↦ (fetches ≡ []) × (r ≡ Err (fault below)) ]

by_answer : {R E X : Type 0} (P : X → Type 0) (fault : StorageFault R → E) (rest : List ℕ → Fetches (StorageFault R) E X) (fetches : List (Fetch R)) (x : X) → ((bytes : List ℕ) → Makes (rest bytes) fetches (Ok x) → P x) → (answer : Answer (StorageFault R))
    → Goes fault rest fetches (Ok x) answer → P x
by_answer P fault rest fetches x on (Ok bytes) makes = on bytes makes
by_answer {E = E} {X = X} P fault rest fetches x on (Err below) (none, is) = let one : Result X E = Ok x in let other : Result X E = Err (fault below) in let e : one ≡ other = is in absurd (cc)

-- what holds of every value that a program may give holds of the one that it comes to
makes-gives : {R E X : Type 0} (P : X → Type 0) (program : Fetches (StorageFault R) E X) → Gives P program → (fetches : List (Fetch R)) (x : X) → Makes program fetches (Ok x) → P x
makes-gives {E = E} {X = X} P (give y) gives [] x makes = let one : Result X E = Ok x in let other : Result X E = Ok y in let e : one ≡ other = makes in subst P (let same : y ≡ x = cc in same) gives
makes-gives P (give y) gives (f ∷ fetches) x makes = absurd makes
makes-gives {E = E} {X = X} P (refuse e) gives [] x makes = let one : Result X E = Ok x in let other : Result X E = Err e in let e : one ≡ other = makes in absurd (cc)
makes-gives P (refuse e) gives (f ∷ fetches) x makes = absurd makes
makes-gives P (fetch from n fault rest) gives [] x makes = absurd makes
makes-gives P (fetch from n fault rest) gives (f ∷ fetches) x (same, long, makes) = by_answer P fault rest fetches x (λ bytes made. makes-gives P (rest bytes) (gives bytes) fetches x made) f.answer makes

module _ {R : Type 0} (a : Anchor) (wide : 0 < fanout a.shape) (some : 0 < a.shape.data_block) (room : 512 ≤ image_length a.shape) where
  -- the start within the image stays
  fits-made : (s : State) → Fits (image_length a.shape) s → (call : Call) (fetches : List (Fetch R)) (r : Result Accepted (Refusal (StorageFault R))) → Makes (call_rules (image_length a.shape) s call) fetches r → Fits (image_length a.shape) (state_of s r)
  fits-made s fits call fetches (Ok x) makes = makes-gives (λ (y : Accepted). Fits (image_length a.shape) y.state) (call_rules (image_length a.shape) s call) (call_keeps (StorageFault R) (image_length a.shape) s fits call) fetches x makes
  fits-made s fits call fetches (Err refusal) makes = fits

  -- a call of a mount, and the mount after it
  record Paths {M : Type 0} (s : State) (call : Call) (end : Reply (StorageFault R) × Mounted M) (xs : List (Exchange R)) : Type 0 where
    asks : AsksPaths a s call end.0 xs
    told : end.1.label ≡ Some a
    state : end.1.state ≡ state_of s asks.result
    fits : Fits (image_length a.shape) end.1.state

  module _ {M : Type 0} (store : StoreRule R M) (by_paths : ServesByPaths store) where
    call-paths : (m : Mounted M) → m.label ≡ Some a → Fits (image_length a.shape) m.state → (call : Call) (meaning : Meaning R) → Paths m.state call (result meaning (mount store m call)) (exchanges meaning (mount store m call))
    unfolding mount
    call-paths m told fits call meaning =
        let program : Option Anchor → Program R (Result Accepted (Refusal (StorageFault R)) × M) = λ l. through (store.step l) (by_label l m.state call) m.memory in
        let rules = call_rules (image_length a.shape) m.state call in
        let w = subst (λ l. Went (store.step (Some a)) (Serves a) (by_paths a wide) (by_label (Some a) m.state call) (result meaning (program l)).0 (exchanges meaning (program l))) (sym told)
        (went (store.step (Some a)) (Serves a) (by_paths a wide) (by_label (Some a) m.state call) meaning m.memory) in
        let end = result meaning (program m.label) in
        let made = program-made a some holds rules (call-clean (StorageFault R) (image_length a.shape) room m.state fits call) w.all end.0 w.served w.replays in
        of-put (Paths m.state call) (program m.label) (λ end. (reply_of call end.0, record { label = m.label; memory = end.1; state = state_of m.state end.0 })) meaning
        (record {
          asks = record {
            fetches = made.fetches;
            result = end.0;
            makes = made.makes;
            replied = refl;
            each = made.asked;
            exchanged = w.exchanged ∙ made.exchanged;
            ends = named_last a.shape call end.0 (exchanges meaning (program m.label)) (subst (HoldsLast a.shape holds end.0) (sym w.exchanged) made.held);
          };
          told = told;
          state = refl;
          fits = fits-made m.state fits call made.fetches end.0 made.makes;
        })

module _ {D R M : Type 0} (store : StoreRule R M) (meaning : D → Meaning R) (moves : D → Question → D → Type 0) (onward : Onward meaning moves) where
  -- what a step comes to
  pub step-end : (m : Mounted M) (d : D) (x : Event R) (n : Mounted M) (e : D) → Step store meaning moves m d x n e
      → ((x.reply, n) ≡ result (meaning d) (mount store m x.call)) × (meaning e ≡ after (meaning d) (asked (meaning d) (mount store m x.call)))
  step-end m d x n e step = ran-end meaning moves onward (mount store m x.call) d (x.reply, n) e step.ran

  pub paths-asked : ServesByPaths store → (a : Anchor) → 0 < fanout a.shape → 0 < a.shape.data_block → 512 ≤ image_length a.shape → (xs : List (Event R)) (m : Mounted M) (d : D) (n : Mounted M) (e : D) → Used store meaning moves m d xs n e
      → m.label ≡ Some a → Fits (image_length a.shape) m.state → PathsAsked a m.state xs
  paths-asked by_paths a wide some room [] m d n e used told fits = tt
  paths-asked by_paths a wide some room (x ∷ xs) m d n e (k, f, step, rest) told fits =
      let end = step-end m d x k f step in
      let here : Paths a wide some room m.state x.call (x.reply, k) x.exchanges =
      subst (Paths a wide some room m.state x.call (x.reply, k)) (sym step.exchanged)
      (subst (λ v. Paths a wide some room m.state x.call v (exchanges (meaning d) (mount store m x.call))) (sym end.0) (call-paths a wide some room store by_paths m told fits x.call (meaning d))) in
      (here.asks, subst (λ s. PathsAsked a s xs) here.state (paths-asked by_paths a wide some room xs k f n e rest here.told here.fits))
