-- One call of a mount: its reply is the image's, or a storage fault that names a block to blame.
use Rattle.std.proofs.Common.{◌≡◌, ◌⊎◌, ◌≤◌, true, List, [], ◌∷◌, length, Option, None, Some, IsSome, IfSome, Result, Ok, Err, refl, sym, ap, ◌∙◌, subst, inl, inr, mul-le-mul_right, arith}
use Rattle.device.specs.Program.{Program, Meaning, Exchange, Somewhere, Sized, result, exchanges}
use Rattle.device.specs.Layer.{through}
use Rattle.device.proofs.Exchanges.{of-put}
use Rattle.geometry.specs.Limits.{within}
use Rattle.geometry.proofs.Bounds.{bounds}
use Rattle.layers.specs.declared.fault.Place.{Place}
use Rattle.layers.specs.declared.fault.StorageFault.{StorageFault}
use Rattle.layers.specs.declared.fault.StorageFault.TheVariants.{Label, NoBlock, Refused, Mismatch}
use Rattle.layers.specs.Anchor.{Anchor}
use Rattle.layers.specs.Publisher.{Publisher, Whole, anchor_of, NoTwin, Differs}
use Rattle.layers.specs.Judged.{IsFor, WasRefused}
use Rattle.layers.specs.Store.{StoreRule, IsStore, Blames}
use Rattle.volume.specs.Fetches.{Fetches, by_image, by_blocks}
use Rattle.volume.proofs.Clean.{Clean, clean-image}
use Rattle.calls.specs.declared.refusal.Refusal.{Refusal}
use Rattle.calls.specs.Refusal.{holds}
use Rattle.calls.specs.Calls.{Call, State, Accepted, Reply, call_rules, reply_of, state_of}
use Rattle.calls.specs.Mount.{Mounted, image_length, by_label, mount}
use Rattle.calls.specs.Image.{image_reply, image_state, named, blamed, blamed_if}
use Rattle.calls.specs.Law.{IsToBlame}
use Rattle.calls.proofs.Lift.{Ends, lift}
use Rattle.calls.proofs.Fetching as fetching
use Rattle.calls.proofs.Within.{Fits, call-clean}
use Rattle.calls.proofs.States.{fits-after}

-- in the law's words: what a fault blames is to blame
each_there : {X : Type 0} (P Q : X → Type 0) (xs : List X) → ((x : X) → P x → Q x) → Somewhere P xs → Somewhere Q xs
each_there P Q [] on there = there
each_there P Q (x ∷ xs) on (inl here) = inl (on x here)
each_there P Q (x ∷ xs) on (inr later) = inr (each_there P Q xs on later)

pub to_blame : {R : Type 0} (p : Publisher) (fault : StorageFault R) (xs : List (Exchange R)) → Blames p fault xs → (place : Place) × (blamed fault ≡ Some place) × IsToBlame p xs place
to_blame p Label xs h = absurd h
to_blame p (NoBlock block) xs h = absurd h
to_blame {R = R} p (Refused place refusal) xs h =
    (place, refl, each_there (λ x. IsFor p.shape place x × WasRefused p refusal x) (λ x. IsFor p.shape place x × (((r : R) × WasRefused p r x) ⊎ Differs p x)) xs (λ x b. (b.0, inl (refusal, b.1))) h)
to_blame {R = R} p (Mismatch place) xs h =
    (place, refl, each_there (λ x. IsFor p.shape place x × Differs p x) (λ x. IsFor p.shape place x × (((r : R) × WasRefused p r x) ⊎ Differs p x)) xs (λ x b. (b.0, inr b.1)) h)

-- a mount whose label is the publisher's, and of whose memory this is known
pub record IsHis {M : Type 0} (Keeps : Publisher → M → Type 0) (p : Publisher) (m : Mounted M) : Type 0 where
  pub told : m.label ≡ Some (anchor_of p)
  pub keeps : Keeps p m.memory
  pub fits : Fits (image_length p.shape) m.state

-- a reply of a call, and the mount after it
pub record Fine {R M : Type 0} (Keeps : Publisher → M → Type 0) (p : Publisher) (s : State) (call : Call) (reply : Reply (StorageFault R)) (n : Mounted M) (xs : List (Exchange R)) : Type 0 where
  pub his : IsHis Keeps p n
  pub agrees : IsSome (named reply.answer) ⊎ (reply ≡ image_reply p s call)
  pub state : n.state ≡ image_state p s call reply
  pub blames : IfSome (named reply.answer) (IsToBlame p xs)

-- what a reply names, by what the call came to
no_name : {R : Type 0} (call : Call) (r : Result Accepted (Refusal (StorageFault R))) → ((e : Refusal (StorageFault R)) → r ≡ Err e → holds e ≡ None) → named (reply_of call r).answer ≡ None
no_name call (Ok accepted) none = refl
no_name call (Err e) none = ap blamed_if (none e refl)

name_of : {R : Type 0} (call : Call) (r : Result Accepted (Refusal (StorageFault R))) (e : Refusal (StorageFault R)) (fault : StorageFault R) → r ≡ Err e → holds e ≡ Some fault
    → named (reply_of call r).answer ≡ blamed fault
name_of call r e fault is holding = ap (λ x. named (reply_of call x).answer) is ∙ ap blamed_if holding

-- an image of these limits has 512 bytes
pub room : (p : Publisher) → within p.shape ≡ true → 512 ≤ image_length p.shape
room p limits =
    let known = bounds p.shape limits in
    let more = mul-le-mul_right p.shape.data_block known.some in
    omega (arith, known.data_low)

module _ (R : Type 0) (p : Publisher) (whole : Whole p) (limits : within p.shape ≡ true) (s : State) (fits : Fits (image_length p.shape) s) (call : Call) where
  abbrev rules : Fetches (StorageFault R) (Refusal (StorageFault R)) Accepted
  rules = call_rules (image_length p.shape) s call

  clean : Clean holds (length p.image) rules
  clean = subst (λ k. Clean holds k rules) (sym whole.filled) (call-clean (StorageFault R) (image_length p.shape) (room p limits) s fits call)

  -- by what the call came to, and the fault that it saw
  fine : {M : Type 0} (Keeps : Publisher → M → Type 0) (r : Result Accepted (Refusal (StorageFault R))) (seen : Option (StorageFault R)) (xs : List (Exchange R)) (n : Mounted M) → n.label ≡ Some (anchor_of p) → Keeps p n.memory → n.state ≡ state_of s r
      → fetching.Agrees p whole R holds rules r seen → IfSome seen (λ fault. Blames p fault xs) → Fine Keeps p s call (reply_of call r) n xs
  fine Keeps r None xs n told keeps state agrees blames =
      let reply = reply_of call r in
      let none : named reply.answer ≡ None = no_name call r (λ e is. clean-image holds (length p.image) p.image rules clean e (sym agrees ∙ is)) in
      record {
        his = record { told = told; keeps = keeps; fits = subst (Fits (image_length p.shape)) (sym state) (fits-after (StorageFault R) (image_length p.shape) p.image s fits call r (sym agrees)) };
        agrees = inr (ap (reply_of call) agrees);
        state = state ∙ ap (state_of s) agrees ∙ sym (ap (λ (o : Option Place). elim o [ Some place ↦ s | None ↦ state_of {F = StorageFault R} s (by_image p.image rules) ]) none);
        blames = subst (λ o. IfSome o (IsToBlame p xs)) (sym none) tt;
      }
  fine Keeps r (Some fault) xs n told keeps state (e, is, holding) blames =
      let reply = reply_of call r in
      let bad = to_blame p fault xs blames in
      let name : named reply.answer ≡ Some bad.0 = name_of call r e fault is holding ∙ bad.1 in
      let same : n.state ≡ s = state ∙ ap (state_of s) is in
      record {
        his = record { told = told; keeps = keeps; fits = subst (Fits (image_length p.shape)) (sym same) fits };
        agrees = inl (subst IsSome (sym name) refl);
        state = same ∙ sym (ap (λ (o : Option Place). elim o [ Some place ↦ s | None ↦ state_of {F = StorageFault R} s (by_image p.image rules) ]) name);
        blames = subst (λ o. IfSome o (IsToBlame p xs)) (sym name) bad.2;
      }

-- a call of his mount over a store
module _ {R M : Type 0} (store : StoreRule R M) (Keeps : Publisher → M → Type 0) (laws : IsStore store Keeps) (p : Publisher) (whole : Whole p) (limits : within p.shape ≡ true) (call : Call) (meaning : Meaning R)
    (sized : Sized meaning) where
  pub call-fine : (m : Mounted M) → IsHis Keeps p m → NoTwin p (exchanges meaning (mount store m call))
      → Fine Keeps p m.state call (result meaning (mount store m call)).0 (result meaning (mount store m call)).1 (exchanges meaning (mount store m call))
  unfolding mount
  call-fine m his none =
      let rules = call_rules (image_length p.shape) m.state call in
      let post = fetching.Agrees p whole R holds rules in
      let program : Option Anchor → Program R (Result Accepted (Refusal (StorageFault R)) × M) = λ l. through (store.step l) (by_label l m.state call) m.memory in
      let fair = fetching.fair-program p whole R holds whole.sound.bytes rules (clean R p whole limits m.state his.fits call) in
      let ends = subst (λ l. NoTwin p (exchanges meaning (program l)) → Ends p whole store Keeps laws post (result meaning (program l)) (exchanges meaning (program l))) (sym his.told)
      (lift p whole store Keeps laws post (by_blocks p.shape.data_block rules) fair m.memory his.keeps meaning sized) in
      of-put (λ end xs. NoTwin p xs → Fine Keeps p m.state call end.0 end.1 xs) (program m.label)
      (λ end. (reply_of call end.0, record { label = m.label; memory = end.1; state = state_of m.state end.0 })) meaning
      (λ quiet.
      let e = ends quiet in
      let end = result meaning (program m.label) in
      fine R p whole limits m.state his.fits call Keeps end.0 e.seen (exchanges meaning (program m.label)) (record { label = m.label; memory = end.1; state = state_of m.state end.0 }) his.told e.keeps refl e.holds e.blames)
      none
