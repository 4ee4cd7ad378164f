-- The law of runs, by induction on the use.
use Rattle.std.proofs.Common.{◌≡◌, ◌⊎◌, true, List, [], ◌∷◌, ◌++◌, map, Option, None, Some, IsSome, IfSome, Ok, Err, refl, sym, ap, ap₂, ◌∙◌, subst, inl, inr, arith}
use Rattle.std.specs.List.{AllByRecursion}
use Rattle.std.specs.Option.{is_some}
use Rattle.std.proofs.lemmas.Bool.{false≢true}
use Rattle.std.proofs.lemmas.List.{map-append}
use Rattle.device.specs.declared.question.Question.{Question}
use Rattle.device.specs.Answer.{Answer}
use Rattle.device.specs.Program.{Meaning, Exchange, Sized, exchanges}
use Rattle.device.specs.Run.{Along}
use Rattle.device.proofs.Runs.{Onward}
use Rattle.device.proofs.Exchanges.{questions-asked, ran-along, along-more}
use Rattle.geometry.specs.Limits.{within}
use Rattle.layers.specs.declared.fault.Place.{Place}
use Rattle.layers.specs.declared.fault.StorageFault.{StorageFault}
use Rattle.layers.specs.Publisher.{Publisher, Whole, anchor_of, right_block, NoTwin, Honest}
use Rattle.layers.specs.Store.{StoreRule, IsStore}
use Rattle.layers.proofs.Judging.{no_twin, wrong, same_block, some_of}
use Rattle.calls.specs.Calls.{State, Reply, fresh}
use Rattle.calls.specs.Mount.{Mounted, made, mount}
use Rattle.calls.specs.Image.{image_reply, image_state, named}
use Rattle.calls.specs.Law.{Event, Used, all_exchanges, rules_ask, Agrees, IsToBlame, LawOfRuns, IsImage, HonestIsImage}
use Rattle.calls.proofs.Lift.{none-first, none-second}
use Rattle.calls.proofs.Steps.{IsHis, Fine, room, call-fine}
use Rattle.calls.proofs.Paths.{step-end, paths-asked}

-- what an honest device gave leaves nothing to blame
none_to_blame : {R : Type 0} (p : Publisher) (place : Place) (xs : List (Exchange R)) → Honest p xs → IsToBlame p xs place → ⊥
none_to_blame p place [] honest there = there
none_to_blame {R = R} p place (x ∷ xs) honest (inl (is_for, inl (refusal, refused))) =
    let right = some_of (right_block p x.question) refused.0 in
    let e : ◌≡◌ {A = Answer R} (Err refusal) (Ok right.0) = wrong p x xs right.0 (Err refusal) honest right.1 refused.1 in
    cc
none_to_blame p place (x ∷ xs) honest (inl (is_for, inr differs)) =
    differs.unlike (same_block differs.given differs.right (wrong p x xs differs.right (Ok differs.given) honest differs.published differs.answered))
none_to_blame p place (x ∷ xs) honest (inr later) = none_to_blame p place xs honest.1 later

honest-first : {R : Type 0} (p : Publisher) (xs ys : List (Exchange R)) → Honest p (xs ++ ys) → Honest p xs
honest-first p [] ys honest = tt
honest-first p (x ∷ xs) ys honest = (honest.0, honest-first p xs ys honest.1)

honest-second : {R : Type 0} (p : Publisher) (xs ys : List (Exchange R)) → Honest p (xs ++ ys) → Honest p ys
honest-second p [] ys honest = honest
honest-second p (x ∷ xs) ys honest = honest-second p xs ys honest.1

-- a device that is honest is never blamed
unnamed : {R : Type 0} (p : Publisher) (o : Option Place) (xs : List (Exchange R)) → Honest p xs → IfSome o (IsToBlame p xs) → o ≡ None
unnamed p None xs honest blame = refl
unnamed p (Some place) xs honest blame = absurd (none_to_blame p place xs honest blame)

none_named : {R : Type 0} (p : Publisher) (xs : List (Event R)) → Honest p (all_exchanges xs) → AllByRecursion (λ x. IfSome (named x.reply.answer) (IsToBlame p x.exchanges)) xs
    → AllByRecursion (λ x. named x.reply.answer ≡ None) xs
none_named p [] honest blames = tt
none_named p (x ∷ xs) honest blames = (
  unnamed p (named x.reply.answer) x.exchanges (honest-first p x.exchanges (all_exchanges xs) honest) blames.0,
  none_named p xs (honest-second p x.exchanges (all_exchanges xs) honest) blames.1,
)

module _ {D R M : Type 0} (store : StoreRule R M) (Keeps : Publisher → M → Type 0) (laws : IsStore store Keeps) (meaning : D → Meaning R) (moves : D → Question → D → Type 0) (onward : Onward meaning moves) (sized : (d : D) → Sized (meaning d)) where
  -- the device is asked what the rules ask
  asks : (xs : List (Event R)) (m : Mounted M) (d : D) (n : Mounted M) (e : D) → Used store meaning moves m d xs n e → map (λ x. x.question) (all_exchanges xs) ≡ rules_ask store (meaning d) m xs
  asks [] m d n e used = refl
  asks (x ∷ xs) m d n e (k, f, step, rest) =
      let program = mount {R = R} store m x.call in
      let end = step-end store meaning moves onward m d x k f step in
      map-append (λ y. y.question) x.exchanges (all_exchanges xs)
      ∙ ap₂ (λ a b. a ++ b) (ap (map (λ y. y.question)) step.exchanged ∙ questions-asked program (meaning d))
      (asks xs k f n e rest ∙ ap₂ (λ w j. rules_ask store w j xs) end.1 (ap (λ (r : Reply (StorageFault R) × Mounted M). r.1) end.0))

  -- and goes along its questions
  goes : (xs : List (Event R)) (m : Mounted M) (d : D) (n : Mounted M) (e : D) → Used store meaning moves m d xs n e → Along moves d (map (λ x. x.question) (all_exchanges xs)) e
  goes [] m d n e used = used.1
  goes (x ∷ xs) m d n e (k, f, step, rest) =
      let program = mount {R = R} store m x.call in
      let here : Along moves d (map (λ y. y.question) x.exchanges) f =
      subst (λ qs. Along moves d qs f) (sym (ap (map (λ y. y.question)) step.exchanged ∙ questions-asked program (meaning d))) (ran-along meaning moves onward program d (x.reply, k) f step.ran) in
      subst (λ qs. Along moves d qs e) (sym (map-append (λ y. y.question) x.exchanges (all_exchanges xs)))
      (along-more moves (map (λ y. y.question) x.exchanges) (map (λ y. y.question) (all_exchanges xs)) d f e here (goes xs k f n e rest))

  module _ (p : Publisher) (whole : Whole p) (limits : within p.shape ≡ true) where
    -- where no twin is given, each reply is the image's or a storage fault with a block to blame
    fine : (xs : List (Event R)) (m : Mounted M) (d : D) (n : Mounted M) (e : D) (s : State) → Used store meaning moves m d xs n e → IsHis Keeps p m → m.state ≡ s → NoTwin p (all_exchanges xs)
        → Agrees p s xs × AllByRecursion (λ x. IfSome (named x.reply.answer) (IsToBlame p x.exchanges)) xs
    fine [] m d n e s used his is none = (tt, tt)
    fine (x ∷ xs) m d n e s (k, f, step, rest) his is none =
        let end = step-end store meaning moves onward m d x k f step in
        let quiet : NoTwin p (exchanges (meaning d) (mount store m x.call)) = subst (NoTwin p) step.exchanged (none-first p x.exchanges (all_exchanges xs) none) in
        let ends : Fine Keeps p m.state x.call x.reply k x.exchanges =
        subst (Fine Keeps p m.state x.call x.reply k) (sym step.exchanged)
        (subst (λ (r : Reply (StorageFault R) × Mounted M). Fine Keeps p m.state x.call r.0 r.1 (exchanges (meaning d) (mount store m x.call))) (sym end.0)
        (call-fine store Keeps laws p whole limits x.call (meaning d) (sized d) m his quiet)) in
        let later = fine xs k f n e (image_state p s x.call x.reply) rest ends.his (ends.state ∙ ap (λ t. image_state p t x.call x.reply) is) (none-second p x.exchanges (all_exchanges xs) none) in (
          (subst (λ t. IsSome (named x.reply.answer) ⊎ (x.reply ≡ image_reply p t x.call)) is ends.agrees, later.0),
          (ends.blames, later.1),
        )

  pub law_of_runs_lem : LawOfRuns store meaning moves
  law_of_runs_lem p whole limits d e xs n used =
      let start = made store (Some (anchor_of p)) in
      let all = fine p whole limits xs start d n e fresh used (record { told = refl; keeps = laws.begins p; fits = tt }) refl in
      record {
        agrees = λ none. (all none).0;
        asked = asks xs start d n e used;
        moved = goes xs start d n e used;
        paths = paths-asked store meaning moves onward laws.paths (anchor_of p) (omega (arith, whole.sound.wide)) whole.sound.bytes (room p limits) xs start d n e used refl tt;
        honest = λ honest. none_named p xs honest (all (no_twin p (all_exchanges xs) honest)).1;
        blamed = λ none. (all none).1;
      }

  -- agreed, and no storage fault
  is_image : (p : Publisher) (xs : List (Event R)) (s : State) → Agrees p s xs → AllByRecursion (λ x. named x.reply.answer ≡ None) xs → IsImage p s xs
  is_image p [] s agrees none = tt
  is_image p (x ∷ xs) s agrees none =
      let here : x.reply ≡ image_reply p s x.call = elim agrees.0 [ inl fault ↦ absurd (false≢true (sym (ap is_some none.0) ∙ fault)) | inr same ↦ same ] in
      (here, is_image p xs (image_state p s x.call x.reply) agrees.1 none.1)

  pub honest_is_image_lem : HonestIsImage store meaning moves
  honest_is_image_lem p whole limits d e xs n used honest =
      let kept = law_of_runs_lem p whole limits d e xs n used in
      is_image p xs fresh (kept.agrees (no_twin p (all_exchanges xs) honest)) (kept.honest honest)
