-- What a reading is worth, by the law of runs.
use Rattle.std.proofs.Common.{◌≡◌, ◌⊎◌, ℕ, ◌+◌, ◌-◌, min, ltb, List, [], ◌∷◌, take, drop, replicate, Option, None, Some, IsSome, IfSome, Result, Ok, Err, refl, sym, ap, ◌∙◌, subst, inl, inr}
use Rattle.std.specs.List.{AllByRecursion}
use Rattle.std.specs.Option.{is_some}
use Rattle.std.specs.Result.{IsOk, MatchResult}
use Rattle.std.specs.Bool.{MatchBool}
use Rattle.std.proofs.lemmas.Bool.{false≢true}
use Rattle.device.specs.declared.question.Question.{Question}
use Rattle.device.specs.Program.{Meaning, Somewhere}
use Rattle.layers.specs.declared.fault.Place.{Place}
use Rattle.layers.specs.declared.fault.StorageFault.{StorageFault}
use Rattle.layers.specs.Store.{StoreRule}
use Rattle.layers.specs.Publisher.{Publisher}
use Rattle.layers.proofs.Judging.{some_of}
use Rattle.layers.proofs.Tests.{tested}
use Rattle.volume.specs.declared.types.Start.{Start}
use Rattle.volume.specs.Fetches.{by_image}
use Rattle.volume.specs.Use.{Extent}
use Rattle.calls.specs.declared.refusal.MountRule.TheVariants.{Offset}
use Rattle.calls.specs.declared.refusal.Refusal.{Refusal}
use Rattle.calls.specs.declared.refusal.Refusal.TheVariants.{Mount}
use Rattle.calls.specs.Refusal.{holds}
use Rattle.calls.specs.Calls.{Call, begin, open_file, read, Given, started, opened, count, Accepted, State, Reply, fresh, filled_to, call_rules, reply_of, state_of}
use Rattle.calls.specs.Mount.{image_length}
use Rattle.calls.specs.Image.{blamed_if, named, image_reply, image_state}
use Rattle.calls.specs.Law.{Event, Kept, IsToBlame, Agrees, all_exchanges}
use Rattle.mount.specs.Mount.{replied, answer_of}
use Rattle.published.specs.Reading.{Ends, IsReading, image_opens, IsPartOf, IsOfImage, IsRefusedFor, IsWorth, twin, fault, image}
use Rattle.published.proofs.Twins.{twin_or_none}
use Rattle.published.proofs.Images.{on_value, starts, opens_at, begun_at, begin_is, open_is, opens_after, opens_not, reads_past, reads_bytes}

module _ (R : Type 0) (p : Publisher) (path : List ℕ) (from n : ℕ) where
  abbrev F : Type 0
  F = StorageFault R

  abbrev Right : State → Event R → Type 0
  Right s x = IsSome (named x.reply.answer) ⊎ (x.reply ≡ image_reply p s x.call)

  abbrev Blamed : Event R → Type 0
  Blamed x = IfSome (named x.reply.answer) (IsToBlame p x.exchanges)

  -- a refusal by a storage fault
  blames : (x : Event R) (refusal : Refusal F) → x.reply.answer ≡ Err refusal → IsSome (named x.reply.answer) → Blamed x → (place : Place) × (blamed_if (holds refusal) ≡ Some place) × IsToBlame p x.exchanges place
  blames x refusal is some blamed =
      let name : named x.reply.answer ≡ blamed_if (holds refusal) = ap named is in
      let place = some_of (named x.reply.answer) some in
      (place.0, sym name ∙ place.1, subst (λ o. IfSome o (IsToBlame p x.exchanges)) place.1 blamed)

  -- what an accepted call names
  none_named : (x : Event R) (given : Given) → x.reply.answer ≡ Ok given → IsSome (named x.reply.answer) → ⊥
  none_named x given is some = false≢true (sym (ap (λ (a : Result Given (Refusal F)). is_some (named a)) is) ∙ some)

  -- an accepted call is the image's
  of_image : (s : State) (x : Event R) (given : Given) → x.reply.answer ≡ Ok given → Right s x → x.reply ≡ image_reply p s x.call
  of_image s x given is (inl some) = absurd (none_named x given is some)
  of_image s x given is (inr same) = same

  -- the state of the image after it
  state_after : (s : State) (x : Event R) (given : Given) → x.reply.answer ≡ Ok given → (call : Call) → x.call ≡ call → (r : Result Accepted (Refusal F)) → by_image p.image (call_rules (image_length p.shape) s call) ≡ r
      → image_state p s x.call x.reply ≡ state_of s r
  state_after s x given is call called r comes =
      ap (λ (o : Option Place). elim o [ Some place ↦ s | None ↦ state_of {F = F} s (by_image p.image (call_rules (image_length p.shape) s x.call)) ]) (ap named is)
      ∙ ap (λ y. state_of {F = F} s (by_image p.image (call_rules (image_length p.shape) s y))) called ∙ ap (state_of s) comes

  -- the reply of the image, where its rules come to this
  reply_after : (s : State) (x : Event R) → x.reply ≡ image_reply p s x.call → (call : Call) → x.call ≡ call → (r : Result Accepted (Refusal F)) → by_image p.image (call_rules (image_length p.shape) s call) ≡ r
      → x.reply ≡ reply_of call r
  reply_after s x same call called r comes = same ∙ ap (image_reply p s) called ∙ ap (reply_of call) comes

  -- the refusal of begin is that of opening
  begin_refused : (x : Event R) (refusal : Refusal F) → x.reply.answer ≡ Err refusal → (r : Result Start (Refusal F)) → starts F p path ≡ r → x.reply ≡ reply_of begin (on_value r (λ at. Ok (record { given = started at; buffer = []; state = begun_at F p path at 0 })))
      → image_opens F p path ≡ Err refusal
  begin_refused x refusal is (Err e) comes same =
      let gave : ◌≡◌ {A = Result Given (Refusal F)} (Err refusal) (Err e) = sym is ∙ ap (λ (y : Reply F). y.answer) same in
      let inner : refusal ≡ e = cc in
      opens_not F p path refusal (comes ∙ ap (λ y. Err y) (sym inner))
  begin_refused x refusal is (Ok at) comes same =
      let no : ◌≡◌ {A = Result Given (Refusal F)} (Err refusal) (Ok (started at)) = sym is ∙ ap (λ (y : Reply F). y.answer) same in absurd cc

  -- and once it has begun, that of open is
  open_refused : (at : Start) → starts F p path ≡ Ok at → (y : Event R) (refusal : Refusal F) → y.reply.answer ≡ Err refusal → (r : Result Extent (Refusal F)) → opens_at F p path at ≡ r
      → y.reply ≡ reply_of (open_file path) (on_value r (λ file. Ok (record { given = opened file; buffer = []; state = begun_at F p path at 1 })))
      → image_opens F p path ≡ Err refusal
  open_refused at begun y refusal is (Err e) comes same =
      let gave : ◌≡◌ {A = Result Given (Refusal F)} (Err refusal) (Err e) = sym is ∙ ap (λ (z : Reply F). z.answer) same in
      let inner : refusal ≡ e = cc in
      opens_after F p path at begun ∙ comes ∙ ap (λ z. Err z) (sym inner)
  open_refused at begun y refusal is (Ok file) comes same =
      let no : ◌≡◌ {A = Result Given (Refusal F)} (Err refusal) (Ok (opened file)) = sym is ∙ ap (λ (z : Reply F). z.answer) same in absurd cc

  -- an accepted begin
  begun : (x : Event R) → IsOk x.reply.answer → (r : Result Start (Refusal F)) → starts F p path ≡ r → x.reply ≡ reply_of begin (on_value r (λ at. Ok (record { given = started at; buffer = []; state = begun_at F p path at 0 }))) → (at : Start) × (starts F p path ≡ Ok at)
  begun x ok (Ok at) comes same = (at, comes)
  begun x ok (Err e) comes same = absurd (false≢true (subst (λ (y : Reply F). IsOk y.answer) same ok))

  -- an accepted open
  opened_is : (at : Start) → starts F p path ≡ Ok at → (y : Event R) (file : Extent) → y.reply.answer ≡ Ok (opened file) → (r : Result Extent (Refusal F)) → opens_at F p path at ≡ r
      → y.reply ≡ reply_of (open_file path) (on_value r (λ found. Ok (record { given = opened found; buffer = []; state = begun_at F p path at 1 })))
      → opens_at F p path at ≡ Ok file
  opened_is at begun_here y file is (Ok found) comes same =
      let gave : ◌≡◌ {A = Result Given (Refusal F)} (Ok (opened file)) (Ok (opened found)) = sym is ∙ ap (λ (z : Reply F). z.answer) same in
      let inner : file ≡ found = cc in
      comes ∙ ap (λ z. Ok z) (sym inner)
  opened_is at begun_here y file is (Err e) comes same =
      let no : ◌≡◌ {A = Result Given (Refusal F)} (Ok (opened file)) (Err e) = sym is ∙ ap (λ (z : Reply F). z.answer) same in absurd cc

  -- what a reply of read says of the answer and its buffer
  same_answer : (answer : Result ℕ (Refusal F)) (buffer : List ℕ) (z : Reply F) → replied count buffer answer ≡ z → answer_of count answer ≡ z.answer
  same_answer answer buffer z same = ap (λ (y : Reply F). y.answer) same

  count_ok : (answer : Result ℕ (Refusal F)) (c : ℕ) → answer_of count answer ≡ Ok (count c) → answer ≡ Ok c
  count_ok (Ok k) c is = let gave : ◌≡◌ {A = Result Given (Refusal F)} (Ok (count k)) (Ok (count c)) = is in let inner : k ≡ c = cc in ap (λ x. Ok x) inner
  count_ok (Err e) c is = let no : ◌≡◌ {A = Result Given (Refusal F)} (Err e) (Ok (count c)) = is in absurd cc

  count_err : (answer : Result ℕ (Refusal F)) (refusal : Refusal F) → answer_of count answer ≡ Err refusal → answer ≡ Err refusal
  count_err (Ok k) refusal is = let no : ◌≡◌ {A = Result Given (Refusal F)} (Ok (count k)) (Err refusal) = is in absurd cc
  count_err (Err e) refusal is = let gave : ◌≡◌ {A = Result Given (Refusal F)} (Err e) (Err refusal) = is in let inner : e ≡ refusal = cc in ap (λ x. Err x) inner

  part_is : (file : Extent) (answer : Result ℕ (Refusal F)) (buffer : List ℕ) → image_opens F p path ≡ Ok file → IsPartOf p.image file from n answer buffer → IsOfImage p path from n answer buffer
  part_is file answer buffer is part = subst (λ r. MatchResult r (λ f. IsPartOf p.image f from n answer buffer) (λ refusal. (answer ≡ Err refusal) × (buffer ≡ replicate n 0))) (sym is) part

  refused_is : (refusal : Refusal F) (answer : Result ℕ (Refusal F)) (buffer : List ℕ) → image_opens F p path ≡ Err refusal → answer ≡ Err refusal → buffer ≡ replicate n 0 → IsOfImage p path from n answer buffer
  refused_is refusal answer buffer is refused zeros =
      subst (λ r. MatchResult r (λ f. IsPartOf p.image f from n answer buffer) (λ e. (answer ≡ Err e) × (buffer ≡ replicate n 0))) (sym is) (refused, zeros)

  -- what read gives of a file that the image opened
  part_of : (at : Start) (file : Extent) → opens_at F p path at ≡ Ok file → (answer : Result ℕ (Refusal F)) (buffer : List ℕ) → replied count buffer answer ≡ image_reply p (begun_at F p path at 1) (read file from n) → IsPartOf p.image file from n answer buffer
  part_of at file opened_here answer buffer same =
      let call = read file from n in
      let c = min n (file.size - from) in
      tested (ltb file.size from)
      (λ b. MatchBool b ((answer ≡ Err (Mount Offset)) × (buffer ≡ replicate n 0)) ((answer ≡ Ok c) × (buffer ≡ filled_to n (take c (drop (file.start + from) p.image)))))
      (λ past.
      let gave = same ∙ ap (reply_of call) (reads_past F p path at file opened_here from n past) in
      (count_err answer (Mount Offset) (ap (λ (y : Reply F). y.answer) gave), ap (λ (y : Reply F). y.buffer) gave))
      (λ here.
      let gave = same ∙ ap (reply_of call) (reads_bytes F p path at file opened_here from n here) in
      (count_ok answer c (ap (λ (y : Reply F). y.answer) gave), ap (λ (y : Reply F). y.buffer) gave))

  abbrev Worth : Result ℕ (Refusal F) → List ℕ → List (Event R) → Type 0
  Worth answer buffer xs = IsWorth p path from n answer buffer xs

  -- a storage fault of one of the calls
  by_fault : (xs : List (Event R)) (x : Event R) → ((refusal : Refusal F) (place : Place) → IsRefusedFor p refusal place x → Somewhere (IsRefusedFor p refusal place) xs) → (refusal : Refusal F) → x.reply.answer ≡ Err refusal → (answer : Result ℕ (Refusal F))
      (buffer : List ℕ) → answer ≡ Err refusal → buffer ≡ replicate n 0 → IsSome (named x.reply.answer) → Blamed x → Worth answer buffer xs
  by_fault xs x there refusal is answer buffer refused zeros some blamed =
      let found = blames x refusal is some blamed in
      fault refusal found.0 refused zeros found.1 (there refusal found.0 (is, found.2))

  abbrev begins : Start → Result Accepted (Refusal F)
  begins at = Ok (record { given = started at; buffer = []; state = begun_at F p path at 0 })

  abbrev opens : Start → Extent → Result Accepted (Refusal F)
  opens at file = Ok (record { given = opened file; buffer = []; state = begun_at F p path at 1 })

  -- begin alone
  by_begin : (x : Event R) → x.call ≡ begin → Right fresh x → Blamed x → (answer : Result ℕ (Refusal F)) (buffer : List ℕ) → Ends n x answer buffer → Worth answer buffer (x ∷ [])
  by_begin x called (inl some) blamed answer buffer (refusal, is, refused, zeros) =
      by_fault (x ∷ []) x (λ e place here. inl here) refusal is answer buffer refused zeros some blamed
  by_begin x called (inr same) blamed answer buffer (refusal, is, refused, zeros) =
      image (refused_is refusal answer buffer (begin_refused x refusal is (starts F p path) refl (reply_after fresh x same begin called (on_value (starts F p path) begins) (begin_is F p path))) refused zeros)

  -- what is known once begin was accepted
  record Begun (x : Event R) : Type 0 where
    at : Start
    started_at : starts F p path ≡ Ok at
    state : image_state p fresh x.call x.reply ≡ begun_at F p path at 0

  ok_of : (r : Result Given (Refusal F)) → IsOk r → (given : Given) × (r ≡ Ok given)
  ok_of (Ok given) ok = (given, refl)
  ok_of (Err e) ok = absurd (false≢true ok)

  begun_of : (x : Event R) → x.call ≡ begin → IsOk x.reply.answer → Right fresh x → Begun x
  begun_of x called ok right =
      let given = ok_of x.reply.answer ok in
      let same = of_image fresh x given.0 given.1 right in
      let reply = reply_after fresh x same begin called (on_value (starts F p path) begins) (begin_is F p path) in
      let at = begun x ok (starts F p path) refl reply in
      record {
        at = at.0;
        started_at = at.1;
        state = state_after fresh x given.0 given.1 begin called (begins at.0) (begin_is F p path ∙ ap (λ r. on_value r begins) at.1);
      }

  -- begin, and open refused
  by_open : (x y : Event R) → x.call ≡ begin → IsOk x.reply.answer → Right fresh x → y.call ≡ open_file path → Right (image_state p fresh x.call x.reply) y → Blamed y → (answer : Result ℕ (Refusal F)) (buffer : List ℕ) → Ends n y answer buffer
      → Worth answer buffer (x ∷ y ∷ [])
  by_open x y called ok right opening (inl some) blamed answer buffer (refusal, is, refused, zeros) =
      by_fault (x ∷ y ∷ []) y (λ e place here. inr (inl here)) refusal is answer buffer refused zeros some blamed
  by_open x y called ok right opening (inr same) blamed answer buffer (refusal, is, refused, zeros) =
      let b = begun_of x called ok right in
      let here : y.reply ≡ image_reply p (begun_at F p path b.at 0) y.call = same ∙ ap (λ s. image_reply p s y.call) b.state in
      let reply = reply_after (begun_at F p path b.at 0) y here (open_file path) opening (on_value (opens_at F p path b.at) (opens b.at)) (open_is F p path b.at) in
      image (refused_is refusal answer buffer (open_refused b.at b.started_at y refusal is (opens_at F p path b.at) refl reply) refused zeros)

  -- an answer of read that names a block
  err_of : (answer : Result ℕ (Refusal F)) → IsSome (named (answer_of count answer)) → (refusal : Refusal F) × (answer ≡ Err refusal)
  err_of (Ok c) some = absurd (false≢true some)
  err_of (Err e) some = (e, refl)

  -- all four calls
  by_read : (x y z w : Event R) → x.call ≡ begin → IsOk x.reply.answer → Right fresh x → (file : Extent) → y.call ≡ open_file path → y.reply.answer ≡ Ok (opened file) → Right (image_state p fresh x.call x.reply) y
      → (answer : Result ℕ (Refusal F)) (buffer : List ℕ) → z.call ≡ read file from n → z.reply ≡ replied count buffer answer → Right (image_state p (image_state p fresh x.call x.reply) y.call y.reply) z → Blamed z
      → ((refusal : Refusal F) → answer ≡ Err refusal → buffer ≡ replicate n 0) → Worth answer buffer (x ∷ y ∷ z ∷ w ∷ [])
  by_read x y z w called ok right file opening gave right_y answer buffer reading replies (inl some) blamed zeros =
      let some_answer : IsSome (named (answer_of count answer)) = subst (λ (r : Reply F). IsSome (named r.answer)) replies some in
      let bad = err_of answer some_answer in
      let is : z.reply.answer ≡ Err bad.0 = ap (λ (r : Reply F). r.answer) replies ∙ ap (answer_of count) bad.1 in
      by_fault (x ∷ y ∷ z ∷ w ∷ []) z (λ e place here. inr (inr (inl here)))
      bad.0 is answer buffer bad.1 (zeros bad.0 bad.1) some blamed
  by_read x y z w called ok right file opening gave right_y answer buffer reading replies (inr same) blamed zeros =
      let b = begun_of x called ok right in
      let s = begun_at F p path b.at 0 in
      let t = begun_at F p path b.at 1 in
      let right_s : Right s y = subst (λ u. Right u y) b.state right_y in
      let same_y = of_image s y (opened file) gave right_s in
      let reply = reply_after s y same_y (open_file path) opening (on_value (opens_at F p path b.at) (opens b.at)) (open_is F p path b.at) in
      let found = opened_is b.at b.started_at y file gave (opens_at F p path b.at) refl reply in
      let next : image_state p s y.call y.reply ≡ t = state_after s y (opened file) gave (open_file path) opening (opens b.at file) (open_is F p path b.at ∙ ap (λ r. on_value r (opens b.at)) found) in
      let all : image_state p (image_state p fresh x.call x.reply) y.call y.reply ≡ t = ap (λ u. image_state p u y.call y.reply) b.state ∙ next in
      let here : replied count buffer answer ≡ image_reply p t (read file from n) = sym replies ∙ same ∙ ap (λ u. image_reply p u z.call) all ∙ ap (image_reply p t) reading in
      image (part_is file answer buffer (opens_after F p path b.at b.started_at ∙ found) (part_of b.at file found answer buffer here))

  -- by the law, where no twin was given
  by_law : (xs : List (Event R)) → Agrees p fresh xs → AllByRecursion Blamed xs → (answer : Result ℕ (Refusal F)) (buffer : List ℕ) → IsReading path from n answer buffer xs → ((refusal : Refusal F) → answer ≡ Err refusal → buffer ≡ replicate n 0) → Worth answer buffer xs
  by_law [] agrees blamed answer buffer reading zeros = absurd reading
  by_law (x ∷ []) agrees blamed answer buffer reading zeros = by_begin x reading.0 agrees.0 blamed.0 answer buffer reading.1
  by_law (x ∷ y ∷ []) agrees blamed answer buffer reading zeros = by_open x y reading.0 reading.1 agrees.0 reading.2 agrees.1.0 blamed.1.0 answer buffer reading.3
  by_law (x ∷ y ∷ z ∷ []) agrees blamed answer buffer reading zeros = absurd reading
  by_law (x ∷ y ∷ z ∷ w ∷ []) agrees blamed answer buffer reading zeros =
      let file = reading.2 in
      by_read x y z w reading.0 reading.1 agrees.0 file.0 file.1 file.2 agrees.1.0 answer buffer file.3 file.4 agrees.1.1.0 blamed.1.1.0 zeros
  by_law (x ∷ y ∷ z ∷ w ∷ v ∷ more) agrees blamed answer buffer reading zeros = absurd reading

  pub worth : {D M : Type 0} (store : StoreRule R M) (meaning : D → Meaning R) (moves : D → Question → D → Type 0) (d : D) (xs : List (Event R)) (e : D) → Kept store meaning moves p d xs e → (answer : Result ℕ (Refusal F)) (buffer : List ℕ) → IsReading path from n answer buffer xs
      → ((refusal : Refusal F) → answer ≡ Err refusal → buffer ≡ replicate n 0) → Worth answer buffer xs
  worth store meaning moves d xs e kept answer buffer reading zeros =
      elim (twin_or_none p (all_exchanges xs)) [ inl given ↦ twin given | inr none ↦ by_law xs (kept.agrees none) (kept.blamed none) answer buffer reading zeros ]
