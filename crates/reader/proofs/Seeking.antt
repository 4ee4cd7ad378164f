-- Going along a list, header by header.
use Rattle.std.proofs.Common.{◌≡◌, ℕ, ◌<◌, true, false, cond, Result, Ok, Err, refl, sym, subst, arith}
use Rattle.device.specs.declared.question.Question.{Question}
use Rattle.device.specs.Program.{Meaning}
use Rattle.volume.specs.declared.types.Start.{Start}
use Rattle.volume.specs.declared.fault.PathRule.TheVariants.{Missing}
use Rattle.volume.specs.declared.fault.PathFault.{PathFault}
use Rattle.volume.specs.declared.fault.PathFault.TheVariants.{Rule, Volume}
use Rattle.volume.specs.Fetches.{Fetches, give, after, put}
use Rattle.volume.specs.Header.{Header, header}
use Rattle.volume.specs.Walk.{Sought, is_it, behind, is_dots, find}
use Rattle.volume.proofs.Steps.{find-ends, find-goes}
use Rattle.reader.specs.Fetched.{Fetched}
use Rattle.reader.proofs.Running.{ran-on, ran-off}

module _ {S F : Type 0} (meaning : S → Meaning F) (moves : S → Question → S → Type 0) (d : ℕ) (start : Start) (place : ℕ) where
  -- what is left of a list: whatever run it has from here, the whole has from the start
  abbrev pub Seeking : S → Sought → ℕ → S → Sought → ℕ → Type 0
  Seeking first wanted from now sought at =
      (r : Result Header (PathFault F)) (end : S) → Fetched meaning moves d now (find start place sought at) r end → Fetched meaning moves d first (find start place wanted from) r end

  module _ (first now : S) (wanted sought : Sought) (from at : ℕ) (seeking : Seeking first wanted from now sought at) where
    abbrev Whole : Result Header (PathFault F) → S → Type 0
    Whole r end = Fetched meaning moves d first (find start place wanted from) r end

    pub seeking-ends : at ≡ 0 → Whole (Err (Rule place Missing)) now
    seeking-ends none = seeking (Err (Rule place Missing)) now (subst (λ p. Fetched meaning moves d now p (Err (Rule place Missing)) now) (sym (find-ends start place sought at none)) (refl, refl))

    module _ (there : 0 < at) (then : S) where
      abbrev here : Fetches F (PathFault F) Header
      here = put (λ fault. Volume place fault) (header start at)

      abbrev next : Header → Fetches F (PathFault F) Header
      next h = cond (is_dots h.name) (find start place sought h.next) (cond (is_it sought h.name) (give h) (find start place (behind sought) h.next))

      step : (r : Result Header (PathFault F)) (end : S) → Fetched meaning moves d now (after here next) r end → Whole r end
      step r end ran = seeking r end (subst (λ p. Fetched meaning moves d now p r end) (sym (find-goes start place sought at (λ e. absurd (omega arith)))) ran)

      pub seeking-fault : (e : PathFault F) → Fetched meaning moves d now here (Err e) then → Whole (Err e) then
      seeking-fault e ran = step (Err e) then (ran-off meaning moves d next here now then e ran)

      module _ (h : Header) (ran : Fetched meaning moves d now here (Ok h) then) where
        on : (r : Result Header (PathFault F)) (end : S) → Fetched meaning moves d then (next h) r end → Whole r end
        on r end rest = step r end (ran-on meaning moves d next here now then end h r ran rest)

        pub seeking-found : is_dots h.name ≡ false → is_it sought h.name ≡ true → Whole (Ok h) then
        seeking-found plain it = on (Ok h) then (rw (plain, it) (refl, refl))

        pub seeking-dots : is_dots h.name ≡ true → Seeking first wanted from then sought h.next
        seeking-dots is r end rest = on r end (rw is rest)

        pub seeking-next : is_dots h.name ≡ false → is_it sought h.name ≡ false → (later : Sought) → later ≡ behind sought → Seeking first wanted from then later h.next
        seeking-next plain not_it later is = subst (λ x. Seeking first wanted from then x h.next) (sym is) (λ r end rest. on r end (rw (plain, not_it) rest))
