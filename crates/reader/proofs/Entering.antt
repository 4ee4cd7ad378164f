-- Going down a path, component by component.
use Rattle.std.proofs.Common.{◌≡◌, ℕ, false, List, [], ◌∷◌, Result, Ok, Err, refl, sym, subst}
use Rattle.device.specs.declared.question.Question.{Question}
use Rattle.device.specs.Program.{Meaning}
use Rattle.volume.specs.declared.types.Start.{Start}
use Rattle.volume.specs.declared.fault.PathFault.{PathFault}
use Rattle.volume.specs.Fetches.{Fetches, after, settled}
use Rattle.volume.specs.Header.{Header}
use Rattle.volume.specs.Walk.{by_name, find}
use Rattle.volume.specs.Use.{Extent, enter, follow}
use Rattle.volume.specs.Paths.{Part, enter_all, file_at}
use Rattle.reader.specs.Fetched.{Fetched}
use Rattle.reader.proofs.Running.{ran-on, ran-off}

-- the header of a component
abbrev pub entry : {F : Type 0} → Start → Part → ℕ → Fetches F (PathFault F) Header
entry start part list = find start part.at (by_name part.name) list

-- what follows it: a directory's list is entered, and a path's last one leads to a file
abbrev pub on_entered : {F : Type 0} → Start → Part → List Part → Header → Fetches F (PathFault F) ℕ
on_entered start part rest h = after (enter part.at h) (enter_all start rest)

abbrev pub on_reached : {F : Type 0} → Start → Part → List Part → Header → Fetches F (PathFault F) Extent
on_reached start part [] h = follow start part.at 8 false h
on_reached start part (next ∷ more) h = after (enter part.at h) (file_at start (next ∷ more))

pub enter_is : {F : Type 0} (start : Start) (part : Part) (rest : List Part) (list : ℕ) → enter_all {F = F} start (part ∷ rest) list ≡ after (entry start part list) (on_entered start part rest)
unfolding enter_all
enter_is start part rest list = refl

pub file_is : {F : Type 0} (start : Start) (part : Part) (rest : List Part) (list : ℕ) → file_at {F = F} start (part ∷ rest) list ≡ after (entry start part list) (on_reached start part rest)
unfolding file_at
file_is start part [] list = refl
file_is start part (next ∷ more) list = refl

module _ {S F X : Type 0} (meaning : S → Meaning F) (moves : S → Question → S → Type 0) (d : ℕ) (start : Start) (rules : Start → List Part → ℕ → Fetches F (PathFault F) X) where
  -- what is left of a path: whatever run it has from here, the whole has from the start
  abbrev pub Left : S → List Part → S → List Part → ℕ → Type 0
  Left first all now parts list =
      (r : Result X (PathFault F)) (end : S) → Fetched meaning moves d now (rules start parts list) r end → Fetched meaning moves d first (rules start all start.root) r end

  module _ (first : S) (all : List Part) (now then : S) (part : Part) (rest : List Part) (list : ℕ) (on : Header → Fetches F (PathFault F) X) (is : rules start (part ∷ rest) list ≡ after (entry start part list) on) (left : Left first all now (part ∷ rest) list) where
    abbrev Whole : Result X (PathFault F) → S → Type 0
    Whole r end = Fetched meaning moves d first (rules start all start.root) r end

    pub left-lost : (e : PathFault F) → Fetched meaning moves d now (entry start part list) (Err e) then → Whole (Err e) then
    left-lost e ran = left (Err e) then (subst (λ p. Fetched meaning moves d now p (Err e) then) (sym is) (ran-off meaning moves d on (entry start part list) now then e ran))

    module _ (h : Header) (ran : Fetched meaning moves d now (entry start part list) (Ok h) then) where
      pub left-found : (r : Result X (PathFault F)) (end : S) → Fetched meaning moves d then (on h) r end → Whole r end
      left-found r end more = left r end (subst (λ p. Fetched meaning moves d now p r end) (sym is) (ran-on meaning moves d on (entry start part list) now then end h r ran more))

      -- a directory
      module _ (next : List Part) (goes : on h ≡ after (enter part.at h) (rules start next)) where
        inner : (e : Result ℕ (PathFault F)) → settled e ≡ enter part.at h → (r : Result X (PathFault F)) (end : S) → Fetched meaning moves d then (after (settled e) (rules start next)) r end → Whole r end
        inner e same r end more = left-found r end (subst (λ p. Fetched meaning moves d then p r end) (sym goes) (subst (λ p. Fetched meaning moves d then (after p (rules start next)) r end) same more))

        pub left-stops : (e : PathFault F) → settled (Err e) ≡ enter part.at h → Whole (Err e) then
        left-stops e bad = inner (Err e) bad (Err e) then (refl, refl)

        pub left-goes : (at : ℕ) → settled (Ok at) ≡ enter {F = F} part.at h → Left first all then next at
        left-goes at good r end more = inner (Ok at) good r end more
