-- A file that is opened ends within the volume.
use Rattle.std.proofs.Common.{ℕ, zero, suc, ◌+◌, ◌≤◌, Bool, true, false, cond, not, ltb, List, [], ◌∷◌, Result, Ok, Err, ◌==◌}
use Rattle.std.proofs.lemmas.Bool.{ltb-false}
use Rattle.volume.specs.declared.types.Start.{Start}
use Rattle.volume.specs.declared.types.Kind.{Kind}
use Rattle.volume.specs.declared.types.Kind.TheVariants.{HardLink, Directory, File, SymbolicLink, BlockDevice, CharDevice, Socket, Pipe}
use Rattle.volume.specs.declared.fault.VolumeRule.TheVariants.{Info, Data, Links, LinkedDirectory}
use Rattle.volume.specs.declared.fault.PathRule.TheVariants.{NotFile}
use Rattle.volume.specs.declared.fault.PathFault.{PathFault}
use Rattle.volume.specs.declared.fault.PathFault.TheVariants.{Rule, Volume}
use Rattle.volume.specs.Fetches.{Fetches, give, refuse, after, put}
use Rattle.volume.specs.Words.{is_16}
use Rattle.volume.specs.Header.{Header, header}
use Rattle.volume.specs.Walk.{by_name, find}
use Rattle.volume.specs.Use.{Extent, broken, enter, file, follow}
use Rattle.volume.specs.Paths.{Part, sound_parts, file_at, open_path}
use Rattle.volume.proofs.Gives.{Gives, gives-after, gives-cond, gives-any}
use Rattle.layers.proofs.Tests.{tested}

module _ (F : Type 0) (s : Start) where
  abbrev Inside : Fetches F (PathFault F) Extent → Type 0
  Inside program = Gives {F = F} (λ x. x.start + x.size ≤ s.size) program

  behind : {X : Type 0} (p : Fetches F (PathFault F) X) (next : X → Fetches F (PathFault F) Extent) → ((x : X) → Inside (next x)) → Inside (after p next)
  behind p next then = gives-after (λ x. Unit {0}) (λ x. x.start + x.size ≤ s.size) p next (gives-any p) (λ x any. then x)

  file_inside : (place : ℕ) (h : Header) → Inside (file s place h)
  file_inside place h =
      let end = h.at + h.length + h.entry.size in
      let made : Fetches F (PathFault F) Extent = give (record { start = h.at + h.length; size = h.entry.size }) in
      gives-cond (λ x. x.start + x.size ≤ s.size) (not (h.info == 0)) (refuse (broken place h Info)) (cond (ltb s.size end) (refuse (broken place h Data)) made) tt
      (tested (ltb s.size end) (λ b. Inside (cond b (refuse (broken place h Data)) made)) (λ is. tt) (λ is. ltb-false s.size end is))

  by_kind : (kind : Kind) (a b c d : Fetches F (PathFault F) Extent) → Inside a → Inside b → Inside c → Inside d → Inside (elim kind [ File ↦ a | HardLink ↦ b | Directory ↦ c | _ ↦ d ])
  by_kind HardLink a b c d one two three four = two
  by_kind Directory a b c d one two three four = three
  by_kind File a b c d one two three four = one
  by_kind SymbolicLink a b c d one two three four = four
  by_kind BlockDevice a b c d one two three four = four
  by_kind CharDevice a b c d one two three four = four
  by_kind Socket a b c d one two three four = four
  by_kind Pipe a b c d one two three four = four

  directory_inside : (place : ℕ) (linked : Bool) (h : Header) → Inside (cond linked (refuse (broken place h LinkedDirectory)) (refuse (Rule place NotFile)))
  directory_inside place true h = tt
  directory_inside place false h = tt

  follow_inside : (left place : ℕ) (linked : Bool) (h : Header) → Inside (follow s place left linked h)
  unfolding follow
  follow_inside zero place linked h =
      let ninth : Fetches F (PathFault F) Extent = cond (is_16 h.info) (refuse (broken place h Links)) (refuse (broken place h Info)) in
      by_kind h.entry.kind (file s place h) ninth (cond linked (refuse (broken place h LinkedDirectory)) (refuse (Rule place NotFile))) (refuse (Rule place NotFile))
      (file_inside place h) (gives-cond (λ x. x.start + x.size ≤ s.size) (is_16 h.info) (refuse (broken place h Links)) (refuse (broken place h Info)) tt tt) (directory_inside place linked h) tt
  follow_inside (suc left) place linked h =
      let link = after (put (λ fault. Volume place fault) (header s h.info)) (follow s place left true) in
      by_kind h.entry.kind (file s place h) (cond (is_16 h.info) link (refuse (broken place h Info))) (cond linked (refuse (broken place h LinkedDirectory)) (refuse (Rule place NotFile))) (refuse (Rule place NotFile))
      (file_inside place h)
      (gives-cond (λ x. x.start + x.size ≤ s.size) (is_16 h.info) link (refuse (broken place h Info)) (behind (put (λ fault. Volume place fault) (header s h.info)) (follow s place left true) (λ t. follow_inside left place true t)) tt)
      (directory_inside place linked h) tt

  at_inside : (parts : List Part) (at : ℕ) → Inside (file_at s parts at)
  unfolding file_at
  at_inside [] at = tt
  at_inside (part ∷ []) at = behind (find s part.at (by_name part.name) at) (follow s part.at 8 false) (λ h. follow_inside 8 part.at false h)
  at_inside (part ∷ next ∷ rest) at =
      behind (find s part.at (by_name part.name) at) (λ h. after (enter part.at h) (λ list. file_at s (next ∷ rest) list))
      (λ h. behind (enter part.at h) (λ list. file_at s (next ∷ rest) list) (λ list. at_inside (next ∷ rest) list))

  by_parts : (r : Result (List Part) (PathFault F)) → Inside (elim r [ Err fault ↦ refuse fault | Ok parts ↦ file_at s parts s.root ])
  by_parts (Err fault) = tt
  by_parts (Ok parts) = at_inside parts s.root

  pub open_inside : (path : List ℕ) → Inside (open_path s path)
  unfolding open_path
  open_inside path = by_parts (sound_parts path)
