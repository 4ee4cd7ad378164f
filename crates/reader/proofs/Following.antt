-- Following links, by the kind of a header.
use Rattle.std.proofs.Common.{◌≡◌, ℕ, zero, suc, ◌+◌, ◌-◌, ◌<◌, Bool, true, cond, ltb, Result, Ok, Err, refl, sym, ap, subst, arith}
use Rattle.std.proofs.lemmas.Bool.{lt-ltb}
use Rattle.device.specs.declared.question.Question.{Question}
use Rattle.device.specs.Program.{Meaning}
use Rattle.volume.specs.declared.types.Start.{Start}
use Rattle.volume.specs.declared.types.Kind.{Kind}
use Rattle.volume.specs.declared.types.Kind.TheVariants.{HardLink, Directory, File}
use Rattle.volume.specs.declared.fault.VolumeRule.TheVariants.{Info, Links, LinkedDirectory}
use Rattle.volume.specs.declared.fault.PathRule.TheVariants.{NotFile}
use Rattle.volume.specs.declared.fault.PathFault.{PathFault}
use Rattle.volume.specs.declared.fault.PathFault.TheVariants.{Rule, Volume}
use Rattle.volume.specs.Words.{is_16}
use Rattle.volume.specs.Fetches.{Fetches, refuse, after, put}
use Rattle.volume.specs.Header.{Header, header}
use Rattle.volume.specs.Use.{Extent, broken, file, follow}
use Rattle.reader.specs.Fetched.{Fetched}
use Rattle.reader.specs.Header.{leads_to}
use Rattle.reader.proofs.Running.{ran-on, ran-off}

-- where a good link leads to
abbrev pub link : {F : Type 0} → Start → ℕ → ℕ → Header → Fetches F (PathFault F) Extent
link start place zero h = refuse (broken place h Links)
link start place (suc left) h = after (put (λ fault. Volume place fault) (header start h.info)) (follow start place left true)

abbrev pub by_kind : {A : Type 0} → Kind → A → A → A → A → A
by_kind kind a b c e = elim kind [ File ↦ a | HardLink ↦ b | Directory ↦ c | _ ↦ e ]

-- one text for both cases of the count
pub follow_is : {F : Type 0} (start : Start) (place left : ℕ) (linked : Bool) (h : Header)
    → follow {F = F} start place left linked h ≡ by_kind h.entry.kind (file start place h) (cond (is_16 h.info) (link start place left h) (refuse (broken place h Info)))
    (cond linked (refuse (broken place h LinkedDirectory)) (refuse (Rule place NotFile))) (refuse (Rule place NotFile))
unfolding follow
follow_is start place zero linked h = refl
follow_is start place (suc left) linked h = refl

module _ {S F : Type 0} (meaning : S → Meaning F) (moves : S → Question → S → Type 0) (d : ℕ) (start : Start) (place links : ℕ) (h : Header) (is : h.entry.kind ≡ HardLink) (good : is_16 h.info ≡ true) (more : links < 8) (s u : S) where
  abbrev target : Fetches F (PathFault F) Header
  target = put (λ fault. Volume place fault) (header start h.info)

  -- one link more
  on : leads_to start place links h ≡ after target (leads_to start place (links + 1))
  on =
      let left : 8 - links ≡ suc (8 - (links + 1)) = omega arith in
      let linked : ltb 0 (links + 1) ≡ true = lt-ltb 0 (links + 1) (omega arith) in
      rw (follow_is start place (8 - links) (ltb 0 links) h, is, good, left) (ap (λ b. after target (follow start place (8 - (links + 1)) b)) (sym linked))

  pub follow-ends : (e : PathFault F) → Fetched meaning moves d s target (Err e) u → Fetched meaning moves d s (leads_to start place links h) (Err e) u
  follow-ends e ran = subst (λ p. Fetched meaning moves d s p (Err e) u) (sym on) (ran-off meaning moves d (leads_to start place (links + 1)) target s u e ran)

  pub follow-on : (next : Header) (r : Result Extent (PathFault F)) (t : S) → Fetched meaning moves d s target (Ok next) u → Fetched meaning moves d u (leads_to start place (links + 1) next) r t → Fetched meaning moves d s (leads_to start place links h) r t
  follow-on next r t first second = subst (λ p. Fetched meaning moves d s p r t) (sym on) (ran-on meaning moves d (leads_to start place (links + 1)) target s u t next r first second)
