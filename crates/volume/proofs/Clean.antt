-- Programs of fetches that stay within the image, and that hold a fault of the device exactly where a fetch is refused.
use Rattle.std.proofs.Common.{◌≡◌, ℕ, ◌+◌, ◌≤◌, Bool, true, false, cond, List, Option, None, Some, Result, Ok, Err, refl, ◌∙◌}
use Rattle.volume.specs.Fetches.{Fetches, give, refuse, fetch, after, put, by_image}

abbrev pub Clean : {F E X : Type 0} → (E → Option F) → ℕ → Fetches F E X → Type 0
Clean holds limit (give x) = Unit {0}
Clean holds limit (refuse e) = holds e ≡ None
Clean holds limit (fetch from n fault rest) = (from + n ≤ limit) × ((f : _) → holds (fault f) ≡ Some f) × ((bytes : List ℕ) → Clean holds limit (rest bytes))

module _ {F E X : Type 0} (holds : E → Option F) (limit : ℕ) where
  pub clean-after : {Y : Type 0} (p : Fetches F E X) (next : X → Fetches F E Y) → Clean holds limit p → ((x : X) → Clean holds limit (next x)) → Clean holds limit (after p next)
  clean-after (give x) next clean then = then x
  clean-after (refuse e) next clean then = clean
  clean-after (fetch from n fault rest) next clean then = (clean.0, clean.1, λ bytes. clean-after (rest bytes) next (clean.2 bytes) then)

  pub clean-put : {D : Type 0} (within : E → D) (outer : D → Option F) → ((e : E) → outer (within e) ≡ holds e) → (p : Fetches F E X) → Clean holds limit p → Clean outer limit (put within p)
  clean-put within outer same (give x) clean = tt
  clean-put within outer same (refuse e) clean = same e ∙ clean
  clean-put within outer same (fetch from n fault rest) clean = (clean.0, λ f. same (fault f) ∙ clean.1 f, λ bytes. clean-put within outer same (rest bytes) (clean.2 bytes))

  pub clean-cond : (b : Bool) (p q : Fetches F E X) → (b ≡ true → Clean holds limit p) → (b ≡ false → Clean holds limit q) → Clean holds limit (cond b p q)
  clean-cond true p q yes' no' = yes' refl
  clean-cond false p q yes' no' = no' refl

  -- by an image no fault of a device comes up
  pub clean-image : (image : List ℕ) (p : Fetches F E X) → Clean holds limit p → (e : E) → by_image image p ≡ Err e → holds e ≡ None
  clean-image image (give x) clean e is = let good : Result X E = Ok x in let bad : Result X E = Err e in let same : good ≡ bad = is in cc
  clean-image image (refuse x) clean e is = let one : Result X E = Err x in let other : Result X E = Err e in let same : one ≡ other = is in let f : x ≡ e = cc in cc
  clean-image image (fetch from n fault rest) clean e is = clean-image image (rest _) (clean.2 _) e is
