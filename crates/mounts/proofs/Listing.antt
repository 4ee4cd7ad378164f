-- The events of begin and list.
use Rattle.std.proofs.Common.{◌≡◌, ◌∙◌, ℕ, List, [], ◌∷◌, Result, Ok, Err, ap, inr, map}
use Rattle.layers.specs.declared.fault.StorageFault.{StorageFault}
use Rattle.volume.specs.declared.types.Start.{Start}
use Rattle.volume.specs.declared.types.Entry.{Entry}
use Rattle.calls.specs.declared.refusal.Refusal.{Refusal}
use Rattle.calls.specs.Calls.{list, listed}
use Rattle.calls.specs.Law.{Event}
use Rattle.mount.specs.Mount.{replied}
use Rattle.mounts.specs.Using.{IsListing, begun, said}

both : {R : Type 0} (x y : Event R) (a b : _) → said x ≡ a → said y ≡ b → map said (x ∷ y ∷ []) ≡ a ∷ b ∷ []
both x y a b is_x is_y = ap (λ v. v ∷ said y ∷ []) is_x ∙ ap (λ v. a ∷ v ∷ []) is_y

-- an accepted begin, and list whatever it answers
pub listing : {R : Type 0} (x y : Event R) (at : Start) (n : ℕ) (r : Result Entry (Refusal (StorageFault R))) (buffer : List ℕ)
    → said x ≡ begun at → said y ≡ (list [] 0 n, replied listed buffer r) → IsListing (x ∷ y ∷ []) n r buffer
listing x y at n (Ok entry) buffer is_x is_y = (at, both x y _ _ is_x is_y)
listing x y at n (Err why) buffer is_x is_y = inr (at, both x y _ _ is_x is_y)
