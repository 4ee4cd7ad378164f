-- What holds of every value that a program of fetches may give.
use Rattle.std.proofs.Common.{◌≡◌, ℕ, Bool, true, false, cond, List, Result, Ok, Err, refl, subst}
use Rattle.volume.specs.Fetches.{Fetches, give, refuse, fetch, after, put, settled, by_image}

abbrev pub Gives : {F E X : Type 0} → (X → Type 0) → Fetches F E X → Type 0
Gives P (give x) = P x
Gives P (refuse e) = Unit {0}
Gives P (fetch from n fault rest) = (bytes : List ℕ) → Gives P (rest bytes)

module _ {F E X : Type 0} (P : X → Type 0) where
  pub gives-after : {Y : Type 0} (Q : Y → Type 0) (p : Fetches F E X) (next : X → Fetches F E Y) → Gives P p → ((x : X) → P x → Gives Q (next x)) → Gives Q (after p next)
  gives-after Q (give x) next gives then = then x gives
  gives-after Q (refuse e) next gives then = tt
  gives-after Q (fetch from n fault rest) next gives then = λ bytes. gives-after Q (rest bytes) next (gives bytes) then

  pub gives-put : {D : Type 0} (within : E → D) (p : Fetches F E X) → Gives P p → Gives P (put within p)
  gives-put within (give x) gives = gives
  gives-put within (refuse e) gives = tt
  gives-put within (fetch from n fault rest) gives = λ bytes. gives-put within (rest bytes) (gives bytes)

  pub gives-cond : (b : Bool) (p q : Fetches F E X) → Gives P p → Gives P q → Gives P (cond b p q)
  gives-cond true p q one other = one
  gives-cond false p q one other = other

  pub gives-image : (image : List ℕ) (p : Fetches F E X) → Gives P p → (x : X) → by_image image p ≡ Ok x → P x
  gives-image image (give y) gives x is = let one : Result X E = Ok y in let other : Result X E = Ok x in let e : one ≡ other = is in subst P (let same : y ≡ x = cc in same) gives
  gives-image image (refuse e) gives x is = let bad : Result X E = Err e in let good : Result X E = Ok x in let same : bad ≡ good = is in cc
  gives-image image (fetch from n fault rest) gives x is = gives-image image (rest _) (gives _) x is

-- nothing
pub gives-any : {F E X : Type 0} (p : Fetches F E X) → Gives (λ x. Unit {0}) p
gives-any (give x) = tt
gives-any (refuse e) = tt
gives-any (fetch from n fault rest) = λ bytes. gives-any (rest bytes)

pub gives-settled : (F : Type 0) {E X : Type 0} (P : X → Type 0) (r : Result X E) → ((x : X) → r ≡ Ok x → P x) → Gives {F = F} P (settled r)
gives-settled F P (Ok x) each = each x refl
gives-settled F P (Err e) each = tt
