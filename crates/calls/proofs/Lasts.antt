-- The last exchange, and the fault that names its block, through what a program comes to.
use Rattle.std.proofs.Common.{◌≡◌, ℕ, List, [], ◌∷◌, ◌++◌, Option, None, Some, IfSome, IfErr, Result, Ok, Err, sym, subst, inr}
use Rattle.std.proofs.lemmas.List.{append-nil}
use Rattle.device.specs.Answer.{Answer}
use Rattle.device.specs.Program.{Exchange}
use Rattle.tree.specs.Shape.{Shape}
use Rattle.layers.specs.declared.fault.Place.{Place}
use Rattle.layers.specs.declared.fault.StorageFault.{StorageFault}
use Rattle.layers.specs.declared.fault.StorageFault.TheVariants.{Label, NoBlock, Refused, Mismatch}
use Rattle.layers.specs.Fault.{place_of}
use Rattle.layers.specs.Judged.{IsFor, Last}
use Rattle.layers.specs.Laws.{NamesLast}
use Rattle.layers.proofs.Stopping.{if_each}
use Rattle.calls.specs.declared.refusal.Refusal.{Refusal}
use Rattle.calls.specs.Refusal.{holds}
use Rattle.calls.specs.Calls.{Call, Accepted, reply_of}
use Rattle.calls.specs.Image.{blamed, blamed_if, named}

-- what is last is last behind more
last-behind : {X : Type 0} (P : X → Type 0) (xs ys : List X) → Last P ys → Last P (xs ++ ys)
last-behind P [] ys last = last
last-behind P (x ∷ xs) ys last = inr (last-behind P xs ys last)

module _ {R : Type 0} (s : Shape) where
  abbrev AtLast : List (Exchange R) → Place → Type 0
  AtLast xs place = Last (IsFor s place) xs

  -- a fault names the block of the last exchange
  abbrev Names : StorageFault R → List (Exchange R) → Type 0
  Names fault xs = IfSome (place_of fault) (AtLast xs)

  names_behind : (fault : StorageFault R) (xs ys : List (Exchange R)) → Names fault ys → Names fault (xs ++ ys)
  names_behind fault xs ys names = if_each (AtLast ys) (AtLast (xs ++ ys)) (place_of fault) (λ place last. last-behind (IsFor s place) xs ys last) names

  pub last_behind : (answer : Answer (StorageFault R)) (xs ys : List (Exchange R)) → NamesLast s answer ys → NamesLast s answer (xs ++ ys)
  last_behind (Ok bytes) xs ys names = tt
  last_behind (Err fault) xs ys names = names_behind fault xs ys names

  -- bytes that are put into others
  pub last_put : (f : List ℕ → List ℕ) (first answer : Answer (StorageFault R)) (xs : List (Exchange R)) → answer ≡ elim first [ Ok b ↦ Ok (f b) | Err fault ↦ Err fault ] → NamesLast s first xs → NamesLast s answer xs
  last_put f (Ok b) answer xs is names = subst (λ x. NamesLast s x xs) (sym is) names
  last_put f (Err fault) answer xs is names = subst (λ x. NamesLast s x xs) (sym is) names

  -- so does the fault that a refusal holds
  abbrev pub HoldsLast : {E X : Type 0} → (E → Option (StorageFault R)) → Result X E → List (Exchange R) → Type 0
  HoldsLast holds r xs = IfErr r (λ e. IfSome (holds e) (λ fault. Names fault xs))

  pub holds_none : {E X : Type 0} (holds : E → Option (StorageFault R)) (e : E) (r : Result X E) (xs : List (Exchange R)) → r ≡ Err e → holds e ≡ None → HoldsLast holds r xs
  holds_none {X = X} holds e r xs is none = subst (λ (x : Result X _). HoldsLast holds x xs) (sym is) (subst (λ o. IfSome o (λ fault. Names fault xs)) (sym none) tt)

  pub holds_some : {E X : Type 0} (holds : E → Option (StorageFault R)) (e : E) (fault : StorageFault R) (r : Result X E) (xs : List (Exchange R)) → r ≡ Err e → holds e ≡ Some fault → NamesLast s (Err fault) xs → HoldsLast holds r (xs ++ [])
  holds_some {X = X} holds e fault r xs is some names =
      subst (λ (x : Result X _). HoldsLast holds x (xs ++ [])) (sym is)
      (subst (λ o. IfSome o (λ f. Names f (xs ++ []))) (sym some) (subst (Names fault) (sym (append-nil xs)) names))

  pub holds_behind : {E X : Type 0} (holds : E → Option (StorageFault R)) (r : Result X E) (xs ys : List (Exchange R)) → HoldsLast holds r ys → HoldsLast holds r (xs ++ ys)
  holds_behind holds (Ok x) xs ys held = tt
  holds_behind holds (Err e) xs ys held = if_each (λ fault. Names fault ys) (λ fault. Names fault (xs ++ ys)) (holds e) (λ fault names. names_behind fault xs ys names) held

  -- and a reply that is a storage fault
  blamed_last : (fault : StorageFault R) (xs : List (Exchange R)) → Names fault xs → IfSome (blamed fault) (AtLast xs)
  blamed_last Label xs names = tt
  blamed_last (NoBlock block) xs names = tt
  blamed_last (Refused place refusal) xs names = names
  blamed_last (Mismatch place) xs names = names

  held_last : (o : Option (StorageFault R)) (xs : List (Exchange R)) → IfSome o (λ fault. Names fault xs) → IfSome (blamed_if o) (AtLast xs)
  held_last None xs names = tt
  held_last (Some fault) xs names = blamed_last fault xs names

  pub named_last : (call : Call) (r : Result Accepted (Refusal (StorageFault R))) (xs : List (Exchange R)) → HoldsLast holds r xs → IfSome (named (reply_of call r).answer) (AtLast xs)
  named_last call (Ok accepted) xs held = tt
  named_last call (Err e) xs held = held_last (holds e) xs held
