-- What equations between answers, and between blocks, say.
use Rattle.std.proofs.Common.{◌≡◌, ℕ, arith, true, false, List, [], ◌∷◌, Option, Some, None, Ok, Err}
use Rattle.device.specs.Answer.{Answer}

pub some_is : {x y : List ℕ} → Some x ≡ Some y → x ≡ y
some_is e = cc

pub none_is : {y : List ℕ} → ◌≡◌ {A = Option (List ℕ)} None (Some y) → ⊥
none_is e = cc

pub ok_is : {x y : List ℕ} → ◌≡◌ {A = Answer ℕ} (Ok x) (Ok y) → x ≡ y
ok_is e = cc

pub err_is : {y : List ℕ} → ◌≡◌ {A = Answer ℕ} (Err 7) (Ok y) → ⊥
err_is e = cc

pub not_err : {x : List ℕ} {n : ℕ} → ◌≡◌ {A = Answer ℕ} (Ok x) (Err n) → ⊥
not_err e = cc

pub five_is_not_seven : ◌≡◌ {A = List ℕ} (5 ∷ []) (7 ∷ []) → ⊥
five_is_not_seven e = cc

pub two_is_not_one : ◌≡◌ {A = ℕ} 2 1 → ⊥
two_is_not_one e = cc

pub not_96 : ◌≡◌ {A = ℕ} 96 80 → ⊥
not_96 e = absurd (omega arith)

pub false_is_not_true : false ≡ true → ⊥
false_is_not_true e = cc

pub none_is_some : {A : Type 0} {x : A} → ◌≡◌ {A = Option A} None (Some x) → ⊥
none_is_some e = cc

pub some_is_none : {A : Type 0} {x : A} → ◌≡◌ {A = Option A} (Some x) None → ⊥
some_is_none e = cc

pub more_than_none : {A : Type 0} {x : A} {xs : List A} → x ∷ xs ≡ [] → ⊥
more_than_none e = cc

pub heads : {A : Type 0} {x y : A} {xs ys : List A} → x ∷ xs ≡ y ∷ ys → x ≡ y
heads e = cc

pub tails : {A : Type 0} {x y : A} {xs ys : List A} → x ∷ xs ≡ y ∷ ys → xs ≡ ys
tails e = cc

pub six_is_not_five : ◌≡◌ {A = List ℕ} (6 ∷ []) (5 ∷ []) → ⊥
six_is_not_five e = cc

pub eight_is_not_seven : ◌≡◌ {A = List ℕ} (8 ∷ []) (7 ∷ []) → ⊥
eight_is_not_seven e = cc

pub one_is_not_0 : ◌≡◌ {A = ℕ} 1 0 → ⊥
one_is_not_0 e = cc
