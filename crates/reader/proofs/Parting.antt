-- Parting a path at its slashes, one component at a time.
use Rattle.std.proofs.Common.{◌≡◌, ℕ, suc, ◌+◌, ◌-◌, ◌≤◌, ltb, Option, None, Some, MatchOption, Bool, true, false, cond, not, eqb, List, [], ◌∷◌, ◌++◌, length, take, drop, refl, sym, ap, ap₂, ◌∙◌, arith, append_assoc}
use Rattle.std.proofs.lemmas.Bool.{ltb-false, ne_eqb}
use Rattle.std.proofs.lemmas.List.{append-nil, length-append, length-drop, drop-drop}
use Rattle.std.proofs.lemmas.List.Sums.{prefix_len-le-length}
use Rattle.std.specs.List.{position, position_or_len}
use Rattle.volume.specs.Paths.{Part, parts_from}
use Rattle.reader.specs.declared.component.Component.{Component}

abbrev pub is_slash : ℕ → Bool
is_slash b = eqb b 0x2f

-- where the first slash is, or that there is none
module _ (bytes : List ℕ) where
  abbrev before : ℕ
  before = position_or_len is_slash bytes

  low : before ≤ length bytes
  low = prefix_len-le-length (λ b. not (is_slash b)) bytes

  by_test : (t : Bool) → ltb before (length bytes) ≡ t → (o : Option ℕ) → o ≡ cond t (Some before) None → MatchOption o (before ≡ length bytes) (λ n. n ≡ before)
  by_test true is (Some n) same = cc
  by_test true is None same = absurd cc
  by_test false is (Some n) same = absurd cc
  by_test false is None same = let high = ltb-false before (length bytes) is in omega (arith, low)

  pub before_slash : (o : Option ℕ) → o ≡ position is_slash bytes → MatchOption o (before ≡ length bytes) (λ n. n ≡ before)
  before_slash o same = by_test (ltb before (length bytes)) refl o same

abbrev parted : ℕ → List ℕ → ℕ → List ℕ → List Part
parted at name n bytes = record { at = at; name = name ++ take n bytes } ∷ cond (eqb n (length bytes)) [] (parts_from (at + (length name + n) + 1) [] (drop (n + 1) bytes))

one_more : (n k : ℕ) → eqb n k ≡ eqb (suc n) (suc k)
one_more n k = grind arith

-- a byte that is no slash
goes_on : (at : ℕ) (name : List ℕ) (b : ℕ) (bytes : List ℕ) (n : ℕ) → parted at (name ++ b ∷ []) n bytes ≡ parted at name (suc n) (b ∷ bytes)
goes_on at name b bytes n =
    let front : (name ++ b ∷ []) ++ take n bytes ≡ name ++ take (suc n) (b ∷ bytes) = append_assoc name (b ∷ []) (take n bytes) in
    let test : eqb n (length bytes) ≡ eqb (suc n) (length (b ∷ bytes)) = one_more n (length bytes) in
    let place : at + (length (name ++ b ∷ []) + n) + 1 ≡ at + (length name + suc n) + 1 = omega (arith, length-append name (b ∷ [])) in
    let twice : suc (suc n) ≡ suc n + 1 = omega arith in
    let once : n + 1 ≡ suc n = omega arith in
    let rest : drop (n + 1) bytes ≡ drop (suc n + 1) (b ∷ bytes) = ap (λ k. drop k bytes) once ∙ ap (λ k. drop k (b ∷ bytes)) twice in
    ap₂ (λ x xs. record { at = at; name = x } ∷ xs) front (ap₂ (λ t xs. cond t [] xs) test (ap₂ (λ k ys. parts_from k [] ys) place rest))

-- a slash
stops : (at : ℕ) (name : List ℕ) (b : ℕ) (bytes : List ℕ) → (record { at = at; name = name } ∷ parts_from (at + length name + 1) [] bytes) ≡ parted at name 0 (b ∷ bytes)
stops at name b bytes =
    let front : name ≡ name ++ take 0 (b ∷ bytes) = sym (append-nil name) in
    let place : at + length name + 1 ≡ at + (length name + 0) + 1 = omega arith in
    let test : false ≡ eqb 0 (length (b ∷ bytes)) = sym (ne_eqb 0 (length (b ∷ bytes)) (λ e. absurd (omega arith))) in
    ap₂ (λ x xs. record { at = at; name = x } ∷ xs) front (ap₂ (λ t k. cond t [] (parts_from k [] bytes)) test place)

by_slash : (at : ℕ) (name : List ℕ) (b : ℕ) (bytes : List ℕ) (t : Bool) → is_slash b ≡ t → parts_from at (name ++ b ∷ []) bytes ≡ parted at (name ++ b ∷ []) (position_or_len is_slash bytes) bytes
    → parts_from at name (b ∷ bytes) ≡ parted at name (position_or_len is_slash (b ∷ bytes)) (b ∷ bytes)
by_slash at name b bytes true is hyp = rw is (stops at name b bytes)
by_slash at name b bytes false is hyp =
    let n = position_or_len is_slash bytes in
    let more : suc n ≡ 1 + n = omega arith in
    rw is (hyp ∙ goes_on at name b bytes n ∙ ap (λ k. parted at name k (b ∷ bytes)) more)

pub parts-at : (at : ℕ) (name bytes : List ℕ) → parts_from at name bytes ≡ parted at name (position_or_len is_slash bytes) bytes
parts-at at name [] = ap (λ n. record { at = at; name = n } ∷ []) (sym (append-nil name))
parts-at at name (b ∷ bytes) = by_slash at name b bytes (is_slash b) refl (parts-at at (name ++ b ∷ []) bytes)

-- the component that begins at an offset of a path, and those behind it
pub parts_from_at : (path : List ℕ) (at n : ℕ) → at ≤ length path → n ≡ position_or_len is_slash (drop at path)
    → (record { at = at; name = take (at + n - at) (drop at path) } ∷ cond (eqb (at + n) (length path)) [] (parts_from (at + n + 1) [] (drop (at + n + 1) path))) ≡ parts_from at [] (drop at path)
parts_from_at path at n inside is =
    let rest = drop at path in
    let long = length-drop at path in
    let short : at + n - at ≡ n = omega arith in
    let test : eqb (at + n) (length path) ≡ eqb n (length rest) = grind arith in
    let behind : drop (at + n + 1) path ≡ drop (n + 1) rest = (let sum : at + n + 1 ≡ at + (n + 1) = omega arith in ap (λ k. drop k path) sum) ∙ sym (drop-drop (n + 1) at path) in
    let place : at + n + 1 ≡ at + (length {A = ℕ} [] + n) + 1 = omega arith in
    ap₂ (λ x xs. record { at = at; name = x } ∷ xs) (ap (λ k. take k rest) short) (ap₂ (λ t xs. cond t [] xs) test (ap₂ (λ k ys. parts_from k [] ys) place behind))
    ∙ sym (parts-at at [] rest ∙ ap (λ k. parted at [] k rest) (sym is))

-- how many bytes of the path are left behind a component, and one more
abbrev pub left : Option Component → ℕ
left None = 0
left (Some c) = suc (length c.path.now - c.end)
