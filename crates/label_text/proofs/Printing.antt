-- The lines of a printed text, and the one with each key.
use Rattle.std.proofs.Common.{◌≡◌, ℕ, ◌==◌, ◌||◌, Bool, true, false, not, cond, ltb, List, [], ◌∷◌, ◌++◌, refl, sym, ap, ◌∙◌, codes, arith, append_assoc, Ok}
use Rattle.std.specs.List.{concat, filter_map, list_all}
use Rattle.std.proofs.lemmas.Bool.{and_parts}
use Rattle.std.proofs.lemmas.Bool.Decides.{nat_tests}
use Rattle.label_text.specs.Key.{heading_of}
use Rattle.label_text.specs.Lines.{lines, only, past_blanks, value_in, value_of}
use Rattle.label_text.specs.Printed.{line}
use Rattle.label_text.specs.declared.key.Key.{Key}
use Rattle.label_text.specs.declared.key.Key.TheVariants.{HashType, DataBlocks, DataBlockSize, HashBlockSize, HashAlgorithm, Salt, RootHash}

-- no line feed
abbrev pub is_calm : ℕ → Bool
is_calm c = not (c == 10)

-- no blank and no control byte
abbrev pub is_solid : ℕ → Bool
is_solid c = ltb 32 c

calm : (c : ℕ) → is_solid c ≡ true → is_calm c ≡ true
calm c h = grind (arith, nat_tests)

no_blank : (c : ℕ) → is_solid c ≡ true → (c == 32 || c == 9) ≡ false
no_blank c h = grind (arith, nat_tests)

calm-apart : (c : ℕ) → is_calm c ≡ true → (c == 10) ≡ false
calm-apart c h = grind (arith, nat_tests)

split_at_feed : (xs rest : List ℕ) → list_all is_calm xs ≡ true → lines (xs ++ 10 ∷ rest) ≡ xs ∷ lines rest
split_at_feed [] rest h = refl
split_at_feed (x ∷ xs) rest h =
    let parts = and_parts (is_calm x) (list_all is_calm xs) h in
    rw (calm-apart x parts.0, split_at_feed xs rest parts.1) refl

calm_joined : (xs ys : List ℕ) → list_all is_calm xs ≡ true → list_all is_solid ys ≡ true → list_all is_calm (xs ++ ys) ≡ true
calm_joined [] [] h k = refl
calm_joined [] (y ∷ ys) h k =
    let parts = and_parts (is_solid y) (list_all is_solid ys) k in
    rw (calm y parts.0) (calm_joined [] ys refl parts.1)
calm_joined (x ∷ xs) ys h k =
    let parts = and_parts (is_calm x) (list_all is_calm xs) h in
    rw parts.0 (calm_joined xs ys parts.1 k)

pub past_blanks-solid : (value : List ℕ) → list_all is_solid value ≡ true → past_blanks value ≡ value
past_blanks-solid [] h = refl
past_blanks-solid (c ∷ rest) h = rw (no_blank c (and_parts (is_solid c) (list_all is_solid rest) h).0) refl

-- one printed line before others
one_line : (front value rest : List ℕ) → list_all is_calm front ≡ true → list_all is_solid value ≡ true → lines ((front ++ (value ++ 10 ∷ [])) ++ rest) ≡ (front ++ value) ∷ lines rest
one_line front value rest h k =
    ap lines (append_assoc front (value ++ 10 ∷ []) rest ∙ ap (λ xs. front ++ xs) (append_assoc value (10 ∷ []) rest) ∙ sym (append_assoc front value (10 ∷ rest)))
    ∙ split_at_feed (front ++ value) rest (calm_joined front value h k)

-- a line that may be there
maybe_line : (b : Bool) (front value rest : List ℕ) → list_all is_calm front ≡ true → list_all is_solid value ≡ true → lines ((cond b (front ++ (value ++ 10 ∷ [])) []) ++ rest) ≡ (cond b ((front ++ value) ∷ []) []) ++ lines rest
maybe_line true front value rest h k = one_line front value rest h k
maybe_line false front value rest h k = refl

-- the values of a label's lines, and whether it has the line that no reader needs, with that line's value
pub record Values : Type 0 where
  pub of : Key → List ℕ
  pub has_tree : Bool
  pub tree : List ℕ

pub record AreSolid (v : Values) : Type 0 where
  pub of : (key : Key) → list_all is_solid (v.of key) ≡ true
  pub tree : list_all is_solid v.tree ≡ true

abbrev pub tree_heading : List ℕ
tree_heading = codes "Hash blocks:     \t"

abbrev pub printed : Values → List ℕ
printed v = concat (
    line HashType (v.of HashType)
    ∷ line DataBlocks (v.of DataBlocks)
    ∷ line DataBlockSize (v.of DataBlockSize)
    ∷ cond v.has_tree (tree_heading ++ (v.tree ++ codes "\n")) []
    ∷ line HashBlockSize (v.of HashBlockSize)
    ∷ line HashAlgorithm (v.of HashAlgorithm)
    ∷ line Salt (v.of Salt)
    ∷ line RootHash (v.of RootHash)
    ∷ [])

abbrev pub headed : Values → Key → List ℕ
headed v key = heading_of key ++ v.of key

abbrev pub lines_above : Values → List (List ℕ)
lines_above v = cond v.has_tree ((tree_heading ++ v.tree) ∷ []) []

abbrev pub lines_of : Values → List (List ℕ)
lines_of v = headed v HashType ∷ headed v DataBlocks ∷ headed v DataBlockSize
    ∷ (lines_above v ++ headed v HashBlockSize ∷ headed v HashAlgorithm ∷ headed v Salt ∷ headed v RootHash ∷ [] ∷ [])

heading_calm : (key : Key) → list_all is_calm (heading_of key) ≡ true
heading_calm HashType = refl
heading_calm DataBlocks = refl
heading_calm DataBlockSize = refl
heading_calm HashBlockSize = refl
heading_calm HashAlgorithm = refl
heading_calm Salt = refl
heading_calm RootHash = refl

key_line : (v : Values) → AreSolid v → (key : Key) (rest : List ℕ) (ls : List (List ℕ)) → lines rest ≡ ls → lines (line key (v.of key) ++ rest) ≡ headed v key ∷ ls
key_line v solid key rest ls h = one_line (heading_of key) (v.of key) rest (heading_calm key) (solid.of key) ∙ ap (λ more. headed v key ∷ more) h

pub lines-printed : (v : Values) → AreSolid v → lines (printed v) ≡ lines_of v
lines-printed v solid =
    key_line v solid HashType _ _ (key_line v solid DataBlocks _ _ (key_line v solid DataBlockSize _ _
    (maybe_line v.has_tree tree_heading v.tree _ refl solid.tree
    ∙ ap (λ more. lines_above v ++ more)
    (key_line v solid HashBlockSize _ _ (key_line v solid HashAlgorithm _ _ (key_line v solid Salt _ _ (key_line v solid RootHash [] ([] ∷ []) refl)))))))

-- each key has one line
one_each : (of : Key → List ℕ) (tree : List ℕ) (has_tree : Bool) (key : Key) → filter_map (value_in key) (lines_of (record { of = of; has_tree = has_tree; tree = tree })) ≡ past_blanks (of key) ∷ []
one_each of tree true HashType = refl
one_each of tree true DataBlocks = refl
one_each of tree true DataBlockSize = refl
one_each of tree true HashBlockSize = refl
one_each of tree true HashAlgorithm = refl
one_each of tree true Salt = refl
one_each of tree true RootHash = refl
one_each of tree false HashType = refl
one_each of tree false DataBlocks = refl
one_each of tree false DataBlockSize = refl
one_each of tree false HashBlockSize = refl
one_each of tree false HashAlgorithm = refl
one_each of tree false Salt = refl
one_each of tree false RootHash = refl

pub value_of-printed : (v : Values) → AreSolid v → (key : Key) → value_of key (printed v) ≡ Ok (v.of key)
unfolding value_of
value_of-printed v solid key =
    ap (λ ls. only key (filter_map (value_in key) ls)) (lines-printed v solid)
    ∙ ap (only key) (one_each v.of v.tree v.has_tree key)
    ∙ ap Ok (past_blanks-solid (v.of key) (solid.of key))
