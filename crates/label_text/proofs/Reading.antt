-- A printed label reads as itself.
use Rattle.std.proofs.Common.{◌≡◌, ℕ, ◌*◌, ◌/◌, ◌%◌, ◌<◌, ◌≤◌, ◌==◌, true, false, List, [], ◌∷◌, zero, suc, length, get_or, Option, Some, None, Ok, refl, ap, ◌∙◌, codes, arith}
use Rattle.std.specs.Fmt.{decimal, digit_glyph, digits, digits_onto}
use Rattle.std.specs.List.{list_all}
use Rattle.std.proofs.lemmas.Bool.{and_right, cond-true, cond_both, eq-eqb, ne_eqb}
use Rattle.std.proofs.lemmas.Bool.Decides.{nat_tests}
use Rattle.tree.specs.Shape.{tree_blocks}
use Rattle.text.specs.Hex.{digit_of, hex_of, unhex_of}
use Rattle.text.specs.Name.{name_of, named}
use Rattle.text.specs.Number.{number_of}
use Rattle.text.specs.Sum.{size_of}
use Rattle.text.specs.declared.function.Function.{Function}
use Rattle.text.specs.declared.function.Function.TheVariants.{Sha256, Sha512}
use Rattle.text.proofs.Limits.{length-hex_of, unhexed-hex_of}
use Rattle.text.proofs.Numbers.{number_of-decimal}
use Rattle.text.proofs.Pairs.{unhex_of-hex_of}
use Rattle.geometry.specs.Limits.{within}
use Rattle.label_text.specs.Label.{Told, label_in, read_by}
use Rattle.label_text.specs.Laws.{Fits}
use Rattle.label_text.specs.Lines.{value_of}
use Rattle.label_text.specs.Printed.{salt_text, text_of, tree_of}
use Rattle.label_text.specs.Values.{hash_type_of, root_of, salt_of}
use Rattle.label_text.specs.declared.key.Key.{Key}
use Rattle.label_text.specs.declared.key.Key.TheVariants.{HashType, DataBlocks, DataBlockSize, HashBlockSize, HashAlgorithm, Salt, RootHash}
use Rattle.label_text.proofs.Printing.{AreSolid, Values, is_solid, printed, value_of-printed}

glyph_solid : (d : ℕ) → is_solid (digit_glyph false d) ≡ true
glyph_solid d = grind (arith, nat_tests)

digits_solid : (k n : ℕ) (acc : List ℕ) → list_all is_solid acc ≡ true → list_all is_solid (digits_onto k 10 false n acc) ≡ true
digits_solid zero n acc h = h
digits_solid (suc k) n acc h =
    let more : list_all is_solid (digit_glyph false (n % 10) ∷ acc) ≡ true = rw (glyph_solid (n % 10)) h in
    cond_both (n / 10 == 0) (digit_glyph false (n % 10) ∷ acc) (digits_onto k 10 false (n / 10) (digit_glyph false (n % 10) ∷ acc)) (λ ds. list_all is_solid ds ≡ true)
    (λ _. more) (λ _. digits_solid k (n / 10) (digit_glyph false (n % 10) ∷ acc) more)

decimal_solid : (n : ℕ) → list_all is_solid (decimal n) ≡ true
unfolding digits
decimal_solid n = digits_solid 64 n [] refl

digit_of-solid : (n : ℕ) → is_solid (digit_of n) ≡ true
digit_of-solid n = grind (arith, nat_tests)

hex_solid : (bytes : List ℕ) → list_all is_solid (hex_of bytes) ≡ true
hex_solid [] = refl
hex_solid (b ∷ bytes) = rw (digit_of-solid (b / 16), digit_of-solid (b % 16)) (hex_solid bytes)

name_solid : (f : Function) → list_all is_solid (name_of f) ≡ true
name_solid Sha256 = refl
name_solid Sha512 = refl

salt_solid : (salt : List ℕ) → list_all is_solid (salt_text salt) ≡ true
salt_solid [] = refl
salt_solid (b ∷ bytes) = hex_solid (b ∷ bytes)

-- each value, read by its rule
named-name_of : (f : Function) → named (name_of f) ≡ Some f
named-name_of Sha256 = refl
named-name_of Sha512 = refl

salt_of-salt_text : (salt : List ℕ) → ((i : ℕ) → get_or salt i 0 < 256) → length salt ≤ 256 → salt_of (salt_text salt) ≡ Some salt
salt_of-salt_text [] each few = refl
salt_of-salt_text (b ∷ bytes) each few =
    rw (ne_eqb (suc (suc (length (hex_of bytes)))) 0 (λ none. absurd (omega arith)), and_right (digit_of (b / 16) == 45) false refl)
    (unhexed-hex_of 256 (b ∷ bytes) each few)

root_of-hex_of : (f : Function) (root : List ℕ) → ((i : ℕ) → get_or root i 0 < 256) → length root ≡ size_of f → root_of f (hex_of root) ≡ Some root
root_of-hex_of f root each whole =
    cond-true _ (unhex_of (hex_of root)) None (eq-eqb _ _ (length-hex_of root ∙ ap (λ n. 2 * n) whole)) ∙ unhex_of-hex_of root each

-- the values of a label's lines
abbrev pub value_of_label : Told → Key → List ℕ
value_of_label t HashType = codes "1"
value_of_label t DataBlocks = decimal t.blocks
value_of_label t DataBlockSize = decimal t.data_block
value_of_label t HashBlockSize = decimal t.hash_block
value_of_label t HashAlgorithm = name_of t.function
value_of_label t Salt = salt_text t.salt
value_of_label t RootHash = hex_of t.root

abbrev pub values : Told → Values
values t = record { of = value_of_label t; has_tree = within (tree_of t); tree = decimal (tree_blocks (tree_of t)) }

value_solid : (t : Told) (key : Key) → list_all is_solid (value_of_label t key) ≡ true
value_solid t HashType = refl
value_solid t DataBlocks = decimal_solid t.blocks
value_solid t DataBlockSize = decimal_solid t.data_block
value_solid t HashBlockSize = decimal_solid t.hash_block
value_solid t HashAlgorithm = name_solid t.function
value_solid t Salt = salt_solid t.salt
value_solid t RootHash = hex_solid t.root

solid : (t : Told) → AreSolid (values t)
solid t = record { of = value_solid t; tree = decimal_solid (tree_blocks (tree_of t)) }

text_of-printed : (t : Told) → text_of t ≡ printed (values t)
unfolding text_of
text_of-printed t = refl

read : {A : Type 0} (rule : List ℕ → Option A) (key : Key) (text value : List ℕ) (x : A) → value_of key text ≡ Ok value → rule value ≡ Some x → read_by rule key text ≡ Ok x
read rule key text value x h k = rw (h, k) refl

pub printed_reads : (t : Told) → Fits t → label_in (text_of t) ≡ Ok t
unfolding label_in
printed_reads t f =
    let at : (key : Key) → value_of key (text_of t) ≡ Ok (value_of_label t key) = λ key. ap (value_of key) (text_of-printed t) ∙ value_of-printed (values t) (solid t) key in
    rw (
      read hash_type_of HashType (text_of t) _ tt (at HashType) refl,
      read number_of DataBlocks (text_of t) _ t.blocks (at DataBlocks) (number_of-decimal t.blocks f.blocks),
      read number_of DataBlockSize (text_of t) _ t.data_block (at DataBlockSize) (number_of-decimal t.data_block f.data_block),
      read number_of HashBlockSize (text_of t) _ t.hash_block (at HashBlockSize) (number_of-decimal t.hash_block f.hash_block),
      read named HashAlgorithm (text_of t) _ t.function (at HashAlgorithm) (named-name_of t.function),
      read salt_of Salt (text_of t) _ t.salt (at Salt) (salt_of-salt_text t.salt f.salt_bytes f.salt),
      read (root_of t.function) RootHash (text_of t) _ t.root (at RootHash) (root_of-hex_of t.function t.root f.root_bytes f.root),
    )
    refl
