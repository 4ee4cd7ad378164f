-- The starting state, and the bytes of the last one.
use Rattle.std.proofs.Common.{◌≡◌, ℕ, ◌+◌, ◌*◌, ◌/◌, ◌≤◌, cond, leb, ◌⊎◌, List, [], ◌++◌, length, take, drop, sym, ap, ◌∙◌, inl, inr, arith}
use borrow.Rule.Slice.PartMut.{mid_of, put_mid}
use Rattle.std.proofs.lemmas.List.{append-nil, length-take-le, length-drop, drop_all, take-take}
use Rattle.std.proofs.lemmas.Slice.{take-put_mid}
use Rattle.std.proofs.lemmas.Bool.{le-leb, cond-true}
use Rattle.sha2_block.specs.Variant.{Variant}
use Rattle.sha2_block.specs.Bytes.{big_endian}
use Rattle.sha2_block.specs.Block.{Eight}
use Rattle.digest.specs.Hash.{state_bytes}
use Rattle.digest.proofs.Padding.{length-big_endian}

-- a word over the bytes at a place
pub written_word : (v : Variant) (out new : List ℕ) (at n k x : ℕ) → n ≡ v.bits / 8 → k ≡ n → length out ≡ 64 → at + v.bits / 8 ≤ 64
    → new ≡ cond (leb (v.bits / 8) (length (mid_of at k out))) (big_endian (v.bits / 8) x ++ drop (v.bits / 8) (mid_of at k out)) (mid_of at k out)
    → take (at + v.bits / 8) (put_mid at k out new) ≡ take at out ++ big_endian (v.bits / 8) x
written_word v out new at n k x word count long inside made =
    let w = v.bits / 8 in
    let part : length (mid_of at k out) ≡ w = length-take-le k (drop at out) (omega (arith, length-drop at out)) ∙ count ∙ word in
    let enough = le-leb w (length (mid_of at k out)) (omega (arith, part)) in
    let none : drop w (mid_of at k out) ≡ [] = drop_all w (mid_of at k out) (omega (arith, part)) in
    let is : new ≡ big_endian w x =
    made ∙ cond-true (leb w (length (mid_of at k out))) (big_endian w x ++ drop w (mid_of at k out)) (mid_of at k out) enough
    ∙ ap (λ ys. big_endian w x ++ ys) none ∙ append-nil (big_endian w x) in
    let size : length new ≡ w = ap length is ∙ length-big_endian w x in
    take-put_mid at k out new (at + w) (omega (arith, size)) (omega arith) ∙ ap (λ ys. take at out ++ ys) is

eight_words : (bits n : ℕ) → ((bits ≡ 32) ⊎ (bits ≡ 64)) → n ≡ bits / 8 → bits ≡ 8 * n
eight_words bits n (inl h) word = omega arith
eight_words bits n (inr h) word = omega arith

-- a state's words, one behind the other
pub eight_writes : (v : Variant) → ((v.bits ≡ 32) ⊎ (v.bits ≡ 64)) → (s : Eight) (n : ℕ) (o1 o2 o3 o4 o5 o6 o7 o8 : List ℕ) → n ≡ v.bits / 8
    → take (0 + v.bits / 8) o1 ≡ big_endian (v.bits / 8) s.a → take (n + v.bits / 8) o2 ≡ take n o1 ++ big_endian (v.bits / 8) s.b → take ((2 * n) + v.bits / 8) o3 ≡ take (2 * n) o2 ++ big_endian (v.bits / 8) s.c → take ((3 * n) + v.bits / 8) o4 ≡ take (3 * n) o3 ++ big_endian (v.bits / 8) s.d → take ((4 * n) + v.bits / 8) o5 ≡ take (4 * n) o4 ++ big_endian (v.bits / 8) s.e → take ((5 * n) + v.bits / 8) o6 ≡ take (5 * n) o5 ++ big_endian (v.bits / 8) s.f → take ((6 * n) + v.bits / 8) o7 ≡ take (6 * n) o6 ++ big_endian (v.bits / 8) s.g → take ((7 * n) + v.bits / 8) o8 ≡ take (7 * n) o7 ++ big_endian (v.bits / 8) s.h
    → take v.bits o8 ≡ state_bytes v s
unfolding state_bytes
eight_writes v law s n o1 o2 o3 o4 o5 o6 o7 o8 word h0 h1 h2 h3 h4 h5 h6 h7 =
    let w = v.bits / 8 in
    let bytes : ℕ → List ℕ = big_endian w in
    let t1 : take n o1 ≡ bytes s.a = ap (λ k. take k o1) (let e : n ≡ 0 + w = omega arith in e) ∙ h0 in
    let t2 : take (2 * n) o2 ≡ bytes s.a ++ bytes s.b = ap (λ k. take k o2) (let e : 2 * n ≡ n + w = omega arith in e) ∙ h1 ∙ ap (λ xs. xs ++ bytes s.b) t1 in
    let t3 : take (3 * n) o3 ≡ bytes s.a ++ bytes s.b ++ bytes s.c = ap (λ k. take k o3) (let e : 3 * n ≡ 2 * n + w = omega arith in e) ∙ h2 ∙ ap (λ xs. xs ++ bytes s.c) t2 in
    let t4 : take (4 * n) o4 ≡ bytes s.a ++ bytes s.b ++ bytes s.c ++ bytes s.d = ap (λ k. take k o4) (let e : 4 * n ≡ 3 * n + w = omega arith in e) ∙ h3 ∙ ap (λ xs. xs ++ bytes s.d) t3 in
    let t5 : take (5 * n) o5 ≡ bytes s.a ++ bytes s.b ++ bytes s.c ++ bytes s.d ++ bytes s.e = ap (λ k. take k o5) (let e : 5 * n ≡ 4 * n + w = omega arith in e) ∙ h4 ∙ ap (λ xs. xs ++ bytes s.e) t4 in
    let t6 : take (6 * n) o6 ≡ bytes s.a ++ bytes s.b ++ bytes s.c ++ bytes s.d ++ bytes s.e ++ bytes s.f = ap (λ k. take k o6) (let e : 6 * n ≡ 5 * n + w = omega arith in e) ∙ h5 ∙ ap (λ xs. xs ++ bytes s.f) t5 in
    let t7 : take (7 * n) o7 ≡ bytes s.a ++ bytes s.b ++ bytes s.c ++ bytes s.d ++ bytes s.e ++ bytes s.f ++ bytes s.g = ap (λ k. take k o7) (let e : 7 * n ≡ 6 * n + w = omega arith in e) ∙ h6 ∙ ap (λ xs. xs ++ bytes s.g) t6 in
    let t8 : take (8 * n) o8 ≡ bytes s.a ++ bytes s.b ++ bytes s.c ++ bytes s.d ++ bytes s.e ++ bytes s.f ++ bytes s.g ++ bytes s.h = ap (λ k. take k o8) (let e : 8 * n ≡ 7 * n + w = omega arith in e) ∙ h7 ∙ ap (λ xs. xs ++ bytes s.h) t7 in
    ap (λ k. take k o8) (eight_words v.bits n law word) ∙ t8

-- the first bytes of what begins with a state's
pub kept : (size bits : ℕ) (bytes all out : List ℕ) → size ≤ bits → take bits all ≡ bytes → out ≡ take size all → out ≡ take size bytes
kept size bits bytes all out fits is copied = copied ∙ sym (take-take size bits all fits) ∙ ap (take size) is
