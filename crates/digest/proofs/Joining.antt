-- Padding is whole, with the fewest zeros; and joining is all that a digest sees of a split.
use Rattle.std.proofs.Common.{◌≡◌, ℕ, ◌+◌, ◌%◌, ◌≤◌, cond, ◌&&◌, eqb, leb, ◌⊎◌, length, replicate, Ok, Err, Result, sym, refl, ap, ◌∙◌, ap₂, inl, inr, arith}
use Rattle.std.proofs.lemmas.List.{length-append}
use Rattle.sha2_block.specs.Variant.{Variant}
use Rattle.digest.specs.declared.refusal.Refusal.{Refusal}
use Rattle.digest.specs.declared.refusal.Refusal.TheVariants.{Length}
use Rattle.digest.specs.Padding.{block_bytes, length_bytes, zeros, padded}
use Rattle.digest.specs.Answer.{accepts}
use Rattle.digest.specs.Laws.{PaddingStands, SplitStands}
use Rattle.digest.proofs.Padding.{length-padded}

whole : (v : Variant) → ((v.bits ≡ 32) ⊎ (v.bits ≡ 64)) → (n : ℕ) → (n + 1 + zeros v n + length_bytes v) % block_bytes v ≡ 0
unfolding zeros
whole v (inl h) n = rw h (omega arith)
whole v (inr h) n = rw h (omega arith)

fewest : (v : Variant) → ((v.bits ≡ 32) ⊎ (v.bits ≡ 64)) → (n k : ℕ) → (n + 1 + k + length_bytes v) % block_bytes v ≡ 0 → zeros v n ≤ k
unfolding zeros
fewest v (inl h) n k fits = rw h (let at = rw h at fits in omega arith)
fewest v (inr h) n k fits = rw h (let at = rw h at fits in omega arith)

pub padding_stands_lem : PaddingStands
unfolding padded
padding_stands_lem v law m = record {
  whole = ap (λ n. n % block_bytes v) (length-padded v m) ∙ whole v law (length m);
  zeros = zeros v (length m);
  parts = refl;
  fewest = fewest v law (length m);
}

pub split_stands_lem : SplitStands
split_stands_lem size meaning a b c d out same =
    let long : length a + length b ≡ length c + length d = sym (length-append a b) ∙ ap length same ∙ length-append c d in
    let fits : accepts size a b out ≡ accepts size c d out = ap (λ n. eqb (length out) size && leb n 4352) long in
    (ap (λ x. cond {A = Result (Unit {0}) Refusal} x (Ok tt) (Err Length)) fits, ap₂ (λ x m. cond x (meaning m) (replicate (length out) 0)) fits same)
