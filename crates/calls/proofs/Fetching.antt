-- A fetch by the publisher's blocks gives the image's bytes, and a program of fetches comes to what it comes to by the image.
use Rattle.std.proofs.Common.{◌≡◌, ◌⊎◌, ℕ, zero, suc, ◌+◌, ◌-◌, ◌*◌, ◌/◌, ◌%◌, ◌≤◌, ◌<◌, eqb, List, ◌++◌, length, take, drop, Option, None, Some, Result, Ok, Err, refl, sym, ap, ap₂, ◌∙◌, subst, arith, inl, inr}
use Rattle.std.proofs.lemmas.Bool.{cond-true, cond-false, cases_eq, eq-eqb, ne_eqb}
use Rattle.std.proofs.lemmas.List.{drop-drop}
use Rattle.std.proofs.lemmas.Nat.{mod_below, div-add-mod', div_below, le-div}
use Rattle.std.proofs.Math.Nat.{div-mul-le_self, add-mul}
use Rattle.device.specs.Answer.{Answer}
use Rattle.device.specs.Program.{Program, done}
use Rattle.tree.specs.Tree.{node}
use Rattle.layers.specs.declared.fault.StorageFault.{StorageFault}
use Rattle.layers.specs.Path.{data_question}
use Rattle.layers.specs.Publisher.{Publisher, Whole, right_block}
use Rattle.layers.proofs.Blocks.{within, right_data}
use Rattle.volume.specs.Fetches.{Fetches, give, refuse, fetch, by_image, blocks, touched, fetch_blocks, by_blocks}
use Rattle.volume.proofs.Clean.{Clean}
use Rattle.volume.proofs.Slices as slices
use Rattle.calls.proofs.Fair.{Fair, fair-more, fair-bind}

-- it comes to these bytes, or to the fault that was seen
abbrev pub Comes : {R : Type 0} → List ℕ → Answer (StorageFault R) → Option (StorageFault R) → Type 0
Comes bytes answer None = answer ≡ Ok bytes
Comes bytes answer (Some fault) = answer ≡ Err fault

-- bytes put into others
comes_put : {R : Type 0} (f : List ℕ → List ℕ) (bytes : List ℕ) (answer : Answer (StorageFault R)) (seen : Option (StorageFault R)) → Comes bytes answer seen
    → Comes (f bytes) (elim answer [ Ok b ↦ Ok (f b) | Err fault ↦ Err fault ]) seen
comes_put f bytes answer None comes = ap (λ (a : Answer (StorageFault _)). elim a [ Ok b ↦ Ok (f b) | Err fault ↦ Err fault ]) comes
comes_put f bytes answer (Some fault) comes = ap (λ (a : Answer (StorageFault _)). elim a [ Ok b ↦ Ok (f b) | Err fault ↦ Err fault ]) comes

-- the blocks that some bytes touch are there, and hold them
pub touched_room : (d blocks from n : ℕ) → 0 < d → from + n ≤ blocks * d → (from / d + touched d from n ≤ blocks) × (from % d + n ≤ touched d from n * d ⊎ (n ≡ 0))
touched_room d blocks from n some room =
    elim (cases_eq n 0) [
      | inl none ↦
          let t : touched d from n ≡ 0 = cond-true (eqb n 0) 0 (suc ((from + n - 1) / d) - from / d) (eq-eqb n 0 none) in
          let low : from / d < blocks + 1 = div_below from d (blocks + 1) some (let e : (blocks + 1) * d ≡ blocks * d + d = omega arith in omega arith) in
          (omega arith, inr none)
      | inr more ↦
          let e = from + n - 1 in
          let t : touched d from n ≡ suc (e / d) - from / d = cond-false (eqb n 0) 0 (suc (e / d) - from / d) (ne_eqb n 0 more) in
          let low : e / d < blocks = div_below e d blocks some (omega arith) in
          let rising : from / d ≤ e / d = le-div (from / d) e d some (omega (arith, div-mul-le_self from d)) in
          let count = suc (e / d) - from / d in
          let parts : count + from / d ≡ suc (e / d) = omega arith in
          let spread : count * d + from / d * d ≡ suc (e / d) * d = sym (add-mul count (from / d) d) ∙ ap (λ k. k * d) parts in
          let last : suc (e / d) * d ≡ e / d * d + d = omega arith in
          let upper = div-add-mod' e d in
          let lower = div-add-mod' from d in
          let small = mod_below e d some in
          let fits : from % d + n ≤ count * d = omega arith in
          (omega arith, inl (subst (λ k. from % d + n ≤ k * d) (sym t) fits))
    ]

module _ (p : Publisher) (whole : Whole p) where
  abbrev d : ℕ
  d = p.shape.data_block

  data_right : (b : ℕ) → b < p.shape.blocks → (block : List ℕ) → right_block p (data_question p.shape b) ≡ Some block → block ≡ take d (drop (b * d) p.image)
  unfolding node
  data_right b there block right = let is : Some block ≡ Some (take d (drop (b * d) p.image)) = sym right ∙ right_data p whole b there in cc

  module _ (R : Type 0) where
    pub fair-blocks : (n b : ℕ) → b + n ≤ p.shape.blocks → Fair {R = R} p (blocks d n b) None (Comes (take (n * d) (drop (b * d) p.image)))
    fair-blocks zero b room = let none : 0 ≡ 0 * d = omega arith in ap (λ k. Ok (take k (drop (b * d) p.image))) none
    fair-blocks (suc n) b room = (
      within d p.shape.blocks b (omega arith),
      λ block right.
          let later = take (n * d) (drop (suc b * d) p.image) in
          let first = data_right b (omega arith) block right in
          let place : b * d + d ≡ suc b * d = omega arith in
          let count : d + n * d ≡ suc n * d = omega arith in
          let whole_piece : block ++ later ≡ take (suc n * d) (drop (b * d) p.image) =
          ap₂ (λ x y. x ++ take (n * d) y) first (ap (λ k. drop k p.image) (sym place) ∙ sym (drop-drop d (b * d) p.image)) ∙ slices.joined d (n * d) (drop (b * d) p.image)
          ∙ ap (λ k. take k (drop (b * d) p.image)) count in
          fair-bind p (blocks d n (suc b)) None (λ more. done (elim more [ Ok bytes ↦ Ok (block ++ bytes) | Err fault ↦ Err fault ])) (Comes (take (suc n * d) (drop (b * d) p.image)))
          (fair-more p (blocks d n (suc b)) None (Comes later) (λ a s. Comes (take (suc n * d) (drop (b * d) p.image)) (elim a [ Ok bytes ↦ Ok (block ++ bytes) | Err fault ↦ Err fault ]) s)
          (λ a s comes. subst (λ xs. Comes xs (elim a [ Ok bytes ↦ Ok (block ++ bytes) | Err fault ↦ Err fault ]) s) whole_piece (comes_put (λ bytes. block ++ bytes) later a s comes))
          (fair-blocks n (suc b) (omega arith))),
      λ fault. refl,
    )

    pub fair-fetch : 0 < d → (from n : ℕ) → from + n ≤ length p.image → Fair {R = R} p (fetch_blocks d from n) None (Comes (take n (drop from p.image)))
    fair-fetch some from n room =
        let all : from + n ≤ p.shape.blocks * d = omega (arith, whole.filled) in
        let count = touched d from n in
        let rooms = touched_room d p.shape.blocks from n some all in
        let row = take (count * d) (drop (from / d * d) p.image) in
        let parts : from / d * d + from % d ≡ from = div-add-mod' from d in
        let piece : take n (drop (from % d) row) ≡ take n (drop from p.image) = elim rooms.1 [
          | inl fits ↦ slices.within (from % d) n (count * d) (drop (from / d * d) p.image) fits ∙ ap (take n) (drop-drop (from % d) (from / d * d) p.image ∙ ap (λ k. drop k p.image) parts)
          | inr none ↦ ap (λ k. take k (drop (from % d) row)) none ∙ sym (ap (λ k. take k (drop from p.image)) none)
        ] in
        fair-bind p (blocks d count (from / d)) None (λ answer. done (elim answer [ Ok bytes ↦ Ok (take n (drop (from % d) bytes)) | Err fault ↦ Err fault ])) (Comes (take n (drop from p.image)))
        (fair-more p (blocks d count (from / d)) None (Comes row) (λ a s. Comes (take n (drop from p.image)) (elim a [ Ok bytes ↦ Ok (take n (drop (from % d) bytes)) | Err fault ↦ Err fault ]) s)
        (λ a s comes. subst (λ xs. Comes xs (elim a [ Ok bytes ↦ Ok (take n (drop (from % d) bytes)) | Err fault ↦ Err fault ]) s) piece (comes_put (λ bytes. take n (drop (from % d) bytes)) row a s comes))
        (fair-blocks count (from / d) rooms.0))

    -- a program comes to what it comes to by the image, or to a refusal that holds the fault that was seen
    abbrev pub Agrees : {E X : Type 0} → (E → Option (StorageFault R)) → Fetches (StorageFault R) E X → Result X E → Option (StorageFault R) → Type 0
    Agrees holds program r None = r ≡ by_image p.image program
    Agrees {E} holds program r (Some fault) = (e : E) × (r ≡ Err e) × (holds e ≡ Some fault)

    module _ {E X : Type 0} (holds : E → Option (StorageFault R)) (some : 0 < d) where
      same_end : (from n : ℕ) (fault : StorageFault R → E) (rest : List ℕ → Fetches (StorageFault R) E X) (r : Result X E) (s : Option (StorageFault R))
          → Agrees holds (rest (take n (drop from p.image))) r s → Agrees holds (fetch from n fault rest) r s
      same_end from n fault rest r None agrees = agrees
      same_end from n fault rest r (Some f) agrees = agrees

      -- what follows a fetch
      goes_on : (from n : ℕ) (fault : StorageFault R → E) (rest : List ℕ → Fetches (StorageFault R) E X) → Clean holds (length p.image) (fetch from n fault rest)
          → Fair p (by_blocks d (rest (take n (drop from p.image)))) None (Agrees holds (rest (take n (drop from p.image))))
          → (a : Answer (StorageFault R)) (s : Option (StorageFault R)) → Comes (take n (drop from p.image)) a s
          → Fair p (elim a [ Ok b ↦ by_blocks d (rest b) | Err f ↦ done (Err (fault f)) ]) s (Agrees holds (fetch from n fault rest))
      goes_on from n fault rest clean below a None comes =
          let bytes = take n (drop from p.image) in
          let then : Answer (StorageFault R) → Program (StorageFault R) (Result X E) = λ answer. elim answer [ Ok b ↦ by_blocks d (rest b) | Err f ↦ done (Err (fault f)) ] in
          subst (λ x. Fair p (then x) None (Agrees holds (fetch from n fault rest))) (sym comes)
          (fair-more p (by_blocks d (rest bytes)) None (Agrees holds (rest bytes)) (Agrees holds (fetch from n fault rest)) (same_end from n fault rest) below)
      goes_on from n fault rest clean below a (Some f) comes =
          let then : Answer (StorageFault R) → Program (StorageFault R) (Result X E) = λ answer. elim answer [ Ok b ↦ by_blocks d (rest b) | Err g ↦ done (Err (fault g)) ] in
          subst (λ x. Fair p (then x) (Some f) (Agrees holds (fetch from n fault rest))) (sym comes) (fault f, refl, clean.1 f)

      pub fair-program : (program : Fetches (StorageFault R) E X) → Clean holds (length p.image) program → Fair p (by_blocks d program) None (Agrees holds program)
      fair-program (give x) clean = refl
      fair-program (refuse e) clean = refl
      fair-program (fetch from n fault rest) clean =
          let bytes = take n (drop from p.image) in
          let then : Answer (StorageFault R) → Program (StorageFault R) (Result X E) = λ answer. elim answer [ Ok b ↦ by_blocks d (rest b) | Err f ↦ done (Err (fault f)) ] in
          fair-bind p (fetch_blocks d from n) None then (Agrees holds (fetch from n fault rest))
          (fair-more p (fetch_blocks d from n) None (Comes bytes) (λ a s. Fair p (then a) s (Agrees holds (fetch from n fault rest)))
          (goes_on from n fault rest clean (fair-program (rest (take n (drop from p.image))) (clean.2 (take n (drop from p.image))))) (fair-fetch some from n clean.0))
