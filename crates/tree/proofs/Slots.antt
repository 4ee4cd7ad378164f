-- What stands in each slot of a tree block.
use Rattle.std.proofs.Common.{◌≡◌, ℕ, suc, ◌+◌, ◌-◌, ◌*◌, ◌/◌, ◌%◌, ◌^◌, ◌<◌, ◌≤◌, cond, ltb, List, length, take, drop, replicate, sym, ap, ◌∙◌, subst, div-add-mod', zero-add, arith}
use Rattle.std.proofs.lemmas.Nat.{mod_below}
use Rattle.std.proofs.lemmas.List.{length-append, length-replicate, take_at, take-take}
use Rattle.std.proofs.lemmas.Bool.{cond_both, cond-true, cond-false, lt-ltb, le-ltb}
use Rattle.tree.specs.Shape.{Shape, fanout, width}
use Rattle.tree.specs.Tree.{in_slot, node}
use Rattle.tree.specs.Path.{held}
use Rattle.tree.specs.Laws.{Sound, SlotsStand}
use Rattle.tree.proofs.Pieces.{piece, length_pieces}
use Rattle.tree.proofs.Widths.{above_data, step_up}

-- slot t of block j, a step above height i
abbrev slot_of : (List ℕ → List ℕ) → Shape → List ℕ → ℕ → ℕ → ℕ → List ℕ
slot_of h s image i j t =
    cond (ltb (j * fanout s + t) (width s i)) (in_slot s.slot (h (node h s image i (j * fanout s + t)))) (replicate s.slot 0)

pub length-in_slot : (slot size : ℕ) (d : List ℕ) → length d ≡ size → size ≤ slot → length (in_slot slot d) ≡ slot
length-in_slot slot size d long fits =
    let rest : List ℕ = replicate (slot - length d) 0 in
    let zeros : length rest ≡ slot - length d = length-replicate (slot - length d) 0 in
    omega (arith, length-append d rest)

module _ (h : List ℕ → List ℕ) (s : Shape) (size : ℕ) (sound : Sound h s size) (image : List ℕ) where
  length-slot : (i j t : ℕ) → length (slot_of h s image i j t) ≡ s.slot
  length-slot i j t =
      let below = node h s image i (j * fanout s + t) in
      cond_both (ltb (j * fanout s + t) (width s i)) (in_slot s.slot (h below)) (replicate s.slot 0) (λ xs. length xs ≡ s.slot)
      (λ e. length-in_slot s.slot size (h below) (sound.sized below) sound.fits) (λ e. length-replicate s.slot 0)

  pub length-node : (i j : ℕ) → length (node h s image (suc i) j) ≡ s.hash_block
  unfolding node
  length-node i j = length_pieces (slot_of h s image i j) s.slot (length-slot i j) (fanout s) 0 ∙ sound.filled

  slot_is : (i j t : ℕ) → t < fanout s → take s.slot (drop (t * s.slot) (node h s image (suc i) j)) ≡ slot_of h s image i j t
  unfolding node
  slot_is i j t inside =
      piece (slot_of h s image i j) s.slot (length-slot i j) (fanout s) 0 t inside ∙ ap (slot_of h s image i j) (zero-add t)

  -- the salted digest of the block below
  pub slot_full : (i j t : ℕ) → t < fanout s → j * fanout s + t < width s i
      → take s.slot (drop (t * s.slot) (node h s image (suc i) j)) ≡ in_slot s.slot (h (node h s image i (j * fanout s + t)))
  slot_full i j t inside there =
      let k = j * fanout s + t in
      slot_is i j t inside ∙ cond-true (ltb k (width s i)) (in_slot s.slot (h (node h s image i k))) (replicate s.slot 0) (lt-ltb k (width s i) there)

  -- past the last block, zeros
  pub slot_empty : (i j t : ℕ) → t < fanout s → width s i ≤ j * fanout s + t
      → take s.slot (drop (t * s.slot) (node h s image (suc i) j)) ≡ replicate s.slot 0
  slot_empty i j t inside past =
      let k = j * fanout s + t in
      slot_is i j t inside ∙ cond-false (ltb k (width s i)) (in_slot s.slot (h (node h s image i k))) (replicate s.slot 0) (le-ltb k (width s i) past)

  pub held_is : (i j t : ℕ) → t < fanout s → j * fanout s + t < width s i → held s size (node h s image (suc i) j) t ≡ h (node h s image i (j * fanout s + t))
  held_is i j t inside there =
      let block = node h s image (suc i) j in
      let d = h (node h s image i (j * fanout s + t)) in
      sym (take-take size s.slot (drop (t * s.slot) block) sound.fits) ∙ ap (take size) (slot_full i j t inside there)
      ∙ take_at d (replicate (s.slot - length d) 0) size (sound.sized (node h s image i (j * fanout s + t)))

  -- the same by the number of a block below
  pub held_of : (i j : ℕ) → j < width s i → held s size (node h s image (suc i) (j / fanout s)) (j % fanout s) ≡ h (node h s image i j)
  held_of i j there =
      let f = fanout s in
      let whole = div-add-mod' j f in
      let wide : 0 < f = omega (arith, sound.wide) in
      held_is i (j / f) (j % f) (mod_below j f wide) (subst (λ k. k < width s i) (sym whole) there) ∙ ap (λ k. h (node h s image i k)) whole

  -- and by a data block
  pub held_above : (i k : ℕ) → k < s.blocks
      → held s size (node h s image (suc i) (k / fanout s ^ suc i)) (k / fanout s ^ i % fanout s) ≡ h (node h s image i (k / fanout s ^ i))
  held_above i k inside =
      let wide : 0 < fanout s = omega (arith, sound.wide) in
      ap (λ j. held s size (node h s image (suc i) j) (k / fanout s ^ i % fanout s)) (sym (step_up s wide i k))
      ∙ held_of i (k / fanout s ^ i) (above_data s wide i k inside)

pub slots_stand_lem : SlotsStand
slots_stand_lem h s size sound image i j = (
  length-node h s size sound image i j ∙ sym sound.filled,
  λ t inside. record {
    full = slot_full h s size sound image i j t inside;
    digest = held_is h s size sound image i j t inside;
    empty = slot_empty h s size sound image i j t inside;
  },
)
