-- The numbers of the levels from one up.
use Rattle.std.proofs.Common.{◌≡◌, ℕ, zero, suc, ◌+◌, ◌-◌, ◌*◌, ◌^◌, ◌<◌, ◌≤◌, true, List, [], length, take, drop, replicate, refl, sym, ap, ap₂, ◌∙◌, subst, inl, inr, add-zero, add-one, add-suc, arith}
use Rattle.std.proofs.lemmas.Nat.{pow-add}
use Rattle.std.proofs.lemmas.List.{length-replicate, drop-replicate, take-replicate}
use Rattle.std.proofs.lemmas.Bool.{cases_lt}
use Rattle.geometry.proofs.Bounds.{bounds, bounds_of}
use Rattle.geometry.proofs.Counting.{least_is}
use Rattle.geometry.proofs.Trees.{sound_salted}
use Rattle.geometry.specs.declared.geometry.Geometry.{Geometry}
use Rattle.geometry.specs.Limits.{shape, within}
use Rattle.geometry.specs.Of.{shape_of}
use Rattle.tree.specs.Shape.{Shape, fanout, levels, width, blocks_from, tree_blocks, start}
use Rattle.tree.specs.Laws.{Sound}
use Rattle.tree.proofs.Levels.{levels_stand_lem}
use Rattle.tree.proofs.Widths.{in_width, under_width, width_zero}
use Rattle.builder.specs.declared.job.Job.{Job}
use Rattle.builder.specs.Parts.{IsRow, block_len, hash_by, over, tree_len}

-- a buffer, cut where level i starts
pub record Cut (s : Shape) (i at : ℕ) (buf : List ℕ) : Type 0 where
  pub inside : at ≤ length buf
  pub front : take at buf ≡ replicate (tree_len (over s (i + 1))) 0
  pub back : drop at buf ≡ replicate (width s (i + 1) * s.hash_block) 0

module _ (s : Shape) (wide : 2 ≤ fanout s) where
  positive : 0 < fanout s
  positive = omega (arith, wide)

  -- block j, k steps above those i steps above the data
  far : (i k j : ℕ) → j * fanout s ^ (i + k) ≡ j * fanout s ^ k * fanout s ^ i
  far i k j = ap (λ p. j * p) (pow-add (fanout s) i k) ∙ omega arith

  to : (i k j : ℕ) → j < width s (i + k) → j < width (over s i) k
  to i k j h = in_width (over s i) positive k j (in_width s positive i (j * fanout s ^ k) (omega (arith, far i k j, under_width s positive (i + k) j h)))

  from : (i k j : ℕ) → j < width (over s i) k → j < width s (i + k)
  from i k j h = in_width s positive (i + k) j (omega (arith, far i k j, under_width s positive i (j * fanout s ^ k) (under_width (over s i) positive k j h)))

  pub width_over : (i k : ℕ) → width (over s i) k ≡ width s (i + k)
  width_over i k =
      let a = width (over s i) k in
      let b = width s (i + k) in
      elim (cases_lt a b) [
        | inl less ↦ absurd (omega (arith, to i k a less))
        | inr low ↦ elim (cases_lt b a) [ inl less ↦ absurd (omega (arith, from i k b less)) | inr high ↦ omega arith ]
      ]

  pub levels_over : (i : ℕ) → i ≤ levels s → levels (over s i) ≡ levels s - i
  levels_over i low =
      let f = fanout s in
      let r = levels s - i in
      let law = levels_stand_lem f s.blocks wide in
      let whole : f ^ levels s ≡ f ^ r * f ^ i = ap (λ k. f ^ k) (let e : levels s ≡ r + i = omega arith in e) ∙ pow-add f r i in
      let enough : width s i ≤ f ^ r = elim (cases_lt (f ^ r) (width s i)) [
        | inl less ↦ absurd (omega (arith, under_width s positive i (f ^ r) less, whole, law.0))
        | inr past ↦ past
      ] in
      sym (least_is f (width s i) r wide enough (λ m less. in_width s positive i (f ^ m) (omega (arith, law.1 (m + i) (omega arith), pow-add f m i))))

  pub blocks_over : (i k n : ℕ) → blocks_from (over s i) k n ≡ blocks_from s (i + k) n
  unfolding blocks_from
  blocks_over i k zero = refl
  blocks_over i k (suc n) =
      ap₂ (λ x y. x + y) (width_over i (suc k) ∙ ap (width s) (add-suc i k)) (blocks_over i (suc k) n ∙ ap (λ m. blocks_from s m n) (add-suc i k))

  -- a step more
  pub over_over : (i : ℕ) → over (over s i) 1 ≡ over s (i + 1)
  over_over i = ap (λ w. shape s.hash_block s.hash_block w s.slot) (width_over i 1) ∙ ap (λ b. shape b s.hash_block (width s (i + 1)) s.slot) (sym (ap (block_len s) (add-one i)))

  tree_over : (i : ℕ) → i ≤ levels s → tree_blocks (over s i) ≡ blocks_from s i (levels s - i)
  tree_over i low = blocks_over i 0 (levels (over s i)) ∙ ap₂ (blocks_from s) (add-zero i) (levels_over i low)

  -- zeros for the levels from i up, cut where level i starts: zeros for those above it, and for level i
  pub cut : {i at : ℕ} {buf : List ℕ} → i < levels s → at ≡ start s i * s.hash_block → buf ≡ replicate (tree_len (over s i)) 0 → Cut s i at buf
  unfolding blocks_from
  cut {i = i} {at = at} {buf = buf} low here zeros =
      let e = s.hash_block in
      let above : at ≡ tree_len (over s (i + 1)) = here ∙ ap (λ k. k * e) (sym (tree_over (suc i) low) ∙ ap (λ k. tree_blocks (over s k)) (sym (add-one i))) in
      let next : levels s - i ≡ suc (levels s - suc i) = omega arith in
      let whole : tree_len (over s i) ≡ at + width s (i + 1) * e =
      ap (λ k. k * e) (tree_over i (omega arith) ∙ ap (blocks_from s i) next) ∙ omega (arith, here, ap (λ k. width s k * e) (add-one i)) in
      let rest : at + width s (i + 1) * e - at ≡ width s (i + 1) * e = omega arith in
      record {
        inside = omega (arith, whole, ap length zeros, length-replicate {A = ℕ} (tree_len (over s i)) 0);
        front = ap (take at) (zeros ∙ ap (λ k. replicate k 0) whole) ∙ take-replicate at (at + width s (i + 1) * e) 0 (omega arith) ∙ ap (λ k. replicate k 0) above;
        back = ap (drop at) (zeros ∙ ap (λ k. replicate k 0) whole) ∙ drop-replicate at (at + width s (i + 1) * e) 0 ∙ ap (λ k. replicate k 0) rest;
      }

  pub some_over : (i : ℕ) → 1 ≤ s.blocks → 1 ≤ width s i
  some_over i some = in_width s positive i 0 (omega arith)

module _ {s : Shape} {i at : ℕ} {buf : List ℕ} (here : Cut s i at buf) {level : List ℕ} (is : level ≡ drop at buf) where
  pub level_len : length level ≡ width s (i + 1) * s.hash_block
  level_len = ap length (is ∙ here.back) ∙ length-replicate (width s (i + 1) * s.hash_block) 0

  pub level_zeros : level ≡ replicate (length level) 0
  level_zeros = is ∙ here.back ∙ ap (λ n. replicate n 0) (sym level_len)

  -- what is written there is a row
  pub level_row : (row : List ℕ) → length row ≡ length level → IsRow (over s (i + 1)) row
  level_row row same = same ∙ level_len ∙ ap (λ b. width s (i + 1) * b) (sym (ap (block_len s) (add-one i)))

-- no level has no bytes
pub no_level : (s : Shape) → levels s ≡ 0 → replicate {A = ℕ} (tree_len s) 0 ≡ []
unfolding blocks_from
no_level s none = let empty : 0 * s.hash_block ≡ 0 = omega arith in ap (λ n. replicate (blocks_from s 0 n * s.hash_block) 0) none ∙ ap (λ k. replicate k 0) empty

-- over the data lies the whole tree
pub count_data : (g : Geometry) → width (shape_of g) 0 ≡ (shape_of g).blocks
count_data g = width_zero (shape_of g) (omega (arith, bounds_of g))

pub over_data : (g : Geometry) → over (shape_of g) 0 ≡ shape_of g
over_data g = ap (λ w. shape g.data_block g.hash_block w g.slot) (count_data g)

pub row_over : (g : Geometry) (row : List ℕ) → IsRow (shape_of g) row → IsRow (over (shape_of g) 0) row
row_over g row whole = subst (λ t. IsRow t row) (sym (over_data g)) whole

pub zeros_over : (g : Geometry) {buf : List ℕ} → buf ≡ replicate (tree_len (shape_of g)) 0 → buf ≡ replicate (tree_len (over (shape_of g) 0)) 0
zeros_over g zeros = zeros ∙ ap (λ t. replicate (tree_len t) 0) (sym (over_data g))

pub block_len_within : (s : Shape) → within s ≡ true → (i : ℕ) → (0 < block_len s i) × (block_len s i ≤ 4096)
block_len_within s limits zero = let known = bounds s limits in (omega (arith, known.data_low), known.data_high)
block_len_within s limits (suc i) = let known = bounds s limits in (omega (arith, known.hash_low), known.hash_high)

-- a job has a tree, and so have its levels from i up
pub sound_of : {X : Type 0} {d : _} (job : Job X d) → ((m : List ℕ) → length (d.meaning m) ≡ d.LEN) → Sound (hash_by job) (shape_of job.geometry) d.LEN
sound_of {d = d} job sized = sound_salted d.meaning job.salt.now (shape_of job.geometry) d.LEN sized job.geometry.limits job.bare

pub sound_over : {X : Type 0} {d : _} (job : Job X d) (i : ℕ) → ((m : List ℕ) → length (d.meaning m) ≡ d.LEN) → Sound (hash_by job) (over (shape_of job.geometry) i) d.LEN
sound_over job i sized =
    let s = shape_of job.geometry in
    let sound = sound_of job sized in
    record {
      some = some_over s sound.wide i sound.some;
      wide = sound.wide;
      filled = sound.filled;
      bytes = (block_len_within s job.geometry.limits i).0;
      fits = sound.fits;
      sized = sound.sized;
    }
