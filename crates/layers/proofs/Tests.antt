-- A test, and what each of its outcomes says.
use Rattle.std.proofs.Common.{◌≡◌, Bool, true, false, ◌&&◌, eqb, ltb, ◌<◌, refl, ap₂}
use Rattle.std.proofs.lemmas.Bool.{and_parts, eqb-true, ltb-true}
use Rattle.device.specs.declared.question.Area.{Area}
use Rattle.device.specs.declared.question.Area.TheVariants.{Data, Tree}
use Rattle.device.specs.declared.question.Question.{Question}
use Rattle.tree.specs.Shape.{Shape}
use Rattle.layers.specs.Verity.{is_data, is_block}
use Rattle.layers.specs.Path.{data_question}

-- a test and its two outcomes
pub tested : (b : Bool) (P : Bool → Type 0) → (b ≡ true → P true) → (b ≡ false → P false) → P b
tested true P f g = f refl
tested false P f g = g refl

area_is : (area : Area) → is_data area ≡ true → area ≡ Data
area_is Data is = refl
area_is Tree is = cc

-- a question for a block is the question for its number's data block
pub block-parts : (s : Shape) (q : Question) → is_block s q ≡ true → (q.block < s.blocks) × (q ≡ data_question s q.block)
block-parts s q is =
    let parts = and_parts (is_data q.area && eqb q.length s.data_block) (ltb q.block s.blocks) is in
    let front = and_parts (is_data q.area) (eqb q.length s.data_block) parts.0 in
    let area : q.area ≡ Data = area_is q.area front.0 in
    let long : q.length ≡ s.data_block = eqb-true q.length s.data_block front.1 in (
      ltb-true q.block s.blocks parts.1,
      ap₂ (λ a n. record { area = a; block = q.block; length = n }) area long,
    )
