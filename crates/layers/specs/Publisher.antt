-- The publisher of a card: the image that its label tells of, and which block is right for a question.
use Rattle.std.specs.Prelude.{◌≡◌, ◌≢◌, ℕ, ◌*◌, cond, ◌&&◌, List, length, Ok, Option, Some, None, ◌==◌, nat_lt}
use Rattle.std.specs.List.{AllByRecursion}
use Rattle.device.specs.declared.question.Area.TheVariants.{Data, Tree}
use Rattle.device.specs.declared.question.Question.{Question}
use Rattle.device.specs.Program.{Exchange}
use Rattle.tree.specs.Shape.{Shape, tree_blocks}
use Rattle.tree.specs.Tree.{block_of, tree, root}
use Rattle.tree.specs.Laws.{Sound}
use Rattle.layers.specs.Anchor.{Anchor}

pub record Publisher : Type 0 where
  -- the salted digest of a block, and how many bytes it has
  pub salted : List ℕ → List ℕ
  pub size : ℕ
  pub shape : Shape
  pub image : List ℕ

-- the shape has a tree, and the image is whole blocks
pub record Whole (p : Publisher) : Type 0 where
  pub sound : Sound p.salted p.shape p.size
  pub filled : length p.image ≡ p.shape.blocks * p.shape.data_block

-- what the publisher's label tells
abbrev pub anchor_of : Publisher → Anchor
anchor_of p = record { salted = p.salted; size = p.size; shape = p.shape; root = root p.salted p.shape p.image }

-- the block of a row of n blocks of these many bytes that a question is for
abbrev pub block_for : ℕ → ℕ → List ℕ → Question → Option (List ℕ)
block_for bytes n row q = cond (q.length == bytes && nat_lt q.block n) (Some (block_of bytes row q.block)) None

-- the publisher's block for a question: of the image, or of its tree
unfoldable pub right_block : Publisher → Question → Option (List ℕ)
right_block p q = elim q.area [
  | Data ↦ block_for p.shape.data_block p.shape.blocks p.image q
  | Tree ↦ block_for p.shape.hash_block (tree_blocks p.shape) (tree p.salted p.shape p.image) q
]

-- a device gave something else than the publisher's block
pub record Differs {R : Type 0} (p : Publisher) (x : Exchange R) : Type 0 where
  pub given : List ℕ
  pub right : List ℕ
  pub answered : x.answer ≡ Ok given
  pub published : right_block p x.question ≡ Some right
  pub unlike : given ≢ right

-- a twin: a wrong block of equal length and equal salted digest
pub record Twin {R : Type 0} (p : Publisher) (x : Exchange R) : Type 0 where
  pub given : List ℕ
  pub right : List ℕ
  pub answered : x.answer ≡ Ok given
  pub published : right_block p x.question ≡ Some right
  pub unlike : given ≢ right
  pub long : length given ≡ length right
  pub same : p.salted given ≡ p.salted right

abbrev pub NoTwin : {R : Type 0} → Publisher → List (Exchange R) → Type 0
NoTwin p = AllByRecursion (λ x. Twin p x → ⊥)

-- a device gave the publisher's block to each question that has one
abbrev pub Honest : {R : Type 0} → Publisher → List (Exchange R) → Type 0
Honest p = AllByRecursion (λ x. (right : List ℕ) → right_block p x.question ≡ Some right → x.answer ≡ Ok right)
