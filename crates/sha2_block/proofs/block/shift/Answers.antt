use Rattle.sha2_block.proofs.Window.{moved}
use Rattle.sha2_block.proofs.block.shift.Goals as goal

pub returns : goal.returns
returns g c =
    moved g.W.Word.variant _ _ _ _ _ _ _ _ _ _ _ _ _ _ _ _ _ _ _ _ _
    c.small_sigma1.ensures c.plus.ensures c.small_sigma0.ensures c.plus-2.ensures c.plus-3.ensures
