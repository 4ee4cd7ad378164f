use Rattle.std.proofs.Common.{bit_and, bit_xor, ap, ◌∙◌, ap₂}
use Rattle.sha2_block.proofs.Bitwise.{majority_of}
use Rattle.sha2_block.proofs.bits.Bits.most.Goals as goal

pub returns : goal.returns
returns g c =
    let bits = g.met.Self.Bits in
    let value = g.Self.Bits.value in
    (bits.xors _ _).1 _ c.bitxor-3.ensures
    ∙ ap (bit_xor (value c.args.y))
    ((bits.ands _ _).1 _ c.bitand.ensures ∙ ap₂ bit_and ((bits.xors _ _).1 _ c.bitxor.ensures) ((bits.xors _ _).1 _ c.bitxor-2.ensures))
    ∙ majority_of (value c.args.self) (value c.args.y) (value c.args.z)
