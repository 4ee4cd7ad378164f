use Rattle.std.proofs.Common.{◌≡◌, ◌+◌, ◌-◌, ◌*◌, ◌/◌, ◌≤◌, List, [], ◌∷◌, ◌++◌, length, take, replicate, ap, ◌∙◌, subst, ap₂, arith}
use Rattle.std.proofs.Math.Seq.{take-append_seam}
use Rattle.std.proofs.lemmas.List.{length-append}
use Rattle.sha2_block.specs.Bytes.{big_endian}
use Rattle.digest.specs.Buffer.{Filled}
use Rattle.digest.specs.Padding.{padded}
use Rattle.digest.proofs.Buffer.{four_writes}
use Rattle.digest.proofs.Padding.{whole, room, eight_bytes, written_tail}
use Rattle.digest.proofs.message.Message.pad.Goals as goal

pub returns : goal.returns
returns g c =
    let v = g.W.Word.variant in
    let bits = g.met.W.Word.bits in
    let first = c.args.self.now.first.now in
    let second = c.args.self.now.second.now in
    let m : List _ = first ++ second in
    let w = c.size-word.result in
    let n = c.len-n.result in
    let end = (n + 2 * w) / (16 * w) * (16 * w) + 16 * w in
    let count : n ≡ length m = c.len-n.ensures in
    let short : length m ≤ 4352 = omega (arith, c.args.self.now.short, length-append first second) in
    let len : end ≡ length (padded v m) = whole v bits m n w count c.size-word.ensures in
    let tail : c.to_be_bytes.result ≡ big_endian 8 (8 * length m) = eight_bytes (8 * n) _ c.to_be_bytes.ensures ∙ ap (λ k. big_endian 8 (8 * k)) count in
    let writes = four_writes first second c.to_be_bytes.result c.args.buf.now c.put.new.buf c.put-2.new.buf c.put-3.new.buf c.put-4.new.buf
    n (end - 8) (count ∙ length-append first second) c.requires c.put.ensures c.put-2.ensures c.put-3.ensures c.put-4.ensures (room v bits m n end count len) in
    let filled : Filled (padded v m) c.put-4.new.buf =
    subst (λ xs. Filled xs c.put-4.new.buf) (ap (λ xs. m ++ (0x80 ∷ []) ++ replicate (end - 8 - length (m ++ (0x80 ∷ []))) 0 ++ xs) tail ∙ written_tail v bits m end short len) writes in
    ap₂ take len filled ∙ take-append_seam (padded v m) _
