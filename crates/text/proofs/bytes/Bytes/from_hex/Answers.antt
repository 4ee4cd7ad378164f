use Rattle.std.proofs.Common.{◌∙◌, sym, arith}
use Rattle.std.proofs.lemmas.List.{length-drop, length-set, take_more_set, take_rest}
use Rattle.text.proofs.Limits.{unhexed_none, unhexed_within}
use Rattle.text.proofs.Pairs.{ended, odd, paired, two_less, unpaired}
use Rattle.text.proofs.bytes.Bytes.from_hex.Goals as goal

pub returns-then-text-ne0 : goal.returns-then-text-ne0
returns-then-text-ne0 g c = unhexed_none g.row.N c.args.text.now (odd c.args.text.now c.if-text-ne0.true)

pub returns-in_err-buffer : goal.returns-in_err-buffer
returns-in_err-buffer g c =
    rw c.from_residual.ensures (unhexed_none g.row.N c.args.text.now
    (unpaired c.loop-rest.rest.now _ _ c.in-len2-up.len_at_least (sym c.byte_of.ensures ∙ c.in_err-buffer.was) c.loop-rest.invariant.found))

pub loop-rest-preserved : goal.loop-rest-preserved
loop-rest-preserved g c = record {
  size = length-set c.loop-rest.buffer c.loop-rest.len c.in_ok-buffer.field-0 ∙ c.loop-rest.invariant.size;
  even = two_less c.loop-rest.rest.now c.in-len2-up.len_at_least c.loop-rest.invariant.even;
  room = rw take_rest (omega (arith, length-drop 2 c.loop-rest.rest.now));
  found = paired c.loop-rest.rest.now _ _ c.in_ok-buffer.field-0 _ c.in-len2-up.len_at_least (sym c.byte_of.ensures ∙ c.in_ok-buffer.was)
      (take_more_set c.loop-rest.buffer c.loop-rest.len c.in_ok-buffer.field-0 (omega arith)) c.loop-rest.invariant.found;
}

pub returns : goal.returns
returns g c = unhexed_within g.row.N c.args.text.now _ (omega arith) (ended _ c.loop-rest.rest.now _ c.in_default.len_below c.loop-rest.invariant.even c.loop-rest.invariant.found)
