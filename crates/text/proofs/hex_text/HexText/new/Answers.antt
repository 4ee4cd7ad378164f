use Rattle.std.proofs.Common.{sym, ◌∙◌, arith}
use Rattle.text.proofs.Pairs.{paired_end, paired_less, paired_not, paired_odd}
use Rattle.text.proofs.hex_text.HexText.new.Goals as goal

pub returns-in_err-byte_of : goal.returns-in_err-byte_of
returns-in_err-byte_of c =
    rw c.from_residual.ensures (record {
      bytes = paired_not c.loop-rest.rest.now _ c.in-len2-up.len_at_least (sym c.byte_of.ensures ∙ c.in_err-byte_of.was) c.loop-rest.invariant;
      text = tt;
    })

pub loop-rest-preserved : goal.loop-rest-preserved
loop-rest-preserved c = paired_less c.loop-rest.rest.now c.in_ok-byte_of.field-0 c.in-len2-up.len_at_least (sym c.byte_of.ensures ∙ c.in_ok-byte_of.was) ∙ c.loop-rest.invariant

pub invariant_of-result : goal.invariant_of-result
invariant_of-result c = record { paired = paired_end c.loop-rest.rest.now _ (omega arith) c.loop-rest.invariant }

pub returns-in_default-rest : goal.returns-in_default-rest
returns-in_default-rest c = record {
  bytes = paired_odd c.loop-rest.rest.now _ c.in_default.len_below (omega arith) c.loop-rest.invariant;
  text = tt;
}
