use Rattle.std.proofs.Common.{ℕ, ◌<◌, List, get_or, subst, arith}
use Rattle.std.proofs.lemmas.List.{length-take}
use Rattle.label_text.specs.Label.{told}
use Rattle.label_text.proofs.Reading.{printed_reads}
use Rattle.label_text.proofs.laws.label_reads.Goals as goal

pub returns : goal.returns
returns c =
    let are_bytes : List ℕ → Type 0 = λ bytes. (i : ℕ) → get_or bytes i 0 < 256 in
    printed_reads (told c.args.label.now) (record {
      blocks = c.is_word.ensures;
      data_block = c.is_word-2.ensures;
      hash_block = c.is_word-3.ensures;
      salt = omega (arith, length-take c.args.label.now.salt.len c.args.label.now.salt.buffer, c.args.label.now.salt.within);
      salt_bytes = subst are_bytes c.salt.ensures c.are_bytes.ensures;
      root = c.args.label.now.whole;
      root_bytes = subst are_bytes c.root.ensures c.are_bytes-2.ensures;
    })
