use Rattle.std.proofs.Common.{◌≡◌, ℕ, ◌++◌, length, take, drop, replicate, sym, ap, ◌∙◌, subst, arith}
use Rattle.std.proofs.lemmas.List.{length-take}
use Rattle.calls.specs.Calls.{filled_to}
use Rattle.reader.proofs.Fronts.{front-of, front-filled, front-zeros, always-ok, on-err}
use Rattle.reader.proofs.front.read_front.Goals as goal

pub returns-clause-filled : goal.returns-clause-filled
returns-clause-filled g c =
    let n = length c.args.buf.now in
    let k = c.args.count in
    let bytes = c.fetch.new.buf in
    let long : length bytes ≡ k = c.fetch.auto.buf ∙ (let all = length-take k c.wipe.new.buf in omega (arith, all, c.wipe.auto.buf, c.requires.inside)) in
    let zeros = c.wipe.ensures in
    always-ok c.fetch.result (bytes ++ drop k c.wipe.new.buf ≡ filled_to n (take k (bytes ++ drop k c.wipe.new.buf)))
    (subst (λ z. bytes ++ drop k z ≡ filled_to n (take k (bytes ++ drop k z))) (sym zeros) (front-filled n k c.requires.inside bytes long ∙ ap (filled_to n) (sym (front-of n k c.requires.inside bytes long))))

pub returns-clause-zeros : goal.returns-clause-zeros
returns-clause-zeros g c =
    let n = length c.args.buf.now in
    let k = c.args.count in
    let bytes = c.fetch.new.buf in
    let m = length (take k c.wipe.new.buf) in
    let long : m ≡ k = (let all = length-take k c.wipe.new.buf in omega (arith, all, c.wipe.auto.buf, c.requires.inside)) in
    let zeros = c.wipe.ensures in
    on-err c.fetch.result (bytes ≡ replicate m 0) (bytes ++ drop k c.wipe.new.buf ≡ replicate n 0)
    (λ is. ap (λ xs. xs ++ drop k c.wipe.new.buf) (is ∙ ap (λ j. replicate j 0) long) ∙ ap (λ z. ◌++◌ {A = ℕ} (replicate k 0) (drop k z)) zeros ∙ front-zeros n k c.requires.inside) c.fetch.ensures.zeros
