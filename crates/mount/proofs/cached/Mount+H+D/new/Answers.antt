use Rattle.std.proofs.Common.{ap, ◌∙◌}
use Rattle.layers.proofs.Stores.{cached_check-store}
use Rattle.verity.specs.Layer as verity
use Rattle.calls.specs.Mount.{cached_check}
use Rattle.mount.proofs.Laws.{law-from}
use Rattle.mount.proofs.Premises.{limits, whole}
use Rattle.mount.proofs.Stepping.{made_is}
use Rattle.mount.proofs.cached.Mount+H+D.new.Goals as goal

pub returns-clause-law : goal.returns-clause-law
returns-clause-law g c p his =
    let h = g.H.Digest in
    let label = c.args.label.now in
    law-from (cached_check _) _ cached_check-store g.D.Device.meaning g.D.Device.moves g.met.D.Device.onward g.met.D.Device.sized p (whole h.NUMBER h.LEN h.meaning g.met.H.Digest.lengths p label his) (limits h.NUMBER h.LEN h.meaning g.met.H.Digest.lengths p label his) _
    (made_is (cached_check g.row.D-Refusal.Denot) _ _ _ _ (ap verity.label_of c.new-2.ensures.below ∙ c.new.ensures.label ∙ his.told) (ap (λ t. (t, tt)) c.new-2.ensures.table) c.new-3.ensures) _
