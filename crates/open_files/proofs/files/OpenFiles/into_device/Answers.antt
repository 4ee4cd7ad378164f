use Rattle.std.proofs.Common.{[], ◌∷◌, ◌++◌, ◌≡◌, ◌≤◌, ◌∙◌, ap, append_assoc, reverse, rules, subst, sym, vec_len}
use Rattle.std.proofs.lemmas.List.{append-nil, reverse-append}
use Rattle.mount.specs.Mount.{held_of}
use Rattle.open_files.specs.Steps.{Closed}
use Rattle.open_files.proofs.Closing.{none_closed, one_more_closed}
use Rattle.open_files.proofs.files.OpenFiles.into_device.Goals as goal

pub loop-file-init : goal.loop-file-init
loop-file-init g c =
    let held : vec_len c.args.self.files ≤ held_of c.args.self.mount = search rules in
    (held, [], sym (append-nil c.args.self.files.items), none_closed c.args.self.mount)

pub loop-file-preserved : goal.loop-file-preserved
loop-file-preserved g c =
    let file = c.in-Some.file in
    let others = c.loop-file.invariant.1 in
    let m = c.args.self.mount in
    let n = c.give_back.new.mount in
    let held : vec_len c.pop.new.self ≤ held_of n = search rules in
    let closed = one_more_closed m (reverse others) file c.loop-file.mount n c.loop-file.invariant.3 c.give_back.ensures.step in
    let all : c.args.self.files.items ≡ c.pop.new.self.items ++ file ∷ others =
    c.loop-file.invariant.2 ∙ ap (λ items. items ++ others) (c.in-Some.ensures.items) ∙ append_assoc c.pop.new.self.items (file ∷ []) others in
    (held, file ∷ others, all, subst (λ files. Closed m files n) (sym (reverse-append (file ∷ []) others)) closed)

pub returns : goal.returns
returns g c =
    let n = c.loop-file.mount in
    let none : c.loop-file.files.items ≡ [] = search rules in
    let all = c.loop-file.invariant.2 ∙ ap (λ items. items ++ c.loop-file.invariant.1) none in
    record { closed = (n, subst (λ files. Closed c.args.self.mount (reverse files) n) (sym all) c.loop-file.invariant.3, c.into_device.ensures) }
