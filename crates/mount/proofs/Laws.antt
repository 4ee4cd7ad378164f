-- The law, from the making on.
use Rattle.std.proofs.Common.{◌≡◌, true, Some, subst}
use Rattle.device.specs.declared.question.Question.{Question}
use Rattle.device.specs.Program.{Meaning, Sized}
use Rattle.device.proofs.Runs.{Onward}
use Rattle.geometry.specs.Limits.{within}
use Rattle.layers.specs.Publisher.{Publisher, Whole, anchor_of}
use Rattle.layers.specs.Store.{StoreRule, IsStore}
use Rattle.calls.specs.Mount.{Mounted, made}
use Rattle.calls.specs.Law.{Used}
use Rattle.calls.proofs.Runs.{law_of_runs_lem, honest_is_image_lem}
use Rattle.mount.specs.Law.{LawFrom}

pub law-from : {R M D : Type 0} (store : StoreRule R M) (Keeps : Publisher → M → Type 0) → IsStore store Keeps → (meaning : D → Meaning R) (moves : D → Question → D → Type 0) → Onward meaning moves → ((d : D) → Sized (meaning d))
    → (p : Publisher) → Whole p → within p.shape ≡ true → (m : Mounted M) → m ≡ made store (Some (anchor_of p)) → (d : D) → LawFrom store meaning moves p m d
law-from store Keeps laws meaning moves onward sized p whole limits m is d xs n e used =
    let from_made = subst (λ v. Used store meaning moves v d xs n e) is used in
    (law_of_runs_lem store Keeps laws meaning moves onward sized p whole limits d e xs n from_made, honest_is_image_lem store Keeps laws meaning moves onward sized p whole limits d e xs n from_made)
