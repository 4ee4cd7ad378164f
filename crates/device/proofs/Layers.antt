-- A layer over a device is a device: its meaning goes on by its own questions, and its answers keep their size.
use Rattle.std.proofs.Common.{◌≡◌, [], ◌∷◌, ◌++◌, subst, ap, ap₂, ◌∙◌}
use Rattle.device.specs.declared.question.Question.{Question}
use Rattle.device.specs.Answer.{Answer}
use Rattle.device.specs.Program.{Program, done, ask, Meaning, after, result, asked, Fits, Sized}
use Rattle.device.specs.Run.{Ran}
use Rattle.device.specs.Layer.{layered, through, stacked, Through}
use Rattle.device.proofs.Runs.{Onward, ran-end, ran-bind, ran-then}

module _ {S R Q D : Type 0} (meaning : D → Meaning R) (moves : D → Question → D → Type 0) (onward : Onward meaning moves) (layer : S → Question → Program R (Answer Q × S)) where
  pub through-onward : (s : S) (d : D) (q : Question) (t : S) (e : D) → Through meaning moves layer s d q t e
      → layered layer t (meaning e) ≡ after (layered layer s (meaning d)) (q ∷ [])
  through-onward s d q t e (answer, ran) =
      let end = ran-end meaning moves onward (layer s q) d (answer, t) e ran in
      ap₂ (λ u m. layered layer u m) (ap (λ pair. pair.1) end.0) end.1

  -- the layer's program ran, and what it came to is the layer's answer
  pub layer-answer : (s : S) (d : D) (q : Question) (answer : Answer Q) (t : S) (e : D) → Ran meaning moves d (layer s q) (answer, t) e → answer ≡ layered layer s (meaning d) [] q
  layer-answer s d q answer t e ran = ap (λ pair. pair.0) (ran-end meaning moves onward (layer s q) d (answer, t) e ran).0

-- where each answer of the layer has its size and each state keeps what that takes, every answer does
pub layered-sized : {S R Q : Type 0} (layer : S → Question → Program R (Answer Q × S)) (Keeps : S → Type 0)
    → ((m : Meaning R) → Sized m → (s : S) → Keeps s → (q : Question) → Fits q (result m (layer s q)).0 × Keeps (result m (layer s q)).1)
    → (m : Meaning R) → Sized m → (s : S) → Keeps s → Sized (layered layer s m)
layered-sized layer Keeps each m sized s keeps [] q = (each m sized s keeps q).0
layered-sized layer Keeps each m sized s keeps (r ∷ qs) q =
    layered-sized layer Keeps each (after m (asked m (layer s r))) (λ more. sized (asked m (layer s r) ++ more)) (result m (layer s r)).1 (each m sized s keeps r).1 qs q

-- a device U that asks one below, D, by a rule: by a label, which no question changes, and by a state
module _ {R Q L S D U : Type 0} (meaning : D → Meaning R) (moves : D → Question → D → Type 0) (rule : L → S → Question → Program R (Answer Q × S)) (label : U → L) (state : U → S) (below : U → D)
    (above : U → Meaning Q) (steps : U → Question → U → Type 0)
    (each : (u v : U) (q : Question) → steps u q v → Ran meaning moves (below u) (rule (label u) (state u) q) (above u [] q, state v) (below v) × (label v ≡ label u)) where
  -- a run over it is a run over the one below, of the program with the rule put under it
  pub ran-below : {A : Type 0} (p : Program Q A) (u : U) (a : A) (v : U) → Ran above steps u p a v
      → Ran meaning moves (below u) (through (rule (label u)) p (state u)) (a, state v) (below v) × (label v ≡ label u)
  ran-below (done b) u a v ran = ((ap₂ (λ x y. (x, y)) ran.0 (ap state ran.1), ap below ran.1), ap label ran.1)
  ran-below (ask q next) u a v (w, moved, rest) =
      let one = each u w q moved in
      let later = ran-below (next (above u [] q)) w a v rest in (
        ran-bind meaning moves (rule (label u) (state u) q) (λ r. through (rule (label u)) (next r.0) r.1) (below u) (above u [] q, state w) (below w) (a, state v) (below v) one.0
            (subst (λ l. Ran meaning moves (below w) (through (rule l) (next (above u [] q)) (state w)) (a, state v) (below v)) one.1 later.0),
        later.1 ∙ one.1,
      )

  -- and a layer over it asks the one below by both rules
  pub ran-stacked : {P T : Type 0} → Onward above steps → (layer : T → Question → Program Q (Answer P × T)) (t : T) (u : U) (q : Question) (next : T) (v : U) → Through above steps layer t u q next v
      → Ran meaning moves (below u) (stacked layer (rule (label u)) (t, state u) q) (layered layer t (above u) [] q, (next, state v)) (below v) × (label v ≡ label u)
  ran-stacked onward layer t u q next v (answer, ran) =
      let all = ran-below (layer t q) u (answer, next) v ran in
      let both = ran-then meaning moves (λ end. (end.0.0, (end.0.1, end.1))) (through (rule (label u)) (layer t q) (state u)) (below u) ((answer, next), state v) (below v) all.0 in (
        subst (λ x. Ran meaning moves (below u) (stacked layer (rule (label u)) (t, state u) q) (x, (next, state v)) (below v)) (layer-answer above steps onward layer t u q answer next v ran) both,
        all.1,
      )
