-- A card that turns: one memory answers the first questions, and another those after them.
use Rattle.std.specs.Prelude.{ℕ, ◌-◌, cond, [], ◌∷◌, nat_lt}
use Rattle.device.specs.Program.{Meaning}
use Rattle.media.specs.declared.fault.Outside.{Outside}

-- with so many questions left to the first
abbrev pub turning : Meaning Outside → Meaning Outside → ℕ → Meaning Outside
turning first second left [] q = cond (nat_lt 0 left) (first [] q) (second [] q)
turning first second left (r ∷ qs) q = turning first second (left - 1) qs q
