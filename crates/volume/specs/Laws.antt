-- Going along a list ends by itself: each header stands behind the one before it and within the volume, so a volume of S bytes
-- has fewer than S + 1 of them in a row, and more steps than that change nothing.
use Rattle.std.specs.Prelude.{◌≡◌, ℕ, ◌<◌}
use Rattle.volume.specs.declared.types.Start.{Start}
use Rattle.volume.specs.Walk.{Sought, seek, find}

abbrev pub StepsSuffice : Type 0 → Type 0
StepsSuffice F = (start : Start) (place : ℕ) (sought : Sought) (at steps : ℕ) → start.size < steps → seek {F = F} start place steps sought at ≡ find start place sought at
