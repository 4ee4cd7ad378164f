use Rattle.std.proofs.Common.{◌≡◌, ℕ, ◌-◌, ◌*◌, ◌<◌, ◌≤◌, length, get_or}
use Rattle.tree.specs.Shape.{Shape, fanout, levels, blocks_from, start}
use Rattle.geometry.proofs.spread.Spread.starts.Given as goal

abbrev pub invariant-loop-i : goal.invariant-loop-i
invariant-loop-i l =
    (length l.starts ≡ 7) × (l.total ≤ (l.levels - l.i) * 1048576)
    × ((s : Shape) → fanout s ≡ l.self.fanout → s.blocks ≡ l.self.blocks → levels s ≡ l.levels
    → (l.total ≡ blocks_from s l.i (l.levels - l.i)) × ((j : ℕ) → l.i ≤ j → j < 7 → get_or l.starts j 0 ≡ start s j))
