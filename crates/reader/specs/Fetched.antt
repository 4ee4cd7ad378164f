-- A program of fetches over a store.
use Rattle.std.specs.Prelude.{ℕ, Result}
use Rattle.device.specs.declared.question.Question.{Question}
use Rattle.device.specs.Program.{Meaning}
use Rattle.device.specs.Run.{Ran}
use Rattle.volume.specs.declared.types.Start.{Start}
use Rattle.volume.specs.Fetches.{Fetches, by_blocks}
use Rattle.reader.specs.declared.romfs.Romfs.{Romfs}

-- by blocks of d bytes it takes the store from one value to another, and comes to this end
abbrev pub Fetched : {S F E X : Type 0} → (S → Meaning F) → (S → Question → S → Type 0) → ℕ → S → Fetches F E X → Result X E → S → Type 0
Fetched meaning moves d first program end last = Ran meaning moves first (by_blocks d program) end last

-- the same, of a volume that has begun
abbrev pub Reads : {S F E X : Type 0} → (S → Meaning F) → (S → Question → S → Type 0) → Romfs → S → (Start → Fetches F E X) → Result X E → S → Type 0
Reads meaning moves romfs first rules end last = Fetched meaning moves romfs.block.bytes first (rules romfs.start) end last
