-- The numbers and places of a storage fault, and which blocks lie on a level.
use Rattle.std.specs.Prelude.{ℕ, suc, ◌+◌, ◌<◌, ◌≤◌, Option, Some, None}
use Rattle.device.specs.declared.question.Area.{Area}
use Rattle.device.specs.declared.question.Area.TheVariants as area
use Rattle.tree.specs.Shape.{Shape, levels, width, start}
use Rattle.layers.specs.declared.fault.Level.{Level}
use Rattle.layers.specs.declared.fault.Level.TheVariants.{Data, Tree}
use Rattle.layers.specs.declared.fault.Place.{Place}
use Rattle.layers.specs.declared.fault.StorageFault.{StorageFault}
use Rattle.layers.specs.declared.fault.StorageFault.TheVariants.{Label, NoBlock, Refused, Mismatch}

-- a level of the tree has its own number, the data 255
abbrev pub level_number : Level → ℕ
level_number Data = 255
level_number (Tree i) = i

abbrev pub area_of : Level → Area
area_of Data = area.Data
area_of (Tree i) = area.Tree

-- a label outside its limits, a question that is for no data block, a block refused below, a block whose digest is wrong
abbrev pub number_of : {R : Type 0} → StorageFault R → ℕ
number_of Label = 2
number_of (NoBlock block) = 12
number_of (Refused place below) = 10
number_of (Mismatch place) = 11

-- the place of data block k
abbrev pub data_place : ℕ → Place
data_place k = record { level = Data; block = k }

-- the place of a fault; a label has none
abbrev pub place_of : {R : Type 0} → StorageFault R → Option Place
place_of Label = None
place_of (NoBlock block) = Some (data_place block)
place_of (Refused place below) = Some place
place_of (Mismatch place) = Some place

-- a block of this number lies on this level: the data has N, and level i of the tree has those from start(i) on, as many as it
-- is wide
abbrev pub IsOn : Shape → Level → ℕ → Type 0
IsOn s Data block = block < s.blocks
IsOn s (Tree i) block = (i < levels s) × (start s i ≤ block) × (block < start s i + width s (suc i))

-- the block of a place lies on the place's level
abbrev pub Lies : Shape → Place → Type 0
Lies s place = IsOn s place.level place.block
