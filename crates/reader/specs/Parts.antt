-- A component that the code stands at, as the rules take it.
use Rattle.std.specs.Prelude.{◌+◌, ◌-◌, cond, List, [], ◌∷◌, length, take, drop, Option, Some, None, ◌==◌}
use Rattle.volume.specs.Paths.{Part, parts_from}
use Rattle.reader.specs.declared.component.Component.{Component}

abbrev pub part_value : Component → Part
part_value c = record { at = c.at; name = take (c.end - c.at) (drop c.at c.path.now) }

-- the components behind it
abbrev pub parts_behind : Component → List Part
parts_behind c = cond (c.end == length c.path.now) [] (parts_from (c.end + 1) [] (drop (c.end + 1) c.path.now))

abbrev pub parts_of : Option Component → List Part
parts_of None = []
parts_of (Some c) = part_value c ∷ parts_behind c
