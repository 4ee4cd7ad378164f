-- The rows of a cache, as its rule takes them.
use Rattle.std.specs.Prelude.{ℕ, List, map, take, Option, Some, None}
use Rattle.device.specs.declared.question.Question.{Question}
use Rattle.layers.specs.Cache as rule
use Rattle.cache.specs.declared.row.Row.{Row}
use Rattle.cache.specs.declared.rows.Rows.{Rows}

-- a question has the first of the bytes, as many as it asks for
abbrev pub kept : List ℕ → Option Question → Option rule.Row
kept bytes None = None
kept bytes (Some q) = Some (record { question = q; bytes = take q.length bytes })

abbrev pub row_of : Row → Option rule.Row
row_of row = kept row.bytes row.question

abbrev pub table_of : Rows → rule.Table
table_of rows = record { rows = map row_of rows.rows; turn = rows.turn.row }
