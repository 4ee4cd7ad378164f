-- Each row has as many bytes as its question asks for: what the interface asks of a cache's answers.
use Rattle.std.specs.Prelude.{◌≡◌, ℕ, List, [], ◌∷◌, map, length, take, Option, Some, None, IfSome}
use Rattle.std.specs.List.{AllByRecursion}
use Rattle.device.specs.declared.question.Question.{Question}
use Rattle.layers.proofs.Caching.{Whole}
use Rattle.cache.specs.declared.row.Row.{Row}
use Rattle.cache.specs.Rows.{kept, row_of}

whole_row : (bytes : List ℕ) (o : Option Question) → IfSome o (λ q. length (take q.length bytes) ≡ q.length) → IfSome (kept bytes o) Whole
whole_row bytes None long = tt
whole_row bytes (Some q) long = long

pub whole_rows : (rows : List Row) → AllByRecursion (λ row. IfSome row Whole) (map row_of rows)
whole_rows [] = tt
whole_rows (row ∷ rows) = (whole_row row.bytes row.question row.whole, whole_rows rows)
