-- What a table of the cache is after an answer: the row in turn is written, the others stay, and the turn goes on.
use Rattle.std.specs.Prelude.{ℕ, List, [], ◌∷◌, replicate, Ok, Err, Option, Some, None}
use Rattle.layers.specs.Cache.{Row, Table, empty}
use Rattle.layers.specs.CacheLaws.{Wrote, Keeps}
use Rattle.mount_cases.specs.Cards.{data_of}

-- a row of these bytes
abbrev pub row_of : List ℕ → Row
row_of bytes = record { question = data_of 1 0; bytes = bytes }

abbrev pub row : Option Row
row = Some (row_of (5 ∷ []))

abbrev pub table_of : List (Option Row) → ℕ → Table
table_of rows turn = record { rows = rows; turn = turn }

-- the empty table with a row written
abbrev pub written : Table
written = table_of (row ∷ replicate 3 None) 1

-- it is this after an answer for the row was written
abbrev pub becomes : Table → Type 0
becomes new = Wrote empty (row_of (5 ∷ [])) new

pub record RowCases : Type 0 where
  pub elsewhere : becomes (table_of (None ∷ row ∷ replicate 2 None) 1) → ⊥
  pub unwritten : becomes (table_of (replicate 4 None) 1) → ⊥
  pub written_twice : becomes (table_of (row ∷ row ∷ replicate 2 None) 1) → ⊥
  pub turn_stays : becomes (table_of (row ∷ replicate 3 None) 0) → ⊥
  pub turn_skips : becomes (table_of (row ∷ replicate 3 None) 2) → ⊥
  pub turn_past_the_fourth : Wrote (table_of (replicate 4 None) 3) (row_of (5 ∷ [])) (table_of (None ∷ None ∷ None ∷ row ∷ []) 4) → ⊥
  -- what is kept: an answer of up to 4,096 bytes, no longer one, and no refusal
  pub kept_not : Keeps {R = ℕ} empty (data_of 1 0) (Ok (5 ∷ [])) empty → ⊥
  pub longest_kept_not : Keeps {R = ℕ} empty (data_of 1 0) (Ok (replicate 4096 0)) empty → ⊥
  pub longer_kept : Keeps {R = ℕ} empty (data_of 1 0) (Ok (replicate 4097 0)) written → ⊥
  pub refusal_kept : Keeps {R = ℕ} empty (data_of 1 0) (Err 7) written → ⊥
