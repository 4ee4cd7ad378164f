-- What holds of the cache over any device, from its making on.
use Rattle.std.specs.Prelude.{◌≡◌, ◌≢◌, ℕ, ◌+◌, ◌<◌, ◌≤◌, List, [], ◌∷◌, ◌++◌, length, get_or, Ok, Err, Option, Some, None, IfOk, IfSome}
use Rattle.std.specs.List.{AllByRecursion}
use Rattle.device.specs.declared.question.Question.{Question}
use Rattle.device.specs.Answer.{Answer}
use Rattle.device.specs.Program.{Meaning, Exchange, Somewhere, result, asked, exchanges}
use Rattle.device.specs.Layer.{state_after, meaning_after, asked_for}
use Rattle.geometry.specs.Limits.{block_limit}
use Rattle.layers.specs.Path.{given}
use Rattle.layers.specs.Cache.{Row, Table, empty, find, cache_layer}

-- no question has two rows
abbrev pub Once : List (Option Row) → Type 0
Once [] = Unit {0}
Once (row ∷ rows) = IfSome row (λ r. find r.question rows ≡ None) × Once rows

-- four rows, each with what the device below gave for exactly its question, and no question with two
pub record Holds {R : Type 0} (table : Table) (xs : List (Exchange R)) : Type 0 where
  pub four : length table.rows ≡ 4
  pub turn : table.turn < 4
  pub gave : AllByRecursion (λ row. IfSome row (λ r. Somewhere (λ x. x ≡ given r.question r.bytes) xs)) table.rows
  pub once : Once table.rows

-- the row whose turn it was has this, the others are as before, and the turn is the next: the first's after the fourth's
pub record Wrote (old : Table) (row : Row) (new : Table) : Type 0 where
  pub written : get_or new.rows old.turn None ≡ Some row
  pub others : (i : ℕ) → i ≢ old.turn → get_or new.rows i None ≡ get_or old.rows i None
  pub next : old.turn < 3 → new.turn ≡ old.turn + 1
  pub first : old.turn ≡ 3 → new.turn ≡ 0

-- what the table is after the answer to a question that no row had: with a row for it, if it was accepted and has at most 4,096
-- bytes, and else as it was
abbrev pub Keeps : {R : Type 0} → Table → Question → Answer R → Table → Type 0
Keeps old q (Ok bytes) new = (length bytes ≤ block_limit → Wrote old (record { question = q; bytes = bytes }) new) × (block_limit < length bytes → new ≡ old)
Keeps old q (Err refusal) new = new ≡ old

-- a question to the cache after some others, from the empty table on
pub record Cached {R : Type 0} (m : Meaning R) (qs : List Question) (q : Question) : Type 0 where
  pub holds : Holds (state_after cache_layer empty m qs) (asked_for cache_layer empty m qs)
  -- what a row has is answered, asks nothing and leaves the table
  pub hit : (bytes : List ℕ) → find q (state_after cache_layer empty m qs).rows ≡ Some bytes
      → (result (meaning_after cache_layer empty m qs) (cache_layer (state_after cache_layer empty m qs) q) ≡ (Ok bytes, state_after cache_layer empty m qs))
      × (asked (meaning_after cache_layer empty m qs) (cache_layer (state_after cache_layer empty m qs) q) ≡ [])
  -- what no row has goes below, once, and the answer is passed on
  pub miss : find q (state_after cache_layer empty m qs).rows ≡ None
      → (asked (meaning_after cache_layer empty m qs) (cache_layer (state_after cache_layer empty m qs) q) ≡ q ∷ [])
      × ((result (meaning_after cache_layer empty m qs) (cache_layer (state_after cache_layer empty m qs) q)).0 ≡ meaning_after cache_layer empty m qs [] q)
  -- and is kept
  pub keeps : find q (state_after cache_layer empty m qs).rows ≡ None
      → Keeps (state_after cache_layer empty m qs) q (result (meaning_after cache_layer empty m qs) (cache_layer (state_after cache_layer empty m qs) q)).0
      (result (meaning_after cache_layer empty m qs) (cache_layer (state_after cache_layer empty m qs) q)).1
  -- an accepted answer is what the device below gave to exactly this question, now or before
  pub gave : IfOk (result (meaning_after cache_layer empty m qs) (cache_layer (state_after cache_layer empty m qs) q)).0
      (λ bytes. Somewhere (λ x. x ≡ given q bytes)
      (asked_for cache_layer empty m qs ++ exchanges (meaning_after cache_layer empty m qs) (cache_layer (state_after cache_layer empty m qs) q)))

abbrev pub CacheStands : Type 0 → Type 0
CacheStands R = (m : Meaning R) (qs : List Question) (q : Question) → Cached m qs q
