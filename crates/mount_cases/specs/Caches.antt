-- The cache: what goes below, and what the rows have after it.
use Rattle.std.specs.Prelude.{◌≡◌, ℕ, List, [], ◌∷◌, length, replicate, map, Ok, Err}
use Rattle.device.specs.declared.question.Question.{Question}
use Rattle.device.specs.Program.{Meaning}
use Rattle.device.specs.Layer.{layered, state_after, asked_for}
use Rattle.layers.specs.Cache.{empty, cache_layer}
use Rattle.mount_cases.specs.Cards.{data_of, tree_of, refusing}

-- a device that answers each question by as many bytes as it wants, and one that answers by how many were put before it
abbrev pub filling : Meaning ℕ
filling qs q = Ok (replicate q.length 0)

abbrev pub counting : Meaning ℕ
counting qs q = Ok (length qs ∷ [])

-- which questions go below, of some that are put to the cache
abbrev pub below : Meaning ℕ → List Question → List Question
below device qs = map (λ x. x.question) (asked_for cache_layer empty device qs)

-- questions for these blocks, of n bytes
abbrev pub blocks : ℕ → List ℕ → List Question
blocks n ks = map (data_of n) ks

pub record CacheCases : Type 0 where
  -- four rows, written in turn, the first after the fourth
  pub four_rows : below counting (blocks 512 (0 ∷ 1 ∷ 2 ∷ 3 ∷ 0 ∷ 1 ∷ 2 ∷ 3 ∷ [])) ≡ blocks 512 (0 ∷ 1 ∷ 2 ∷ 3 ∷ [])
  pub first_goes : below counting (blocks 512 (0 ∷ 1 ∷ 2 ∷ 3 ∷ 4 ∷ 0 ∷ [])) ≡ blocks 512 (0 ∷ 1 ∷ 2 ∷ 3 ∷ 4 ∷ 0 ∷ [])
  pub others_stay : below counting (blocks 512 (0 ∷ 1 ∷ 2 ∷ 3 ∷ 4 ∷ 1 ∷ 2 ∷ 3 ∷ [])) ≡ blocks 512 (0 ∷ 1 ∷ 2 ∷ 3 ∷ 4 ∷ [])
  pub second_goes_next : below counting (blocks 512 (0 ∷ 1 ∷ 2 ∷ 3 ∷ 4 ∷ 5 ∷ 0 ∷ 1 ∷ [])) ≡ blocks 512 (0 ∷ 1 ∷ 2 ∷ 3 ∷ 4 ∷ 5 ∷ 0 ∷ 1 ∷ [])
  -- a row that is asked for again is no younger for it
  pub hit_moves_nothing : below counting (blocks 512 (0 ∷ 1 ∷ 2 ∷ 3 ∷ 0 ∷ 4 ∷ 0 ∷ [])) ≡ blocks 512 (0 ∷ 1 ∷ 2 ∷ 3 ∷ 4 ∷ 0 ∷ [])
  -- an answer of 4,096 bytes is kept, and one of none, but no longer one
  pub keeps_4096 : below filling (blocks 4096 (0 ∷ 1 ∷ 2 ∷ 3 ∷ 0 ∷ [])) ≡ blocks 4096 (0 ∷ 1 ∷ 2 ∷ 3 ∷ [])
  pub keeps_0 : below filling (blocks 0 (0 ∷ 0 ∷ [])) ≡ blocks 0 (0 ∷ [])
  pub not_4097 : below filling (blocks 4097 (0 ∷ 0 ∷ [])) ≡ blocks 4097 (0 ∷ 0 ∷ [])
  pub longer_moves_nothing : state_after cache_layer empty filling (blocks 4097 (0 ∷ [])) ≡ empty
  -- a refusal is not kept
  pub not_refused : below refusing (blocks 512 (0 ∷ 0 ∷ [])) ≡ blocks 512 (0 ∷ 0 ∷ [])
  pub refusal_moves_nothing : state_after cache_layer empty refusing (blocks 512 (0 ∷ [])) ≡ empty
  -- a question is another by its area, its number or its length
  pub by_area : below counting (data_of 512 0 ∷ tree_of 512 0 ∷ data_of 512 0 ∷ tree_of 512 0 ∷ []) ≡ data_of 512 0 ∷ tree_of 512 0 ∷ []
  pub by_length : below counting (data_of 512 0 ∷ data_of 513 0 ∷ data_of 512 0 ∷ []) ≡ data_of 512 0 ∷ data_of 513 0 ∷ []
  -- what is answered is what was given below for this question
  pub answers : layered cache_layer empty counting (blocks 512 (0 ∷ 1 ∷ [])) (data_of 512 1) ≡ Ok (1 ∷ [])
  pub passes_on : layered cache_layer empty counting (blocks 512 (0 ∷ 1 ∷ 1 ∷ [])) (data_of 512 2) ≡ Ok (2 ∷ [])
  pub passes_refusals : layered cache_layer empty refusing (blocks 512 (0 ∷ [])) (data_of 512 0) ≡ Err 7
