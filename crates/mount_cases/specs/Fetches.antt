-- Fetches by blocks: what is asked for, and what bytes are taken of it.
use Rattle.std.specs.Prelude.{◌≡◌, ℕ, List, [], ◌∷◌, codes, Ok, Err}
use Rattle.device.specs.declared.question.Question.{Question}
use Rattle.device.specs.Answer.{Answer}
use Rattle.device.specs.Program.{asked, result}
use Rattle.volume.specs.Fetches.{fetch_blocks, by_blocks}
use Rattle.calls.specs.Calls.{Call, begin, open_file, read, list, close, call_rules}
use Rattle.calls.specs.Mount.{mount}
use Rattle.images.specs.Reading.{begun}
use Rattle.images.specs.Volumes.{v, file_a}
use Rattle.mount_cases.specs.Cards.{data_of, refusing, giving, all_but, cached, mount_of_v, begun_mount, alone, begun_alone}

-- three blocks of four bytes
abbrev pub twelve : List ℕ
twelve = codes "abcdefghijkl"

abbrev pub fetched : ℕ → ℕ → Answer ℕ
fetched from n = result (giving 4 twelve) (fetch_blocks 4 from n)

-- what a call on V asks for first, once begun, where no cache stands between
abbrev pub first_of : Call → List Question
first_of call = asked refusing (by_blocks 512 (call_rules 512 (begun v) call))

pub record FetchCases : Type 0 where
  -- each block that is touched is asked for once, in rising order
  pub asks_two : asked (giving 512 v) (fetch_blocks 512 500 24) ≡ data_of 512 0 ∷ data_of 512 1 ∷ []
  pub asks_three : asked (giving 512 v) (fetch_blocks 512 511 514) ≡ data_of 512 0 ∷ data_of 512 1 ∷ data_of 512 2 ∷ []
  pub asks_one : asked (giving 512 v) (fetch_blocks 512 512 512) ≡ data_of 512 1 ∷ []
  pub asks_last_byte : asked (giving 512 v) (fetch_blocks 512 1023 1) ≡ data_of 512 1 ∷ []
  pub asks_one_more : asked (giving 512 v) (fetch_blocks 512 512 513) ≡ data_of 512 1 ∷ data_of 512 2 ∷ []
  -- no bytes ask nothing, at a block's start and within it
  pub none_at_start : asked (giving 512 v) (fetch_blocks 512 512 0) ≡ []
  pub none_within : asked (giving 512 v) (fetch_blocks 512 500 0) ≡ []
  pub no_bytes : fetched 5 0 ≡ Ok []
  -- the bytes
  pub within : fetched 5 2 ≡ Ok (codes "fg")
  pub across : fetched 3 6 ≡ Ok (codes "defghi")
  pub whole_block : fetched 4 4 ≡ Ok (codes "efgh")
  -- the first refusal ends a fetch, and nothing is asked after it
  pub refused : result (all_but 1 4 twelve) (fetch_blocks 4 3 6) ≡ Err 7
  pub none_after : asked (all_but 1 4 twelve) (fetch_blocks 4 3 6) ≡ data_of 4 0 ∷ data_of 4 1 ∷ []
  -- of V, begin asks for its block, and begin again, a list and a read ask nothing, as the cache has it
  pub begin_asks : asked (giving 512 v) (mount cached mount_of_v begin) ≡ data_of 512 0 ∷ []
  pub begin_again_asks : asked (giving 512 v) (mount cached begun_mount begin) ≡ []
  pub list_asks : asked (giving 512 v) (mount cached begun_mount (list [] 0 128)) ≡ []
  pub read_asks : asked (giving 512 v) (mount cached begun_mount (read file_a 0 3)) ≡ []
  -- over the path check alone each fetch asks anew; the start is still remembered
  pub alone_begin_again_asks : asked (giving 512 v) (mount alone begun_alone begin) ≡ []
  pub alone_list_asks : asked (giving 512 v) (mount alone begun_alone (list [] 0 128)) ≡ data_of 512 0 ∷ []
  pub alone_read_asks : asked (giving 512 v) (mount alone begun_alone (read file_a 0 3)) ≡ data_of 512 0 ∷ []
  -- without a cache: begin again, a path with a bad component, a wrong length, a read of no bytes and a close fetch nothing
  pub begin_again_fetches : first_of begin ≡ []
  pub bad_path_fetches : first_of (open_file (codes "a/.")) ≡ []
  pub bad_list_fetches : first_of (list (codes "a/") 0 128) ≡ []
  pub list_length_fetches : first_of (list [] 0 1) ≡ []
  pub read_nothing_fetches : first_of (read file_a 3 4) ≡ []
  pub close_fetches : first_of (close file_a) ≡ []
  pub read_fetches : first_of (read file_a 0 4) ≡ data_of 512 0 ∷ []
