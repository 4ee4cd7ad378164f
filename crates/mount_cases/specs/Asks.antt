-- What fetches may ask for: the blocks that their bytes touch, in rising order, and nothing behind a refusal.
use Rattle.std.specs.Prelude.{ℕ, List, [], ◌∷◌, ◌++◌, Result, Ok, Err}
use Rattle.device.specs.Answer.{Answer}
use Rattle.layers.specs.declared.fault.StorageFault.{StorageFault}
use Rattle.layers.specs.declared.fault.StorageFault.TheVariants.{Label, Refused}
use Rattle.layers.specs.Fault.{data_place}
use Rattle.layers.specs.Path.{given}
use Rattle.volume.specs.Fetches.{Fetches, give, refuse, fetch}
use Rattle.calls.specs.Paths.{Path, Fetch, Rising, Touches, EndsCut, IsAsked, Makes}
use Rattle.mount_cases.specs.Blames.{refused_of}
use Rattle.mount_cases.specs.Cards.{data_of, pair}
use Rattle.mount_cases.specs.Cuts.{top, last, refused_last}

-- paths to the two blocks of the pair, whole and cut at the data
abbrev pub to_0 : Path ℕ
to_0 = record { block = 0; exchanges = top ∷ given (data_of 1 0) (5 ∷ []) ∷ [] }

abbrev pub cut_0 : Path ℕ
cut_0 = record { block = 0; exchanges = top ∷ refused_of (data_of 1 0) ∷ [] }

abbrev pub to_1 : Path ℕ
to_1 = record { block = 1; exchanges = top ∷ last ∷ [] }

abbrev pub cut_1 : Path ℕ
cut_1 = record { block = 1; exchanges = top ∷ refused_last ∷ [] }

abbrev pub refusal_of : ℕ → StorageFault ℕ
refusal_of k = Refused (data_place k) 7

-- a fetch of n bytes from an offset, what it was answered, and its paths
abbrev pub fetch_of : ℕ → ℕ → Answer (StorageFault ℕ) → List (Path ℕ) → Fetch ℕ
fetch_of from n answer paths = record { from = from; size = n; answer = answer; paths = paths }

-- a program that fetches a byte at 0 and one at 1, and gives both
abbrev pub both : Fetches (StorageFault ℕ) (StorageFault ℕ) (List ℕ)
both = fetch 0 1 (λ below. below) (λ bytes. fetch 1 1 (λ below. below) (λ more. give (bytes ++ more)))

abbrev pub one_byte : ℕ → Answer (StorageFault ℕ) → Fetch ℕ
one_byte from answer = fetch_of from 1 answer []

-- it makes these fetches, and comes to this
abbrev pub comes_by : List (Fetch ℕ) → Result (List ℕ) (StorageFault ℕ) → Type 0
comes_by fetches r = Makes both fetches r

pub record AskCases : Type 0 where
  -- the order of blocks: none below one before it, and none twice
  pub falling : Rising (1 ∷ 0 ∷ []) → ⊥
  pub falling_later : Rising (0 ∷ 2 ∷ 1 ∷ []) → ⊥
  pub twice : Rising (1 ∷ 1 ∷ []) → ⊥
  -- the blocks of some bytes are not the one before the first byte, nor the one behind the last, and none of no bytes
  pub before_the_first : Touches 4 4 4 0 → ⊥
  pub behind_the_last : Touches 4 0 4 1 → ⊥
  pub of_no_bytes : Touches 4 1 0 0 → ⊥
  -- where a block failed the last path is cut, and no other: not no path, not a whole one, not two
  pub no_path_cut : EndsCut pair (refusal_of 1) [] → ⊥
  pub whole_path_cut : EndsCut pair (refusal_of 1) (to_1 ∷ []) → ⊥
  pub cut_twice : EndsCut pair (refusal_of 1) (cut_0 ∷ cut_1 ∷ []) → ⊥
  -- a fetch past the image, one of a block that is not touched, one in falling order, one that is refused with a whole path,
  -- and one that is accepted with a cut one
  pub past_the_image : IsAsked pair (fetch_of 2 1 (Ok []) []) → ⊥
  pub not_touched : IsAsked pair (fetch_of 0 1 (Ok (5 ∷ [])) (to_1 ∷ [])) → ⊥
  pub in_falling_order : IsAsked pair (fetch_of 0 2 (Ok (5 ∷ 7 ∷ [])) (to_1 ∷ to_0 ∷ [])) → ⊥
  pub refused_and_whole : IsAsked pair (fetch_of 1 1 (Err (refusal_of 1)) (to_1 ∷ [])) → ⊥
  pub accepted_and_cut : IsAsked pair (fetch_of 1 1 (Ok (7 ∷ [])) (cut_1 ∷ [])) → ⊥
  -- a program makes its fetches and no others, comes to what it gives, and makes none behind one that was refused
  pub on_behind_refused : comes_by (one_byte 0 (Err (refusal_of 0)) ∷ one_byte 1 (Ok (7 ∷ [])) ∷ []) (Err (refusal_of 0)) → ⊥
  pub other_offset : comes_by (one_byte 1 (Err (refusal_of 0)) ∷ []) (Err (refusal_of 0)) → ⊥
  pub other_size : comes_by (fetch_of 0 2 (Err (refusal_of 0)) [] ∷ []) (Err (refusal_of 0)) → ⊥
  pub other_fault : comes_by (one_byte 0 (Err (refusal_of 0)) ∷ []) (Err Label) → ⊥
  pub other_value : comes_by (one_byte 0 (Ok (5 ∷ [])) ∷ one_byte 1 (Ok (7 ∷ [])) ∷ []) (Ok (7 ∷ 5 ∷ [])) → ⊥
  pub one_fetch_less : comes_by (one_byte 0 (Ok (5 ∷ [])) ∷ []) (Ok (5 ∷ [])) → ⊥
  pub one_fetch_more : comes_by (one_byte 0 (Ok (5 ∷ [])) ∷ one_byte 1 (Ok (7 ∷ [])) ∷ one_byte 2 (Ok []) ∷ []) (Ok (5 ∷ 7 ∷ [])) → ⊥
  pub refuses_otherwise : Makes {R = ℕ} {E = ℕ} {X = ℕ} (refuse 1) [] (Err 0) → ⊥
  pub refuses_and_fetches : Makes {R = ℕ} {E = ℕ} {X = ℕ} (refuse 1) (one_byte 0 (Ok []) ∷ []) (Err 1) → ⊥
  -- and what is so
  pub rising : Rising (0 ∷ 1 ∷ 3 ∷ [])
  pub touches_first : Touches 4 3 2 0
  pub touches_second : Touches 4 3 2 1
  pub ends_cut : EndsCut pair (refusal_of 1) (to_0 ∷ cut_1 ∷ [])
  pub makes_both : comes_by (one_byte 0 (Ok (5 ∷ [])) ∷ one_byte 1 (Ok (7 ∷ [])) ∷ []) (Ok (5 ∷ 7 ∷ []))
  pub makes_refused : comes_by (one_byte 0 (Err (refusal_of 0)) ∷ []) (Err (refusal_of 0))
  pub refuses : Makes {R = ℕ} {E = ℕ} {X = ℕ} (refuse 1) [] (Err 1)
